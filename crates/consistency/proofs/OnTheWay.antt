-- Points on the way, one after another.
use Rattle.std.proofs.Common.{◌≡◌, ℕ, ◌≤◌, Bool, true, false, true≢false, not, List, [], ◌∷◌, Option, Some, None, refl, sym, ap, subst, ◌∙◌, arith}
use Rattle.std.specs.Prelude.{fold, is_none}
use Rattle.std.specs.List.{All, list_all}
use Rattle.std.proofs.lemmas.Bool.{and_parts}
use Rattle.std.proofs.lemmas.List.Elements.{All-cons, All-head, All-nil, All-tail, All-weaker}
use Rattle.pair_table.specs.Commands.{is_end}
use Rattle.row_changes.specs.Changes.{Timed}
use Rattle.xrc_command.specs.declared.line.Line.{Line}
use Rattle.consistency.specs.Stages.{IsTime, ScriptRun, Stage, accepts, accepts_end, breaks_of}
use Rattle.consistency.specs.Bearing.{MayBeMeant}
use Rattle.consistency.specs.Leads.{Point, may_rest}
use Rattle.passages.specs.Points.{AreLinked}
use Rattle.consistency.specs.Ways.{ComesBy, ComesNext, IsLegOf, Leg, PassedPoint, Way, is_on_the_way, last_answered, leg_after, leg_by, stage_point, table_at}
use Rattle.consistency.specs.Ways.Way.{Commanded, Ending, MarkedFor, OnTheWay}
use Rattle.consistency.proofs.CountingHits.{leg_is_counted}
use Rattle.consistency.proofs.Leading.{leads_rise}
use Rattle.consistency.proofs.Legs.{ends_alike, leg_goes_on, leg_may_be_meant}

-- A leg comes to the next point on the way.
pub leg_after_way : (run : ScriptRun) (s : Stage) (asked : ℕ → Option Line) (l : Leg) (n : PassedPoint) → IsLegOf run s l → is_on_the_way n ≡ true → ComesNext run asked l n → IsLegOf run s (leg_after l n)
leg_after_way run s asked l n leg on next = by_way n.way on next.0
  where
    by_way : (w : Way) → is_on_the_way (record n { way = w }) ≡ true → ComesBy run asked l n.point w → IsLegOf run s (leg_after l (record n { way = w }))
    by_way (OnTheWay changes) on way = leg_goes_on run s l n.point changes leg way.1
    by_way (Commanded line following) on way = absurd cc
    by_way (Ending line following) on way = absurd cc
    by_way (MarkedFor line following) on way = absurd cc

pub legs_go_on : (run : ScriptRun) (s : Stage) (asked : ℕ → Option Line) (l : Leg) (points : List PassedPoint) → IsLegOf run s l → list_all is_on_the_way points ≡ true → AreLinked (ComesNext run asked) leg_after l points → IsLegOf run s (fold leg_after l points)
legs_go_on run s asked l [] leg on linked = leg
legs_go_on run s asked l (n ∷ points) leg on linked =
    let parts = and_parts (is_on_the_way n) (list_all is_on_the_way points) on in
    legs_go_on run s asked (leg_after l n) points (leg_after_way run s asked l n leg parts.0 linked.0) parts.1 linked.1

-- ---- times

-- Times don't fall from a leg to the next point, nor to the leg after it.
next_rises : (run : ScriptRun) (asked : ℕ → Option Line) (l : Leg) (q : Point) (w : Way) → ComesBy run asked l q w → (l.point.time ≤ q.time) × (l.point.time ≤ (leg_by l q w).point.time)
next_rises run asked l q (OnTheWay changes) way = (leads_rise run.level (breaks_of run) l.point q changes way.1.leads, leads_rise run.level (breaks_of run) l.point q changes way.1.leads)
next_rises run asked l q (Commanded line following) way = by_end l.point.is_ended refl
  where
    by_end : (e : Bool) → l.point.is_ended ≡ e → (l.point.time ≤ q.time) × (l.point.time ≤ q.time)
    by_end true is = let same = ap (λ (p : Point). p.time) (way.2.ended is).0 in (omega (arith, same), omega (arith, same))
    by_end false is = let same = (way.2.active is).leads.at in (omega (arith, same), omega (arith, same))
next_rises run asked l q (Ending line following) way = (omega (arith, way.1.leads.at), omega (arith, way.1.leads.at))
next_rises run asked l q (MarkedFor line following) way = (omega (arith, way.2.leads.at), omega arith)

pub points_rise : (run : ScriptRun) (asked : ℕ → Option Line) (l : Leg) (points : List PassedPoint) → AreLinked (ComesNext run asked) leg_after l points → All (λ n. l.point.time ≤ n.point.time) points
points_rise run asked l [] linked = All-nil (λ (n : PassedPoint). l.point.time ≤ n.point.time)
points_rise run asked l (n ∷ points) linked =
    let here = next_rises run asked l n.point n.way linked.0.0 in
    All-cons (λ (m : PassedPoint). l.point.time ≤ m.point.time) n points here.0 (later here.1 (points_rise run asked (leg_after l n) points linked.1))
  where
    later : l.point.time ≤ (leg_after l n).point.time → All (λ m. (leg_after l n).point.time ≤ m.point.time) points → All (λ m. l.point.time ≤ m.point.time) points
    later up each k d within = omega (arith, up, each k d within)

-- ---- what each may be

-- The leg has come to the point.
pub point_after : (l : Leg) (n : PassedPoint) → is_on_the_way n ≡ true → (leg_after l n).point ≡ n.point
point_after l n on = by_way n.way on
  where
    by_way : (w : Way) → is_on_the_way (record n { way = w }) ≡ true → (leg_after l (record n { way = w })).point ≡ n.point
    by_way (OnTheWay changes) on = refl
    by_way (Commanded line following) on = refl
    by_way (Ending line following) on = refl
    by_way (MarkedFor line following) on = absurd cc

-- Each point on the way to the time of the next line may be meant.
pub ways_may_be_meant : (run : ScriptRun) (s : Stage) (asked : ℕ → Option Line) (line : Line) (l : Leg) (points : List PassedPoint) → s.table.is_ended ≡ false → s.next ≡ Some line → IsLegOf run s l
    → list_all is_on_the_way points ≡ true → AreLinked (ComesNext run asked) leg_after l points → All (λ n. (n.point.time ≤ line.time.0) × (may_rest true n.point ≡ true)) points
    → All (λ n. MayBeMeant run s n.point) points
ways_may_be_meant run s asked line l [] goes heard leg on linked each = All-nil (λ (n : PassedPoint). MayBeMeant run s n.point)
ways_may_be_meant run s asked line l (n ∷ points) goes heard leg on linked each =
    All-cons (λ (m : PassedPoint). MayBeMeant run s m.point) n points (subst (λ (p : Point). MayBeMeant run s p) there here)
    (ways_may_be_meant run s asked line (leg_after l n) points goes heard come parts.1 linked.1 (All-tail (λ (m : PassedPoint). (m.point.time ≤ line.time.0) × (may_rest true m.point ≡ true)) n points each))
  where
    parts : (is_on_the_way n ≡ true) × (list_all is_on_the_way points ≡ true)
    parts = and_parts (is_on_the_way n) (list_all is_on_the_way points) on

    rests : (n.point.time ≤ line.time.0) × (may_rest true n.point ≡ true)
    rests = All-head (λ (m : PassedPoint). (m.point.time ≤ line.time.0) × (may_rest true m.point ≡ true)) n points each

    come : IsLegOf run s (leg_after l n)
    come = leg_after_way run s asked l n leg parts.0 linked.0

    there : (leg_after l n).point ≡ n.point
    there = point_after l n parts.0

    up : s.replied ≤ n.point.time
    up = omega (arith, leads_rise run.level (breaks_of run) (stage_point s) (leg_after l n).point (leg_after l n).changes come.whole.leads, ap (λ (p : Point). p.time) there)

    timed : (next : Option Line) → next ≡ Some line → (let T : Type 0 = elim next [ None ↦ n.point.time ≡ s.replied | Some m ↦ elim s.table.is_ended [ true ↦ n.point.time ≡ s.replied | false ↦ n.point.time ≤ m.time.0 ] ] in T)
    timed None is = absurd cc
    timed (Some m) is =
        let same : m ≡ line = cc in
        subst (λ (e : Bool). let T : Type 0 = elim e [ true ↦ n.point.time ≡ s.replied | false ↦ n.point.time ≤ m.time.0 ] in T) (sym goes) (omega (arith, rests.0, ap (λ (x : Line). x.time.0) same))

    here : MayBeMeant run s (leg_after l n).point
    here =
        leg_may_be_meant run s goes (leg_after l n) come
        (subst (λ (p : Point). IsTime s p.time) (sym there) (up, timed s.next heard))
        (leg_is_counted run s (leg_after l n) come linked.0.1)
        (ap (λ (o : Option Line). may_rest (not (is_none o)) (leg_after l n).point) heard ∙ ap (may_rest true) there ∙ rests.1)

-- ---- a mark that a command's record needs

marks_next : (run : ScriptRun) (asked : ℕ → Option Line) (l : Leg) (q r : Point) (line : ℕ) (marked : List Timed) (w : Way) → line ≡ l.answered → ¬ (marked ≡ []) → ComesBy run asked (leg_by l q (MarkedFor line marked)) r w
    → (more : List Timed) × (w ≡ Commanded line more)
marks_next run asked l q r line marked (OnTheWay changes) number some way = absurd (some way.0.none_marked)
marks_next run asked l q r line marked (MarkedFor other hits) number some way = absurd (some way.1.none_marked)
marks_next run asked l q r line marked (Commanded other more) number some way = (more, ap (λ (n : ℕ). Commanded n more) (way.0 ∙ sym number))
marks_next run asked l q r line marked (Ending other hits) number some way = absurd (some way.0.none_marked)

-- After such a mark comes its command.
pub marks_are_commanded : (run : ScriptRun) (asked : ℕ → Option Line) (l : Leg) (n m : PassedPoint) (line : ℕ) (marked : List Timed) → n.way ≡ MarkedFor line marked → ComesNext run asked l n → ComesNext run asked (leg_after l n) m
    → (more : List Timed) × (m.way ≡ Commanded line more)
marks_are_commanded run asked l n m line marked is next then =
    let come = subst (λ (w : Way). ComesBy run asked l n.point w) is next.0 in
    let after = subst (λ (w : Way). ComesBy run asked (leg_by l n.point w) m.point m.way) is then.0 in
    marks_next run asked l n.point m.point line marked m.way come.0 come.2.some after

-- ---- the end

-- An ended session accepts no end.
never_twice_ended : (run : ScriptRun) (p : Point) (o : Option Line) → p.is_ended ≡ true → accepts_end run (table_at run p) o ≡ true → ⊥
never_twice_ended run p o ended accepted = never o (subst (λ (e : Bool). accepts_end run (table_at run (record p { is_ended = e })) o ≡ true) ended accepted)
  where
    never : (o : Option Line) → accepts_end run (table_at run (record p { is_ended = true })) o ≡ true → ⊥
    never None is = absurd cc
    never (Some m) is = by_end (is_end m.command) is
      where
        by_end : (b : Bool) → (let v : Bool = elim b [ true ↦ accepts run (table_at run (record p { is_ended = true })) m | false ↦ false ] in v ≡ true) → ⊥
        by_end true e = cc
        by_end false e = cc

differ : (b : Bool) → b ≡ true → b ≡ false → ⊥
differ true on off = cc
differ false on off = cc

-- After a point at which the session has ended comes the same point.
ended_next : (run : ScriptRun) (asked : ℕ → Option Line) (l : Leg) (q : Point) (w : Way) → l.point.is_ended ≡ true → ComesBy run asked l q w → (q ≡ l.point) × ((leg_by l q w).point ≡ l.point)
ended_next run asked l q (OnTheWay changes) ended way = absurd (true≢false (sym ended ∙ way.0.goes_on))
ended_next run asked l q (MarkedFor line following) ended way = absurd (true≢false (sym ended ∙ way.1.goes_on))
ended_next run asked l q (Commanded line following) ended way = ((way.2.ended ended).0, (way.2.ended ended).0)
ended_next run asked l q (Ending line following) ended way = absurd (never_twice_ended run l.point (asked line) ended way.1.accepted)

pub ended_points_stay : (run : ScriptRun) (asked : ℕ → Option Line) (l : Leg) (points : List PassedPoint) → l.point.is_ended ≡ true → AreLinked (ComesNext run asked) leg_after l points → All (λ n. n.point ≡ l.point) points
ended_points_stay run asked l [] ended linked = All-nil (λ (n : PassedPoint). n.point ≡ l.point)
ended_points_stay run asked l (n ∷ points) ended linked =
    let here = ended_next run asked l n.point n.way ended linked.0.0 in
    All-cons (λ (m : PassedPoint). m.point ≡ l.point) n points here.0
    (All-weaker (λ m. m.point ≡ (leg_after l n).point) (λ m. m.point ≡ l.point) (λ m same. same ∙ here.1) points (ended_points_stay run asked (leg_after l n) points (ap (λ (p : Point). p.is_ended) here.1 ∙ ended) linked.1))

-- After the command of an accepted end only its ending point comes.
ends_next : (run : ScriptRun) (asked : ℕ → Option Line) (l : Leg) (q r : Point) (line : ℕ) (following : List Timed) (w : Way) → line ≡ l.answered → accepts_end run (table_at run q) (asked line) ≡ true → ComesBy run asked (leg_by l q (Commanded line following)) r w
    → (more : List Timed) × (w ≡ Ending line more)
ends_next run asked l q r line following (OnTheWay changes) number accepted way = absurd (differ (accepts_end run (table_at run q) (asked line)) accepted (subst (λ (n : ℕ). accepts_end run (table_at run q) (asked n) ≡ false) (sym number) way.0.not_ending))
ends_next run asked l q r line following (MarkedFor other hits) number accepted way = absurd (differ (accepts_end run (table_at run q) (asked line)) accepted (subst (λ (n : ℕ). accepts_end run (table_at run q) (asked n) ≡ false) (sym number) way.1.not_ending))
ends_next run asked l q r line following (Commanded other hits) number accepted way = absurd (differ (accepts_end run (table_at run q) (asked line)) accepted (subst (λ (n : ℕ). accepts_end run (table_at run q) (asked n) ≡ false) (sym number) way.1))
ends_next run asked l q r line following (Ending other more) number accepted way = (more, ap (λ (n : ℕ). Ending n more) (omega (arith, number, way.0.last)))

pub ends_are_ended : (run : ScriptRun) (asked : ℕ → Option Line) (l : Leg) (n m : PassedPoint) (line : ℕ) (following : List Timed) → n.way ≡ Commanded line following → ComesNext run asked l n → accepts_end run (table_at run n.point) (asked line) ≡ true
    → ComesNext run asked (leg_after l n) m → (more : List Timed) × (m.way ≡ Ending line more)
ends_are_ended run asked l n m line following is next accepted then =
    let come = subst (λ (w : Way). ComesBy run asked l n.point w) is next.0 in
    let after = subst (λ (w : Way). ComesBy run asked (leg_by l n.point w) m.point m.way) is then.0 in
    ends_next run asked l n.point m.point line following m.way come.0 accepted after

-- Before an ending point comes the command of its line.
ends_before : (run : ScriptRun) (asked : ℕ → Option Line) (l : Leg) (q r : Point) (w : Way) (line : ℕ) (more : List Timed) → ComesBy run asked l q w → ComesBy run asked (leg_by l q w) r (Ending line more) → (following : List Timed) × (w ≡ Commanded line following)
ends_before run asked l q r (OnTheWay changes) line more way ending =
    absurd (differ (accepts_end run (table_at run l.point) (asked line)) (ends_alike run q l.point (asked line) way.1.leads.goes_on ending.1.accepted)
    (subst (λ (n : ℕ). accepts_end run (table_at run l.point) (last_answered asked n) ≡ false) ending.0.last way.0.not_ending))
ends_before run asked l q r (MarkedFor other hits) line more way ending =
    absurd (differ (accepts_end run (table_at run l.point) (asked line)) ending.1.accepted (subst (λ (n : ℕ). accepts_end run (table_at run l.point) (last_answered asked n) ≡ false) ending.0.last way.1.not_ending))
ends_before run asked l q r (Commanded other following) line more way ending = (following, ap (λ (n : ℕ). Commanded n following) (omega (arith, way.0, ending.0.last)))
ends_before run asked l q r (Ending other hits) line more way ending = absurd (never_twice_ended run q (asked line) way.1.ended ending.1.accepted)

pub ends_are_commanded : (run : ScriptRun) (asked : ℕ → Option Line) (l : Leg) (n m : PassedPoint) (line : ℕ) (more : List Timed) → ComesNext run asked l n → m.way ≡ Ending line more → ComesNext run asked (leg_after l n) m
    → (following : List Timed) × (n.way ≡ Commanded line following)
ends_are_commanded run asked l n m line more next is then = ends_before run asked l n.point m.point n.way line more next.0 (subst (λ (w : Way). ComesBy run asked (leg_after l n) m.point w) is then.0)
