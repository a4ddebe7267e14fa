-- Lines that are answered by the points of their commands.
use Rattle.std.proofs.Common.{◌≡◌, ◌⊎◌, inl, inr, ℕ, suc, Bool, true, false, List, [], ◌∷◌, ◌++◌, length, Option, Some, refl, sym, ap, subst, ◌∙◌, append-nil, arith}
use Rattle.std.specs.Prelude.{fold, if◌then◌else◌}
use Rattle.std.proofs.lemmas.Bool.{cond-true, eq-eqb}
use Rattle.pair_table.specs.Tables.{Table}
use Rattle.crash_plant.specs.Moments.{PlantState}
use Rattle.row_changes.specs.Changes.{Timed, after_changes}
use Rattle.row_changes.specs.Spans.{AreCounted}
use Rattle.xrc_command.specs.declared.line.Line.{Line}
use Rattle.consistency.specs.Answering.{answered_by, is_command_of, points_before}
use Rattle.consistency.specs.Stages.{ScriptRun, Stage, accepts}
use Rattle.consistency.specs.Pauses.{AreSaidOf, HasPassed, asked_in}
use Rattle.consistency.specs.Courses.{Answered, IsAnswered}
use Rattle.consistency.specs.Leads.{Point}
use Rattle.consistency.specs.Replies.{IsReply}
use Rattle.consistency.specs.Replying.{HasNames, IsExact}
use Rattle.consistency.specs.Ways.{ComesBy, ComesNext, HasCountedHits, IsCommanding, IsEnding, IsLegOf, Leg, PassedPoint, Way, going_on, is_on_the_way, leg_after, leg_by}
use Rattle.consistency.specs.Ways.Way.{Commanded, Ending, MarkedFor, OnTheWay}
use Rattle.consistency.proofs.Answering.{line_is_answered}
use Rattle.consistency.proofs.CountingHits.{command_is_counted, end_is_counted}
use Rattle.consistency.proofs.Legs.{effect_is_hit, leg_goes, leg_is_marked, table_there}
use Rattle.consistency.proofs.Lines.{same_some}
use Rattle.consistency.proofs.OnTheWay.{leg_after_way}
use Rattle.consistency.proofs.Replying.{command_exactly, exact_is_reply}
use Rattle.passages.specs.Points.{AreLinked, last_point}
use Rattle.mover.specs.Working.{LinesAsked}
use Rattle.xrc_session.specs.Answering.{AreOfCommand}
use Rattle.xrc_session.specs.Answering.AreOfCommand.{AfterMark, OfCommand, OfEnd}
use Rattle.xrc_session.specs.Trails.{BringsChanges}
use Rattle.xrc_session.proofs.Asked.{fold_append, last_of_leg, none_of_number}

-- ---- a line that ends the session

module _ (run : ScriptRun) (s : Stage) (goes : s.table.is_ended ≡ false) (l : Leg) (leg : IsLegOf run s l) (q r : Point) (hits more : List Timed) (c : IsCommanding run s.next l q hits) (ending : IsEnding run s.next q r more) (text reply : List ℕ) (first : Point) (points : List PassedPoint) (number : ℕ) (names : HasNames s.table) where
  pub ending_exactly : AreCounted run.rises (s.past ++ l.changes ++ (hits ++ more)) → IsExact run s first points number (answered_by run s text reply c.line l.changes (hits ++ more))
      → IsAnswered run s (answered_by run s text reply c.line l.changes (hits ++ more))
  ending_exactly counted exact =
      let effect = c.active (leg_goes run s goes l leg) in
      let whole = effect_is_hit run s goes c.line l q (going_on r) hits more effect ending.leads in
      line_is_answered run s goes l leg c.line (going_on r) (hits ++ more) whole text reply counted
      (subst (λ (x : Table). IsReply (accepts run x c.line) c.line reply) (sym (table_there run s goes l leg c.line q hits effect))
      (exact_is_reply run s first points number (answered_by run s text reply c.line l.changes (hits ++ more)) names exact))

-- ---- a line by the points of its command

-- A line with these changes before its command and these hits after it is answered with its exact reply.
abbrev pub AnswersExactly : ScriptRun → Stage → Line → (changes hits : List Timed) → Type 0
AnswersExactly run s line changes hits = (text reply : List ℕ) (first : Point) (points : List PassedPoint) (number : ℕ) → (let a = answered_by run s text reply line changes hits in IsExact run s first points number a → IsAnswered run s a)

-- A mark before a command leaves the changes.
marks_change_none : (number : ℕ) (l : Leg) (n : PassedPoint) → (n.way ≡ OnTheWay []) ⊎ ((marked : List Timed) × (n.way ≡ MarkedFor number marked)) → (leg_after l n).changes ≡ l.changes
marks_change_none number l n (inl way) = ap (λ (w : Way). (leg_by l n.point w).changes) way ∙ append-nil l.changes
marks_change_none number l n (inr marked) = ap (λ (w : Way). (leg_by l n.point w).changes) marked.1

module _ (run : ScriptRun) (s : Stage) (goes : s.table.is_ended ≡ false) (names : HasNames s.table) (asked : LinesAsked) (number : ℕ) (line : Line) (heard : s.next ≡ Some line) (same : asked number ≡ s.next) where
  -- What comes by the command of the line.
  by_command : (l : Leg) (n : PassedPoint) (hits : List Timed) → n.way ≡ Commanded number hits → ComesNext run asked l n → IsCommanding run s.next l n.point hits
  by_command l n hits is next =
      let come = subst (λ (w : Way). ComesBy run asked l n.point w) is next.0 in
      subst (λ (o : Option Line). IsCommanding run o l n.point hits) same come.2

  of_line : (l : Leg) (q : Point) (hits : List Timed) (c : IsCommanding run s.next l q hits) → c.line ≡ line
  of_line l q hits c = same_some c.line line (sym c.heard ∙ heard)

  command_answers : (l : Leg) → IsLegOf run s l → (n : PassedPoint) (hits : List Timed) → n.way ≡ Commanded number hits → ComesNext run asked l n → AnswersExactly run s line l.changes hits
  command_answers l leg n hits is next text reply first points place =
      let c = by_command l n hits is next in
      let counted = command_is_counted run s l leg n.point number hits (subst (λ (w : Way). HasCountedHits run (leg_by l n.point w)) is next.1) in
      subst (λ (x : Line). let a = answered_by run s text reply x l.changes hits in IsExact run s first points place a → IsAnswered run s a) (of_line l n.point hits c)
      (command_exactly run s goes l leg n.point hits c text reply first points place names counted)

  end_answers : (l : Leg) → IsLegOf run s l → (n m : PassedPoint) (own more : List Timed) → n.way ≡ Commanded number own → m.way ≡ Ending number more → ComesNext run asked l n → ComesNext run asked (leg_after l n) m
      → AnswersExactly run s line l.changes (own ++ more)
  end_answers l leg n m own more is ends next last text reply first points place =
      let c = by_command l n own is next in
      let there = subst (λ (w : Way). ComesNext run asked (leg_by l n.point w) m) is last in
      let come = subst (λ (w : Way). ComesBy run asked (leg_by l n.point (Commanded number own)) m.point w) ends there.0 in
      let ending = subst (λ (o : Option Line). IsEnding run o n.point m.point more) same come.1 in
      let counted = end_is_counted run s l leg n.point m.point number own more (subst (λ (w : Way). HasCountedHits run (leg_by (leg_by l n.point (Commanded number own)) m.point w)) ends there.1) in
      subst (λ (x : Line). let a = answered_by run s text reply x l.changes (own ++ more) in IsExact run s first points place a → IsAnswered run s a) (of_line l n.point own c)
      (ending_exactly run s goes l leg n.point m.point own more c ending text reply first points place names counted)

  -- A mark before the command leaves the leg one of the stage, and its changes.
  leg_marked : (l : Leg) → IsLegOf run s l → (n : PassedPoint) → (n.way ≡ OnTheWay []) ⊎ ((marked : List Timed) × (n.way ≡ MarkedFor number marked)) → ComesNext run asked l n → IsLegOf run s (leg_after l n)
  leg_marked l leg n (inl way) next = leg_after_way run s asked l n leg (ap (λ (w : Way). is_on_the_way (record n { way = w })) way) next
  leg_marked l leg n (inr marked) next = subst (λ (w : Way). IsLegOf run s (leg_by l n.point w)) (sym marked.1) (leg_is_marked run s l n.point number marked.0 leg)

  -- A line is answered exactly by the points of its command, from a leg on whose changes come before it.
  pub line_answers : (hits : List Timed) (l : Leg) → IsLegOf run s l → (more : List PassedPoint) → AreOfCommand number hits more → AreLinked (ComesNext run asked) leg_after l more → AnswersExactly run s line l.changes hits
  line_answers hits l leg more (OfCommand n is) linked = command_answers l leg n hits is linked.0
  line_answers hits l leg more (OfEnd n m own after is ends all) linked =
      subst (λ (h : List Timed). AnswersExactly run s line l.changes h) (sym all) (end_answers l leg n m own after is ends linked.0 linked.1.0)
  line_answers hits l leg more (AfterMark n points before rest) linked =
      subst (λ (c : List Timed). AnswersExactly run s line c hits) (marks_change_none number l n before) (line_answers hits (leg_after l n) (leg_marked l leg n before linked.0) points rest linked.1)

-- ---- the leg after a command

-- After the points of a line's command a leg has just begun, with one line more answered.
pub record HasJustBegun (before : Leg) (l : Leg) : Type 0 where
  pub changes : l.changes ≡ []
  pub marked : l.marked ≡ []
  pub answered : l.answered ≡ suc before.answered
  pub replied : l.replied ≡ l.point.time

just_begun_by : (l : Leg) (q : Point) (number : ℕ) (hits : List Timed) → HasJustBegun l (leg_by l q (Commanded number hits))
just_begun_by l q number hits = record { changes = refl; marked = refl; answered = refl; replied = refl }

marks_answer_none : (number : ℕ) (l : Leg) (n : PassedPoint) → (n.way ≡ OnTheWay []) ⊎ ((marked : List Timed) × (n.way ≡ MarkedFor number marked)) → (leg_after l n).answered ≡ l.answered
marks_answer_none number l n (inl way) = ap (λ (w : Way). (leg_by l n.point w).answered) way
marks_answer_none number l n (inr marked) = ap (λ (w : Way). (leg_by l n.point w).answered) marked.1

pub just_begun : (number : ℕ) (hits : List Timed) (l : Leg) (more : List PassedPoint) → AreOfCommand number hits more → HasJustBegun l (fold leg_after l more)
just_begun number hits l more (OfCommand n is) = subst (λ (w : Way). HasJustBegun l (leg_by l n.point w)) (sym is) (just_begun_by l n.point number hits)
just_begun number hits l more (OfEnd n m own after is ends all) =
    subst (λ (w : Way). HasJustBegun l (leg_by (leg_by l n.point w) m.point m.way)) (sym is)
    (subst (λ (w : Way). HasJustBegun l (leg_by (leg_by l n.point (Commanded number own)) m.point w)) (sym ends) (record { changes = refl; marked = refl; answered = refl; replied = refl }))
just_begun number hits l more (AfterMark n points before rest) =
    let there = just_begun number hits (leg_after l n) points rest in
    record { changes = there.changes; marked = there.marked; answered = there.answered ∙ ap suc (marks_answer_none number l n before); replied = there.replied }

-- ---- the points before a command

of_command : (number : ℕ) (w : Way) (hits : List Timed) → (w ≡ Commanded number hits) ⊎ (w ≡ MarkedFor number hits) → is_command_of number w ≡ true
of_command number w hits (inl command) = ap (is_command_of number) command ∙ eq-eqb number number refl
of_command number w hits (inr mark) = ap (is_command_of number) mark ∙ eq-eqb number number refl

cut_here : (number : ℕ) (n : PassedPoint) (points : List PassedPoint) → is_command_of number n.way ≡ true → points_before number (n ∷ points) ≡ []
cut_here number n points is = cond-true (is_command_of number n.way) [] (n ∷ points_before number points) is

-- Before a command are the points that were passed, if none of them is of it.
pub before_append : (number : ℕ) (points more : List PassedPoint) → points_before number points ≡ points → points_before number (points ++ more) ≡ points ++ points_before number more
before_append number [] more none = refl
before_append number (n ∷ points) more none = by_way (is_command_of number n.way) none (before_append number points more)
  where
    by_way : (b : Bool) → (if b then [] else n ∷ points_before number points) ≡ n ∷ points → (points_before number points ≡ points → points_before number (points ++ more) ≡ points ++ points_before number more)
        → (if b then [] else n ∷ points_before number (points ++ more)) ≡ n ∷ (points ++ points_before number more)
    by_way true is rest = absurd cc
    by_way false is rest = let tail : points_before number points ≡ points = cc in ap (λ (xs : List PassedPoint). n ∷ xs) (rest tail)

-- The marks before a command leave the changes and the rows as they are.
pub record LeavesRows (l : Leg) (more : List PassedPoint) : Type 0 where
  pub changes : (fold leg_after l more).changes ≡ l.changes
  pub rows : (last_point l.point more).rows ≡ l.point.rows

none_leave : (l : Leg) (more : List PassedPoint) → more ≡ [] → LeavesRows l more
none_leave l more is = subst (LeavesRows l) (sym is) (record { changes = refl; rows = refl })

-- A mark with no hit is before the command, and those after it.
module _ (run : ScriptRun) (asked : LinesAsked) (number : ℕ) (l : Leg) (n : PassedPoint) (points : List PassedPoint) (way : n.way ≡ OnTheWay []) (next : ComesNext run asked l n) (later : LeavesRows (leg_after l n) (points_before number points)) where
  same_point : (leg_after l n).point ≡ n.point
  same_point = ap (λ (w : Way). (leg_by l n.point w).point) way

  come : ComesBy run asked l n.point (OnTheWay [])
  come = subst (λ (w : Way). ComesBy run asked l n.point w) way next.0

  after_mark : LeavesRows l (n ∷ points_before number points)
  after_mark = record {
    changes = later.changes ∙ marks_change_none number l n (inl way);
    rows = ap (λ (p : Point). (last_point p (points_before number points)).rows) (sym same_point) ∙ later.rows ∙ ap (λ (p : Point). p.rows) same_point ∙ come.1.leads.rows;
  }

  is_before : LeavesRows l (points_before number (n ∷ points))
  is_before = subst (LeavesRows l) (sym (ap (λ (w : Way). if is_command_of number w then [] else n ∷ points_before number points) way)) after_mark

pub before_command : (run : ScriptRun) (asked : LinesAsked) (number : ℕ) (hits : List Timed) (l : Leg) (more : List PassedPoint) → AreOfCommand number hits more → AreLinked (ComesNext run asked) leg_after l more → LeavesRows l (points_before number more)
before_command run asked number hits l more (OfCommand n is) linked = none_leave l (points_before number (n ∷ [])) (cut_here number n [] (of_command number n.way hits (inl is)))
before_command run asked number hits l more (OfEnd n m own after is ends all) linked = none_leave l (points_before number (n ∷ m ∷ [])) (cut_here number n (m ∷ []) (of_command number n.way own (inl is)))
before_command run asked number hits l more (AfterMark n points (inr marked) rest) linked = none_leave l (points_before number (n ∷ points)) (cut_here number n points (of_command number n.way marked.0 (inr marked.1)))
before_command run asked number hits l more (AfterMark n points (inl way) rest) linked = is_before run asked number l n points way linked.0 (before_command run asked number hits (leg_after l n) points rest linked.1)

last_append : (p : Point) (points more : List PassedPoint) → last_point p (points ++ more) ≡ last_point (last_point p points) more
last_append p [] more = refl
last_append p (n ∷ points) more = last_append n.point points more

-- ---- what a reply speaks of

-- Points that were passed after others answer a line with this number, from a leg of its stage on.
pub record AreOfLine (run : ScriptRun) (s : Stage) (asked : LinesAsked) (first : Leg) (points more : List PassedPoint) (number : ℕ) (hits : List Timed) : Type 0 where
  pub before : AreLinked (ComesNext run asked) leg_after first points
  pub leg : IsLegOf run s (fold leg_after first points)
  pub none_marked : (fold leg_after first points).marked ≡ []
  pub answered : (fold leg_after first points).answered ≡ number
  pub after : AreLinked (ComesNext run asked) leg_after (fold leg_after first points) more
  pub by : AreOfCommand number hits more

-- The reply speaks of them, and they bring its changes.
module _ (run : ScriptRun) (s : Stage) (asked : LinesAsked) (first : Leg) (points more : List PassedPoint) (number : ℕ) (hits : List Timed) (are : AreOfLine run s asked first points more number hits) where
  abbrev l : Leg
  l = fold leg_after first points

  none_before : points_before number points ≡ points
  none_before = none_of_number run asked first points number are.none_marked (omega (arith, are.answered)) are.before

  cut : points_before number (points ++ more) ≡ points ++ points_before number more
  cut = before_append number points more none_before

  there : LeavesRows l (points_before number more)
  there = before_command run asked number hits l more are.by are.after

  here : l.point ≡ last_point first.point points
  here = last_of_leg run asked first points are.none_marked are.before

  pub brings_of_line : (lines : List Answered) (a : Answered) → number ≡ length lines → a.changes ≡ l.changes → BringsChanges run s first (points ++ more) (length lines) a
  brings_of_line lines a is changes = record {
    changes =
        subst (λ (m : ℕ). (fold leg_after first (points_before m (points ++ more))).changes ≡ a.changes) is
        (ap (λ (xs : List PassedPoint). (fold leg_after first xs).changes) cut ∙ ap (λ (k : Leg). k.changes) (fold_append first points (points_before number more)) ∙ there.changes ∙ sym changes);
    rows =
        subst (λ (m : ℕ). (last_point first.point (points_before m (points ++ more))).rows ≡ after_changes run.level a.changes s.table.rows) is
        (ap (λ (xs : List PassedPoint). (last_point first.point xs).rows) cut ∙ ap (λ (p : Point). p.rows) (last_append first.point points (points_before number more))
        ∙ ap (λ (p : Point). (last_point p (points_before number more)).rows) (sym here) ∙ there.rows ∙ are.leg.whole.leads.rows ∙ ap (λ (c : List Timed). after_changes run.level c s.table.rows) (sym changes));
  }

  pub told_of_line : (lines : List Answered) (a : Answered) (plant : PlantState) (to : ℕ) → number ≡ length lines → a.changes ≡ l.changes → HasPassed run (asked_in (lines ++ a ∷ [])) first (points ++ more) plant to
      → AreSaidOf run s lines first (points ++ more) a plant to
  told_of_line lines a plant to is changes passed =
      let brings = brings_of_line lines a is changes in
      record {
        passed = passed;
        answered = ap (λ (k : Leg). k.answered) (fold_append first points more) ∙ (just_begun number hits l more are.by).answered ∙ ap suc (are.answered ∙ is);
        changes = brings.changes;
        rows = brings.rows;
      }
