-- Calls that begin deeds pass the points of their steps.
use Rattle.std.proofs.Common.{◌≡◌, ◌⊎◌, inl, inr, ℕ, suc, ◌≤◌, Bool, true, false, List, [], ◌∷◌, ◌++◌, length, take, drop, Option, Some, None, refl, sym, ap, subst, ◌∙◌, arith, append-nil, append_assoc, length-append, true≢false}
use Rattle.std.specs.List.{All, list_all}
use Rattle.std.proofs.Math.Seq.{take-append_seam}
use Rattle.std.proofs.lemmas.Grind.{flat_map-append}
use Rattle.std.specs.Prelude.{fold}
use Rattle.std.proofs.lemmas.List.{map-append, take-append-drop, take_all}
use Rattle.std.proofs.lemmas.List.Elements.{All-cons, All-nil}
use Rattle.crash_plant.specs.Calls.{SameSite}
use Rattle.crash_plant.specs.Choices.{Choice, IsChoice}
use Rattle.crash_plant.specs.Moments.{PlantState}
use Rattle.pair_table.specs.declared.level.Level.{Level}
use Rattle.row_changes.specs.Changes.{Timed}
use Rattle.row_changes.specs.Spans.{all_broke}
use Rattle.record_rows.specs.Deeds.{Deed, time_meant_after}
use Rattle.site_means.specs.Images.{Shape, shape_of}
use Rattle.site_means.proofs.Goes.{shape_same}
use Rattle.xrc_command.specs.declared.line.Line.{Line}
use Rattle.site_store.specs.DeedChanges.{DeedOfChanges, changes_of, deeds_of}
use Rattle.site_store.specs.DoneDeeds.{points_of, with_next}
use Rattle.site_store.specs.Exceptions.{Exceptions}
use Rattle.site_store.specs.Seeing.{SeesAfter}
use Rattle.site_store.proofs.Moments.{first_seen}
use Rattle.passages.specs.Points.{AreLinked, GoesThrough, last_point}
use Rattle.consistency.specs.Stages.{ScriptRun, Stage, breaks_of}
use Rattle.consistency.specs.Bearing.{Bears, MayBeMeant, ShowsPoint}
use Rattle.consistency.specs.Leads.{Point}
use Rattle.consistency.specs.Ways.{ComesNext, HasCountedHits, IsAtWork, Leg, PassedPoint, Way, is_ending, is_on_the_way, last_answered, leg_after, leg_to}
use Rattle.consistency.specs.Ways.Way.{OnTheWay}
use Rattle.consistency.proofs.Legs.{ends_alike}
use Rattle.mover.specs.BorneLaws.{BegunDeedsBear, BegunDeedsPassPoints, DoneDeedsPassPoints, next_point}
use Rattle.mover.specs.Points.{AreSteps, point_after_deeds, point_by, points_by}
use Rattle.mover.specs.Working.{IsOnItsWay, ShowsLast, Work, WorkBegins}
use Rattle.mover.proofs.Bearing.{bears, broken, counted, may_be_meant, shown}
use Rattle.mover.specs.SilentBreaks.{all_silent, with_silent}
use Rattle.mover.proofs.Breaking.{same_deeds}
use Rattle.mover.proofs.Leading.{after_both, count_deeds, first_deeds, first_steps, flag_there, same_point, silent_points, silent_step, steps_after, take_silent}

-- The last of the points of the first deeds is the one after these.
last_by : (level : Level) (p : Point) (moments : List ℕ) (steps : List DeedOfChanges) → last_point p (points_by level p moments steps) ≡ point_after_deeds level p (take (length moments) steps)
last_by level p [] steps = refl
last_by level p (t ∷ moments) [] = refl
last_by level p (t ∷ moments) (step ∷ steps) = last_by level (point_by level p step) moments steps

-- The points of deeds are on the way.
pub points_are_on_the_way : (level : Level) (p : Point) (moments : List ℕ) (steps : List DeedOfChanges) → list_all is_on_the_way (points_by level p moments steps) ≡ true
points_are_on_the_way level p [] steps = refl
points_are_on_the_way level p (t ∷ moments) [] = refl
points_are_on_the_way level p (t ∷ moments) (step ∷ steps) = points_are_on_the_way level (point_by level p step) moments steps

module _ (old : PlantState) (k : Work) (w : WorkBegins old k) where
  abbrev run : ScriptRun
  run = k.run

  abbrev stage : Stage
  stage = k.stage

  abbrev line : Line
  line = k.line

  abbrev l : Leg
  l = k.leg

  abbrev excepted : Exceptions
  excepted = k.excepted

  abbrev steps : List DeedOfChanges
  steps = k.steps

  abbrev p : Point
  p = l.point

  abbrev silent : List DeedOfChanges → List DeedOfChanges
  silent front = all_silent line.time.0 (breaks_of run) front

  abbrev point_of : List DeedOfChanges → Point
  point_of front = point_after_deeds run.level p front

  -- the leg after the first steps
  abbrev leg_of : List DeedOfChanges → Leg
  leg_of front = leg_to l (point_of front) (changes_of (silent front))

  -- ---- the first steps

  -- What holds after the first steps.
  record Facts (front : List DeedOfChanges) : Type 0 where
    pub shown_there : (c : Choice) → SeesAfter old excepted p.rows (deeds_of front) c → ShowsPoint run (shape_of old) (point_of front) c
    pub may_there : MayBeMeant run stage (point_of front)
    pub broken_there : all_broke stage.replied (point_of front).time 0 (breaks_of run) (l.changes ++ changes_of (silent front)) ≡ true
    pub counted_there : HasCountedHits run (leg_of front)

  facts_at : (n : ℕ) → n ≤ length steps → Facts (take n steps)
  facts_at n le = record {
    shown_there = λ c sees. shown old k w n le c (subst (λ (ds : List Deed). SeesAfter old excepted p.rows ds c) (first_deeds n steps) sees);
    may_there = may_be_meant old k w n le;
    broken_there = broken old k w n le;
    counted_there = counted old k w n le;
  }

  facts : (front rest : List DeedOfChanges) → front ++ rest ≡ steps → Facts front
  facts front rest is =
      let within : length front ≤ length steps = (let e : length (front ++ rest) ≡ length steps = ap (λ (all : List DeedOfChanges). length all) is in omega (arith, e, length-append front rest)) in
      subst Facts (ap (take (length front)) (sym is) ∙ take-append_seam front rest) (facts_at (length front) within)

  -- ---- one step more

  more : (front : List DeedOfChanges) (step : DeedOfChanges) (rest : List DeedOfChanges) → front ++ (step ∷ rest) ≡ steps → (front ++ step ∷ []) ++ rest ≡ steps
  more front step rest is = append_assoc front (step ∷ []) rest ∙ is

  step_there : (front : List DeedOfChanges) (step : DeedOfChanges) (rest : List DeedOfChanges) → front ++ (step ∷ rest) ≡ steps → AreSteps run.level (breaks_of run) (point_of front) (step ∷ rest)
  step_there front step rest is = steps_after run.level (breaks_of run) p front (step ∷ rest) (subst (AreSteps run.level (breaks_of run) p) (sym is) w.logged.each)

  -- the point after it
  point_more : (front : List DeedOfChanges) (step : DeedOfChanges) (rest : List DeedOfChanges) → front ++ (step ∷ rest) ≡ steps → point_of (front ++ step ∷ []) ≡ point_by run.level (point_of front) (with_silent line.time.0 (breaks_of run) step)
  point_more front step rest is = after_both run.level p front (step ∷ []) ∙ sym (same_point run.level line.time.0 (breaks_of run) (point_of front) step (step_there front step rest is).0)

  deeds_more : (front : List DeedOfChanges) (step : DeedOfChanges) → deeds_of front ++ step.deed ∷ [] ≡ deeds_of (front ++ step ∷ [])
  deeds_more front step = sym (map-append (λ (d : DeedOfChanges). d.deed) front (step ∷ []))

  changes_more : (front : List DeedOfChanges) (step : DeedOfChanges) → changes_of (silent (front ++ step ∷ [])) ≡ changes_of (silent front) ++ (with_silent line.time.0 (breaks_of run) step).changes
  changes_more front step =
      let one = with_silent line.time.0 (breaks_of run) step in
      ap (λ (all : List DeedOfChanges). changes_of all) (map-append (with_silent line.time.0 (breaks_of run)) front (step ∷ []))
      ∙ flat_map-append (λ (d : DeedOfChanges). d.changes) (silent front) (one ∷ [])
      ∙ ap (λ (cs : List Timed). changes_of (silent front) ++ cs) (append-nil one.changes)

  -- ---- what is shown

  -- the one that is on its way tells of deeds on their way
  abbrev TellsNext : (new : PlantState) → Option (List Deed) → Option Point → Type 0
  TellsNext new None None = Unit {0}
  TellsNext new (Some d) (Some q) = (c : Choice) → SeesAfter old excepted p.rows d c → ShowsPoint run (shape_of new) q c
  TellsNext new None (Some q) = ⊥
  TellsNext new (Some d) None = ⊥

  module _ (new : PlantState) (site : SameSite old new) where
    abbrev Sees : List Deed → Choice → Type 0
    Sees d c = SeesAfter old excepted p.rows d c

    abbrev Shows : Point → Choice → Type 0
    Shows q c = ShowsPoint run (shape_of new) q c

    tell : (front rest : List DeedOfChanges) → front ++ rest ≡ steps → (c : Choice) → Sees (deeds_of front) c → Shows (point_of front) c
    tell front rest is c sees = subst (λ (shape : Shape). ShowsPoint run shape (point_of front) c) (sym (shape_same old new site)) ((facts front rest is).shown_there c sees)

    last_goes : (front rest : List DeedOfChanges) → front ++ rest ≡ steps → (from to : ℕ) (next : Option (List Deed)) (told : Option Point) → TellsNext new next told
        → GoesThrough {W = Deed} (IsChoice new) Sees from (deeds_of front) [] to next → GoesThrough {W = Way} (IsChoice new) Shows from (point_of front) [] to told
    last_goes front rest is from to None None tells h = (h.0, λ t since within c has. tell front rest is c (h.1 t since within c has))
    last_goes front rest is from to (Some d) (Some q) tells h = (h.0, λ t since within c has. either c (h.1 t since within c has))
      where
        either : (c : Choice) → Sees (deeds_of front) c ⊎ Sees d c → Shows (point_of front) c ⊎ Shows q c
        either c (inl sees) = inl (tell front rest is c sees)
        either c (inr sees) = inr (tells c sees)
    last_goes front rest is from to None (Some q) tells h = absurd tells
    last_goes front rest is from to (Some d) None tells h = absurd tells

    goes : (moments : List ℕ) (front rest : List DeedOfChanges) → front ++ rest ≡ steps → (from to : ℕ) (next : Option (List Deed)) (told : Option Point) → TellsNext new next told
        → GoesThrough (IsChoice new) Sees from (deeds_of front) (points_of (deeds_of front) moments (deeds_of rest)) to next
        → GoesThrough (IsChoice new) Shows from (point_of front) (points_by run.level (point_of front) moments (silent rest)) to told
    goes [] front rest is from to next told tells h = last_goes front rest is from to next told tells h
    goes (t ∷ moments) front [] is from to next told tells h = last_goes front [] is from to next told tells h
    goes (t ∷ moments) front (step ∷ rest) is from to next told tells h =
        let then = more front step rest is in
        let point = point_more front step rest is in
        let deeds = deeds_more front step in
        let tell_then : (c : Choice) → Sees (deeds_of front ++ step.deed ∷ []) c → Shows (point_by run.level (point_of front) (with_silent line.time.0 (breaks_of run) step)) c =
        λ c sees. subst (λ (q : Point). Shows q c) point (tell (front ++ step ∷ []) rest then c (subst (λ (d : List Deed). Sees d c) deeds sees)) in
        let rests : GoesThrough (IsChoice new) Sees t (deeds_of (front ++ step ∷ [])) (points_of (deeds_of (front ++ step ∷ [])) moments (deeds_of rest)) to next =
        subst (λ (d : List Deed). GoesThrough (IsChoice new) Sees t d (points_of d moments (deeds_of rest)) to next) deeds h.3 in (
          h.0,
          λ u since within c has. either (tell front (step ∷ rest) is c) (tell_then c) (h.1 u since within c has),
          λ u since within c has. tell_then c (h.2 u since within c has),
          subst (λ (q : Point). GoesThrough (IsChoice new) Shows t q (points_by run.level q moments (silent rest)) to told) point (goes moments (front ++ step ∷ []) rest then t to next told tells rests),
        )
      where
        either : {A B C D : Type 0} → (A → C) → (B → D) → A ⊎ B → C ⊎ D
        either f g (inl a) = inl (f a)
        either f g (inr b) = inr (g b)

  -- ---- each comes next

  module _ (asked : ℕ → Option Line) (work : IsAtWork run asked l) where
    at_work : (front : List DeedOfChanges) → IsAtWork run asked (leg_of front)
    at_work front = record {
      goes_on = flag_there run.level p front ∙ work.goes_on;
      not_ending = still (is_ending run asked (leg_of front)) refl;
      none_marked = work.none_marked;
    }
      where
        still : (t : Bool) → is_ending run asked (leg_of front) ≡ t → is_ending run asked (leg_of front) ≡ false
        still false is = is
        still true is = absurd (true≢false (sym (ends_alike run (point_of front) p (last_answered asked l.answered) (flag_there run.level p front) is) ∙ work.not_ending))

    abbrev leg_with : Point → List Timed → Leg
    leg_with q changes = record l { point = q; changes = changes }

    abbrev passed : (moment : ℕ) → (front : List DeedOfChanges) → DeedOfChanges → PassedPoint
    passed t front step = record {
      moment = t;
      point = point_by run.level (point_of front) (with_silent line.time.0 (breaks_of run) step);
      way = OnTheWay (with_silent line.time.0 (breaks_of run) step).changes;
    }

    leg_more : (t : ℕ) (front : List DeedOfChanges) (step : DeedOfChanges) (rest : List DeedOfChanges) → front ++ (step ∷ rest) ≡ steps → leg_of (front ++ step ∷ []) ≡ leg_after (leg_of front) (passed t front step)
    leg_more t front step rest is =
        let one = with_silent line.time.0 (breaks_of run) step in
        let changes : l.changes ++ changes_of (silent (front ++ step ∷ [])) ≡ (l.changes ++ changes_of (silent front)) ++ one.changes =
        ap (λ (cs : List Timed). l.changes ++ cs) (changes_more front step) ∙ sym (append_assoc l.changes (changes_of (silent front)) one.changes) in
        λ i. leg_with (point_more front step rest is i) (changes i)

    comes : (t : ℕ) (front : List DeedOfChanges) (step : DeedOfChanges) (rest : List DeedOfChanges) → front ++ (step ∷ rest) ≡ steps → ComesNext run asked (leg_of front) (passed t front step)
    comes t front step rest is =
        let one = with_silent line.time.0 (breaks_of run) step in
        let q = point_by run.level (point_of front) one in
        let f = facts (front ++ step ∷ []) rest (more front step rest is) in
        let same = leg_more t front step rest is in
        let i = silent_step run.level line.time.0 (breaks_of run) (point_of front) step (step_there front step rest is).0 in
        let broke : all_broke l.replied q.time 0 (breaks_of run) ((l.changes ++ changes_of (silent front)) ++ one.changes) ≡ true =
        subst (λ (n : ℕ). all_broke n q.time 0 (breaks_of run) ((l.changes ++ changes_of (silent front)) ++ one.changes) ≡ true) (sym w.at_line.leg_is.replied)
        (subst (λ (m : Leg). all_broke stage.replied m.point.time 0 (breaks_of run) m.changes ≡ true) same f.broken_there) in (
          (at_work front, record { leads = i.leads; together = i.together; broken = broke }),
          subst (HasCountedHits run) same f.counted_there,
        )

    links : (moments : List ℕ) (front rest : List DeedOfChanges) → front ++ rest ≡ steps → AreLinked (ComesNext run asked) leg_after (leg_of front) (points_by run.level (point_of front) moments (silent rest))
    links [] front rest is = tt
    links (t ∷ moments) front [] is = tt
    links (t ∷ moments) front (step ∷ rest) is = (
      comes t front step rest is,
      subst (λ (m : Leg). AreLinked (ComesNext run asked) leg_after m (points_by run.level m.point moments (silent rest))) (leg_more t front step rest is) (links moments (front ++ step ∷ []) rest (more front step rest is)),
    )

    -- The point on its way comes next after them, unless all were passed.
    comes_after : (moments : List ℕ) (front rest : List DeedOfChanges) → front ++ rest ≡ steps
        → IsOnItsWay run asked (fold leg_after (leg_of front) (points_by run.level (point_of front) moments (silent rest))) (point_after_deeds run.level (point_of front) (take (suc (length moments)) (silent rest)))
    comes_after [] front [] is = inl refl
    comes_after [] front (step ∷ rest) is = inr (OnTheWay (with_silent line.time.0 (breaks_of run) step).changes, (comes 0 front step rest is).0)
    comes_after (t ∷ moments) front [] is = inl refl
    comes_after (t ∷ moments) front (step ∷ rest) is =
        subst (λ (m : Leg). IsOnItsWay run asked (fold leg_after m (points_by run.level m.point moments (silent rest))) (point_after_deeds run.level m.point (take (suc (length moments)) (silent rest)))) (leg_more t front step rest is)
        (comes_after moments (front ++ step ∷ []) rest (more front step rest is))

  may_all : (moments : List ℕ) (front rest : List DeedOfChanges) → front ++ rest ≡ steps → All (λ n. MayBeMeant run stage n.point) (points_by run.level (point_of front) moments (silent rest))
  may_all [] front rest is = All-nil (λ (n : PassedPoint). MayBeMeant run stage n.point)
  may_all (t ∷ moments) front [] is = All-nil (λ (n : PassedPoint). MayBeMeant run stage n.point)
  may_all (t ∷ moments) front (step ∷ rest) is =
      let one = with_silent line.time.0 (breaks_of run) step in
      let q = point_by run.level (point_of front) one in
      let point = point_more front step rest is in
      let then = more front step rest is in
      All-cons (λ (n : PassedPoint). MayBeMeant run stage n.point) (record { moment = t; point = q; way = OnTheWay one.changes }) (points_by run.level q moments (silent rest))
      (subst (MayBeMeant run stage) point (facts (front ++ step ∷ []) rest then).may_there)
      (subst (λ (r : Point). All (λ n. MayBeMeant run stage n.point) (points_by run.level r moments (silent rest))) point (may_all moments (front ++ step ∷ []) rest then))

  -- ---- from the start on

  start_leg : leg_of [] ≡ l
  start_leg = ap (λ (cs : List Timed). record l { changes = cs }) (append-nil l.changes)

  links_all : (asked : ℕ → Option Line) → IsAtWork run asked l → (moments : List ℕ) → AreLinked (ComesNext run asked) leg_after l (points_by run.level p moments (silent steps))
  links_all asked work moments = subst (λ (m : Leg). AreLinked (ComesNext run asked) leg_after m (points_by run.level p moments (silent steps))) start_leg (links asked work moments [] steps refl)

  comes_all : (asked : ℕ → Option Line) → IsAtWork run asked l → (moments : List ℕ) → IsOnItsWay run asked (fold leg_after l (points_by run.level p moments (silent steps))) (point_after_deeds run.level p (take (suc (length moments)) (silent steps)))
  comes_all asked work moments =
      subst (λ (m : Leg). IsOnItsWay run asked (fold leg_after m (points_by run.level p moments (silent steps))) (point_after_deeds run.level p (take (suc (length moments)) (silent steps)))) start_leg (comes_after asked work moments [] steps refl)

  -- the point of the first deeds, with the changes that are named
  first_named : (n : ℕ) → point_of (take n steps) ≡ point_of (take n (silent steps))
  first_named n =
      sym (silent_points run.level line.time.0 (breaks_of run) p (take n steps) (first_steps run.level (breaks_of run) n p steps w.logged.each))
      ∙ ap (λ (all : List DeedOfChanges). point_of all) (sym (take_silent line.time.0 (breaks_of run) n steps))

  next_tells : (new : PlantState) → SameSite old new → (n : ℕ) → TellsNext new (Some (take n (deeds_of steps))) (Some (point_of (take n (silent steps))))
  next_tells new site n c sees =
      subst (λ (q : Point). ShowsPoint run (shape_of new) q c) (first_named n)
      (tell new site (take n steps) (drop n steps) (take-append-drop n steps) c (subst (λ (ds : List Deed). SeesAfter old excepted p.rows ds c) (sym (first_deeds n steps)) sees))

  -- A choice that shows so many deeds shows the last of their points.
  shows_first : (new : PlantState) → SameSite old new → (moments : List ℕ) → (c : Choice) → SeesAfter old excepted p.rows (take (length moments) (deeds_of steps)) c → ShowsPoint run (shape_of new) (last_point p (points_by run.level p moments (silent steps))) c
  shows_first new site moments c sees = subst (λ (q : Point). ShowsPoint run (shape_of new) q c) (sym (last_by run.level p moments (silent steps))) (next_tells new site (length moments) c sees)

  shows_last : (new : PlantState) → SameSite old new → (moments : List ℕ) → (c : Choice) → SeesAfter old excepted p.rows (take (length moments) (deeds_of steps)) c ⊎ SeesAfter old excepted p.rows (with_next (length moments) (deeds_of steps)) c
      → ShowsLast run new (last_point p (points_by run.level p moments (silent steps))) (Some (point_of (take (suc (length moments)) (silent steps)))) c
  shows_last new site moments c (inl sees) = inl (shows_first new site moments c sees)
  shows_last new site moments c (inr sees) = inr (next_tells new site (suc (length moments)) c sees)

  shows_all : (new : PlantState) → SameSite old new → (moments : List ℕ) → length moments ≡ length (deeds_of steps) → (c : Choice) → SeesAfter old excepted p.rows (deeds_of steps) c → ShowsPoint run (shape_of new) (last_point p (points_by run.level p moments (silent steps))) c
  shows_all new site moments each c sees =
      shows_first new site moments c (subst (λ (ds : List Deed). SeesAfter old excepted p.rows ds c) (sym (take_all (length moments) (deeds_of steps) (omega (arith, each)))) sees)

  next_may : (n : ℕ) → MayBeMeant run stage (point_of (take n (silent steps)))
  next_may n = subst (MayBeMeant run stage) (first_named n) (facts (take n steps) (drop n steps) (take-append-drop n steps)).may_there

pub begun_deeds_bear : (old new : PlantState) → BegunDeedsBear old new
begun_deeds_bear old new k w up begins t from to c has =
    let seen = first_seen old new k.excepted k.leg.point.rows (deeds_of k.steps) up begins t from to c has in
    let within : seen.0 ≤ length k.steps = (let few = seen.1 in omega (arith, few, count_deeds k.steps)) in
    let time = time_meant_after (take seen.0 (deeds_of k.steps)) k.leg.point.time in (
      time,
      subst (λ (shape : Shape). Bears k.run k.stage shape c time) (sym (shape_same old new begins.site)) (bears old k w seen.0 within c seen.2),
    )

pub begun_deeds_pass_points : (old new : PlantState) → BegunDeedsPassPoints old new
begun_deeds_pass_points old new k asked w work begins =
    let n = suc (length begins.moments) in
    record {
      same = same_deeds k.line.time.0 (breaks_of k.run) k.steps;
      goes = λ up. goes old k w new begins.site begins.moments [] k.steps refl old.clock new.clock (Some (with_next (length begins.moments) (deeds_of k.steps))) (next_point k begins.moments)
          (next_tells old k w new begins.site n) (begins.goes up);
      linked = links_all old k w asked work begins.moments;
      may = may_all old k w begins.moments [] k.steps refl;
      may_next = next_may old k w n;
      comes_next = comes_all old k w asked work begins.moments;
      now = λ c has. shows_last old k w new begins.site begins.moments c (begins.now c has);
    }

pub done_deeds_pass_points : (old new : PlantState) → DoneDeedsPassPoints old new
done_deeds_pass_points old new k asked w work does = record {
  same = same_deeds k.line.time.0 (breaks_of k.run) k.steps;
  goes = λ up. goes old k w new does.site does.moments [] k.steps refl old.clock new.clock None None tt (does.goes up);
  linked = links_all old k w asked work does.moments;
  may = may_all old k w does.moments [] k.steps refl;
  may_next = tt;
  comes_next = tt;
  now = λ c has. shows_all old k w new does.site does.moments does.each c (does.now c has);
}
