-- The way of a session's devices, and what a run bears on it.
use Rattle.std.proofs.Common.{◌≡◌, ◌⊎◌, inl, inr, ℕ, ◌<◌, ◌≤◌, Bool, true, false, List, [], ◌∷◌, ◌++◌, length, Option, Some, None, refl, sym, ap, subst, ◌∙◌, append-nil, arith, nat_eq}
use Rattle.std.specs.Prelude.{◌-◌, fold, IfSome, is_none, not}
use Rattle.std.specs.List.{All}
use Rattle.std.proofs.lemmas.Bool.{cases_lt}
use Rattle.std.proofs.lemmas.List.{take-append-le}
use Rattle.std.proofs.lemmas.List.Elements.{All-head, All-tail, All-weaker}
use Rattle.crash_plant.specs.declared.device.Device.TheVariants.{Control, Volume}
use Rattle.crash_plant.specs.Calls.{Elapses, SameSite, Silent, WorksOnConsole}
use Rattle.crash_plant.specs.Choices.{AtNow, Choice, IsChoice}
use Rattle.crash_plant.specs.Moments.{PlantState}
use Rattle.crash_plant.proofs.Choices.{past_choice}
use Rattle.crash_plant.proofs.Steps.{site_trans}
use Rattle.row_changes.specs.Changes.{Timed}
use Rattle.row_changes.specs.Spans.{AreCounted}
use Rattle.site_means.specs.Images.{Shape, shape_of}
use Rattle.site_means.proofs.Goes.{shape_same}
use Rattle.xrc_command.specs.declared.line.Line.{Line}
use Rattle.consistency.specs.Bearing.{GoesThroughPoints, MayBeMeant, ShowsPoint}
use Rattle.consistency.specs.Stages.{IsTime, ScriptRun, Stage}
use Rattle.consistency.specs.Pauses.{RunGoesOn, ShowsMeant}
use Rattle.consistency.specs.Courses.{Answered, AreAsked, last_line_time, replies_of, stage_at, texts_of}
use Rattle.consistency.specs.Keeping.{stage_now}
use Rattle.consistency.specs.Leads.{Point, may_rest}
use Rattle.consistency.specs.Moments.{AreUpTo, BearsTime}
use Rattle.consistency.specs.Times.{times_said}
use Rattle.consistency.specs.Ways.{ComesNext, IsLegOf, Leg, PassedPoint, Way, leg_after, leg_at, stage_point}
use Rattle.consistency.proofs.Bearing.{points_bear}
use Rattle.consistency.proofs.Between.{passages_go_on}
use Rattle.consistency.proofs.Legs.{ended_may_be_meant, leg_may_be_meant}
use Rattle.consistency.proofs.Lines.{next_not_before, replied_by_last, stage_front}
use Rattle.consistency.proofs.Moments.{points_stay}
use Rattle.consistency.proofs.Standing.{console_choice}
use Rattle.passages.specs.Points.{AreLinked, Throughout, last_point}
use Rattle.passages.proofs.InARow.{in_a_row, links_go_on, moments_rise}
use Rattle.mover.specs.Working.{LinesAsked, IsOnItsWay, ShowsLast}
use Rattle.xrc_session.specs.Steps.{PassesPointsOn}
use Rattle.xrc_session.specs.Trails.{AreNext, GoesForth, Trail, asked_with, first_leg, last_leg, with_points}
use Rattle.xrc_session.specs.WrittenLines.{AreWrittenByLines}
use Rattle.xrc_session.specs.WrittenParts.{PassesInParts}
use Rattle.xrc_session.proofs.RowFrames.{changes_rows_none}
use Rattle.xrc_session.proofs.WrittenLines.{written_answered, written_heard, written_on, written_still}
use Rattle.xrc_session.proofs.Asked.{asked_alike, asked_of_lines, asked_of_none, fold_append, last_of_leg, links_look_back}

-- ---- what a run bears

up_to_later : (early late : ℕ) (times : List ℕ) → early ≤ late → AreUpTo early times → AreUpTo late times
up_to_later early late times le all = All-weaker (λ z. z ≤ early) (λ z. z ≤ late) (λ z at. omega (arith, le, at)) times all

pub last_meant : (run : ScriptRun) (s : Stage) (p : Point) (points : List PassedPoint) → MayBeMeant run s p → All (λ n. MayBeMeant run s n.point) points → MayBeMeant run s (last_point p points)
last_meant run s p [] may all = may
last_meant run s p (n ∷ points) may all =
    last_meant run s n.point points (All-head (λ (m : PassedPoint). MayBeMeant run s m.point) n points all) (All-tail (λ (m : PassedPoint). MayBeMeant run s m.point) n points all)

-- What may be meant is shown now, by each choice that shows the last of points or the one on its way.
module _ (run : ScriptRun) (s : Stage) (asked : LinesAsked) (l : Leg) (points : List PassedPoint) (next : Option Point) (old new : PlantState) (may : MayBeMeant run s l.point) (passes : PassesPointsOn run s asked l points next old new) where
  pub next_meant : IfSome next (MayBeMeant run s)
  next_meant = of_next next passes.on_its_way
    where
      of_next : (o : Option Point) → IfSome o (λ q. IsOnItsWay run asked (fold leg_after l points) q × MayBeMeant run s q) → IfSome o (MayBeMeant run s)
      of_next None on = tt
      of_next (Some q) on = on.1

  pub meant_now : AtNow (ShowsMeant run s new) new
  meant_now c is = of_next next next_meant (passes.now c is)
    where
      last : MayBeMeant run s (last_point l.point points)
      last = last_meant run s l.point points may passes.may

      of_next : (o : Option Point) → IfSome o (MayBeMeant run s) → ShowsLast run new (last_point l.point points) o c → ShowsMeant run s new c
      of_next None on shown = (last_point l.point points, last, shown)
      of_next (Some q) on (inl shown) = (last_point l.point points, last, shown)
      of_next (Some q) on (inr shown) = (q, on, shown)

module _ (first old new : PlantState) (run : ScriptRun) (lines : List Answered) (text : List ℕ) (goes : RunGoesOn run lines text first old) (site : SameSite old new) (elapses : Elapses old new) (silent : Silent old new) where
  abbrev s : Stage
  s = stage_now run first.script lines text

  later : old.clock ≤ new.clock
  later = (elapses.kept Control).later

  -- Where the plant keeps no past a run goes on by what stands now.
  without_past : ¬ (0 < first.clock) → (s.table.is_started ≡ true → AtNow (ShowsMeant run s new) new) → RunGoesOn run lines text first new
  without_past none shows = record {
    now = record {
      course = goes.now.course;
      asked = goes.now.asked;
      later = omega (arith, goes.now.later, later);
      site = site_trans first old new goes.now.site site;
      heard = silent.heard new.clock later (omega arith) ∙ goes.now.heard;
      script = goes.now.script ∙ ap (λ (l : List ℕ). texts_of lines ++ text ++ l) (sym silent.script);
      said = silent.said new.clock later (omega arith) ∙ goes.now.said;
      one_line = goes.now.one_line;
      bears = λ started c is. bears c (shows started c is);
      times = goes.now.times;
      short = goes.now.short;
    };
    exact = λ n a at.
        let had = goes.exact n a at in
        record { first = had.first; points = had.points; by = had.by; within = omega (arith, had.within, later); exact = had.exact; told = λ up. absurd (none up) };
    keeps = λ up. absurd (none up);
  }
    where
      bears : (c : Choice) → ShowsMeant run s new c → BearsTime run s (replies_of lines) new c
      bears c shown = record {
        time = shown.0.time;
        bears = points_bear run s (shape_of new) shown.0 c shown.2 shown.1;
        not_earlier = up_to_later (stage_at run lines (length lines)).replied shown.0.time (times_said (replies_of lines)) shown.1.in_time.0 goes.now.times;
      }

  -- A run goes on through calls that pass points.
  pub works_to_run : (asked : LinesAsked) (l : Leg) (points : List PassedPoint) (next : Option Point) → (s.table.is_started ≡ true → MayBeMeant run s l.point × PassesPointsOn run s asked l points next old new) → RunGoesOn run lines text first new
  works_to_run asked l points next works = by_past (cases_lt 0 first.clock)
    where
      by_past : (0 < first.clock) ⊎ (first.clock ≤ 0) → RunGoesOn run lines text first new
      by_past (inl up) =
          passages_go_on first old new run lines text l.point points next goes site elapses silent (λ started.
          let w = works started in
          (w.1.goes (omega (arith, up, goes.now.later)), w.0, w.1.may, next_meant run s asked l points next old new w.0 w.1))
      by_past (inr none) = without_past (λ up. absurd (omega (arith, up, none))) (λ started. let w = works started in meant_now run s asked l points next old new w.0 w.1)

  -- So does one that hasn't started.
  pub unstarted_to_run : s.table.is_started ≡ false → RunGoesOn run lines text first new
  unstarted_to_run off = works_to_run (λ n. None) (leg_at s 0) [] None (λ started. absurd (differ s.table.is_started started off))
    where
      differ : (b : Bool) → b ≡ true → b ≡ false → ⊥
      differ true one two = cc
      differ false one two = cc

-- ---- a leg at rest

-- The point of a leg of a stage at which no row has changed may be meant, whatever line was heard next.
module _ (run : ScriptRun) (script : List ℕ) (lines : List Answered) (text : List ℕ) (asked : AreAsked script lines) (counted : AreCounted run.rises (stage_at run lines (length lines)).past) where
  abbrev here : Stage
  here = stage_now run script lines text

  timed : here.table.is_ended ≡ false → IsTime here here.replied
  timed goes = (omega arith, by_next here.next refl)
    where
      by_next : (o : Option Line) → here.next ≡ o → (let T : Type 0 = elim o [ None ↦ here.replied ≡ here.replied | Some line ↦ elim here.table.is_ended [ true ↦ here.replied ≡ here.replied | false ↦ here.replied ≤ line.time.0 ] ] in T)
      by_next None is = refl
      by_next (Some line) is =
          let later = next_not_before (length lines) (last_line_time lines (length lines)) (nat_eq (length (texts_of lines ++ text)) (length script)) text line is in
          let last = replied_by_last run script lines (length lines) asked (omega arith) in
          subst (λ (e : Bool). let T : Type 0 = elim e [ true ↦ here.replied ≡ here.replied | false ↦ here.replied ≤ line.time.0 ] in T) (sym goes) (omega (arith, later, last))

  pub rest_is_meant : (l : Leg) → IsLegOf run here l → l.point ≡ stage_point here → l.changes ≡ [] → MayBeMeant run here l.point
  rest_is_meant l leg at none = by_end here.table.is_ended refl
    where
      by_end : (e : Bool) → here.table.is_ended ≡ e → MayBeMeant run here l.point
      by_end true ended = subst (λ (p : Point). MayBeMeant run here p) (sym at) (ended_may_be_meant run here ended)
      by_end false goes =
          leg_may_be_meant run here goes l leg (subst (λ (p : Point). IsTime here p.time) (sym at) (timed goes))
          (subst (λ (c : List Timed). AreCounted run.rises (here.past ++ c)) (sym none) (subst (λ (c : List Timed). AreCounted run.rises c) (sym (append-nil here.past)) counted))
          (subst (λ (p : Point). may_rest (not (is_none here.next)) p ≡ true) (sym at) refl)

-- ---- forth

-- Whatever a crash leaves at the last moment shows the last point.
pub last_shown : (run : ScriptRun) (plant : PlantState) (from to : ℕ) (p : Point) (points : List PassedPoint) → GoesThroughPoints run plant from p points to None → (c : Choice) → IsChoice plant to c → ShowsPoint run (shape_of plant) (last_point p points) c
last_shown run plant from to p [] goes c is = goes.1 to goes.0 (omega arith) c is
last_shown run plant from to p (n ∷ points) goes c is = last_shown run plant n.moment to n.point points goes.3 c is

module _ (run : ScriptRun) (lines : List Answered) (asked : Option Line) (trail : Trail) (began old new : PlantState) (site : SameSite old new) (elapses : Elapses old new) (up : 0 < old.clock) (forth : GoesForth run lines asked trail None began old) where
  from_before : forth.from ≤ old.clock
  from_before = moments_rise Point Way Choice (IsChoice old) (ShowsPoint run (shape_of old)) forth.from old.clock (first_leg run lines trail).point trail.points None forth.goes

  -- The session's devices go on by more points, from where they stand.
  goes_on : (more : List PassedPoint) (next : Option Point) → GoesThroughPoints run new old.clock (last_point (first_leg run lines trail).point trail.points) more new.clock next
      → GoesThroughPoints run new forth.from (first_leg run lines trail).point (trail.points ++ more) new.clock next
  goes_on more next goes =
      in_a_row Point Way Choice (IsChoice new) (ShowsPoint run (shape_of new)) forth.from old.clock new.clock (first_leg run lines trail).point trail.points more next
      (points_stay old new site elapses up run forth.from old.clock (first_leg run lines trail).point trail.points None (omega arith) forth.goes) goes

  begins_still : (c : Choice) → IsChoice new forth.from c → ShowsPoint run (shape_of new) (first_leg run lines trail).point c
  begins_still c is = subst (λ (shape : Shape). ShowsPoint run shape (first_leg run lines trail).point c) (sym (shape_same old new site)) (forth.begins c (past_choice old new forth.from c site elapses up from_before is))

  pub goes_forth_on : (s : Stage) (more : List PassedPoint) (next : Option Point) → (last_leg run lines trail).marked ≡ [] → PassesPointsOn run s (asked_with lines asked) (last_leg run lines trail) more next old new
      → GoesForth run lines asked (with_points more trail) next began new
  goes_forth_on s more next none passes = record {
    from = forth.from;
    since = forth.since;
    unsaid = elapses.said forth.from up from_before ∙ forth.unsaid;
    rowless = forth.rowless;
    begins = begins_still;
    goes = goes_on more next (subst (λ (p : Point). GoesThroughPoints run new old.clock p more new.clock next) there (passes.goes up));
    linked = links_go_on Leg PassedPoint (ComesNext run (asked_with lines asked)) leg_after (first_leg run lines trail) trail.points more forth.linked passes.linked;
    on_its_way = of_next next passes.on_its_way;
    written =
        written_on old new site elapses up lines asked (trail.started - 1) trail.points (first_leg run lines trail).point forth.from began more forth.written
        (subst (λ (p : Point). PassesInParts new old.clock new.clock p more) there (passes.written up));
  }
    where
      there : (last_leg run lines trail).point ≡ last_point (first_leg run lines trail).point trail.points
      there = last_of_leg run (asked_with lines asked) (first_leg run lines trail) trail.points none forth.linked

      of_next : (o : Option Point) → IfSome o (λ q. IsOnItsWay run (asked_with lines asked) (fold leg_after (last_leg run lines trail) more) q × MayBeMeant run s q)
          → IfSome o (IsOnItsWay run (asked_with lines asked) (last_leg run lines (with_points more trail)))
      of_next None on = tt
      of_next (Some q) on = subst (λ (l : Leg). IsOnItsWay run (asked_with lines asked) l q) (sym (fold_append (first_leg run lines trail) trail.points more)) on.0

  -- They stay where they are while the console works.
  pub goes_forth_said : (tells : Type 0) → tells → WorksOnConsole tells old new → GoesForth run lines asked trail None began new
  goes_forth_said tells told works = record {
    from = forth.from;
    since = forth.since;
    unsaid = elapses.said forth.from up from_before ∙ forth.unsaid;
    rowless = forth.rowless;
    begins = begins_still;
    goes = subst (λ (xs : List PassedPoint). GoesThroughPoints run new forth.from (first_leg run lines trail).point xs new.clock None) (append-nil trail.points) (goes_on [] None (later_still, shown));
    linked = forth.linked;
    on_its_way = tt;
    written =
        written_still old new site elapses up lines asked (trail.started - 1) trail.points (first_leg run lines trail).point forth.from began forth.written
        (λ rows. changes_rows_none rows old new (λ d there. works.devices told (Volume d)));
  }
    where
      later_still : old.clock ≤ new.clock
      later_still = (elapses.kept Control).later

      shown : Throughout (IsChoice new) old.clock new.clock (ShowsPoint run (shape_of new) (last_point (first_leg run lines trail).point trail.points))
      shown t since within c is =
          subst (λ (shape : Shape). ShowsPoint run shape (last_point (first_leg run lines trail).point trail.points) c) (sym (shape_same old new site))
          (last_shown run old forth.from old.clock (first_leg run lines trail).point trail.points forth.goes c (console_choice tells told old new t c works since within is))

module _ (run : ScriptRun) (lines : List Answered) (trail : Trail) where
  -- Links stay as they are when a line is heard at rest.
  pub next_heard : (asked other : Option Line) → (last_leg run lines trail).marked ≡ [] → (last_leg run lines trail).answered ≤ length lines → AreNext run lines asked trail → AreNext run lines other trail
  next_heard asked other none up linked = links_look_back run (asked_with lines asked) (asked_with lines other) (first_leg run lines trail) trail.points none (λ k below. asked_alike lines asked other k (omega (arith, below, up))) linked

  pub forth_heard : (asked other : Option Line) (began now : PlantState) → (last_leg run lines trail).marked ≡ [] → (last_leg run lines trail).answered ≤ length lines → now.heard now.clock ≡ began.heard began.clock ++ texts_of lines → now.said now.clock ≡ began.said began.clock ++ replies_of lines → GoesForth run lines asked trail None began now
      → GoesForth run lines other trail None began now
  forth_heard asked other began now none up heard said forth = record {
    from = forth.from;
    since = forth.since;
    unsaid = forth.unsaid;
    rowless = forth.rowless;
    begins = forth.begins;
    goes = forth.goes;
    linked = next_heard asked other none up forth.linked;
    on_its_way = tt;
    written = written_heard lines asked other (trail.started - 1) trail.points (first_leg run lines trail).point forth.from began now heard said forth.written;
  }

  -- The line that was heard is one of the lines, once it is answered.
  module _ (a : Answered) (within : trail.started ≤ length lines) where
    pub first_then : first_leg run (lines ++ a ∷ []) trail ≡ first_leg run lines trail
    first_then = ap (λ (s : Stage). leg_at s trail.started) (stage_front run lines (a ∷ []) trail.started within)

    pub asked_then : asked_with lines (Some a.line) ≡ asked_with (lines ++ a ∷ []) None
    asked_then = sym (asked_of_lines lines a) ∙ asked_of_none (lines ++ a ∷ [])

    pub next_answered : AreNext run lines (Some a.line) trail → AreNext run (lines ++ a ∷ []) None trail
    next_answered linked =
        subst (λ (l : Leg). AreLinked (ComesNext run (asked_with (lines ++ a ∷ []) None)) leg_after l trail.points) (sym first_then)
        (subst (λ (f : LinesAsked). AreLinked (ComesNext run f) leg_after (first_leg run lines trail) trail.points) asked_then linked)

    pub forth_answered : (began now : PlantState) → GoesForth run lines (Some a.line) trail None began now → GoesForth run (lines ++ a ∷ []) None trail None began now
    forth_answered began now forth = record {
      from = forth.from;
      since = forth.since;
      unsaid = forth.unsaid ∙ ap (λ (l : List Answered). began.said began.clock ++ replies_of l) (sym (take-append-le (trail.started - 1) lines (a ∷ []) (omega (arith, within))));
      rowless = ap (λ (l : Leg). l.point.rows) first_then ∙ forth.rowless;
      begins = subst (λ (l : Leg). (c : Choice) → IsChoice now forth.from c → ShowsPoint run (shape_of now) l.point c) (sym first_then) forth.begins;
      goes = subst (λ (l : Leg). GoesThroughPoints run now forth.from l.point trail.points now.clock None) (sym first_then) forth.goes;
      linked = next_answered forth.linked;
      on_its_way = tt;
      written =
          subst (λ (l : Leg). AreWrittenByLines (lines ++ a ∷ []) None (trail.started - 1) trail.points l.point forth.from began now) (sym first_then)
          (written_answered lines a (trail.started - 1) trail.points (first_leg run lines trail).point forth.from began now forth.written);
    }
