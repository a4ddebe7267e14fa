-- After an epoch for a line that reached its limit, a session has again what an epoch begins with.
use Rattle.std.proofs.Common.{◌≡◌, inl, inr, ℕ, ◌+◌, ◌<◌, ◌≤◌, nat_eq, nat_lt, ◌&&◌, ◌||◌, not, Bool, true, false, List, [], ◌∷◌, ◌++◌, length, take, Option, None, refl, sym, ap, subst, ◌∙◌, arith, append-nil, append_assoc, true≢false}
use Rattle.std.specs.Prelude.{fold}
use Rattle.std.specs.List.{list_all}
use Rattle.std.proofs.lemmas.Bool.{and_from, and_parts, cases_Bool, eqb-true, lt-ltb, ltb-true}
use Rattle.std.proofs.lemmas.List.{length-map, take_all}
use Rattle.std.proofs.lemmas.List.Folds.{list_all-append}
use Rattle.crash_plant.specs.declared.device.Device.{Device}
use Rattle.crash_plant.specs.declared.device.Device.TheVariants.{Volume}
use Rattle.crash_plant.specs.Calls.{IsThere}
use Rattle.crash_plant.specs.Choices.{AtNow}
use Rattle.crash_plant.specs.Moments.{PlantState}
use Rattle.pair_table.specs.declared.level.Level.{Level}
use Rattle.pair_table.specs.declared.row.PairRow.{PairRow}
use Rattle.group_state.specs.Groups.{Group}
use Rattle.group_state.specs.Runs.{Answer}
use Rattle.group_state.specs.SoundStates.{IsGroupSound}
use Rattle.row_changes.specs.Changes.{Timed}
use Rattle.row_changes.specs.Changes.Due.{NoneDue}
use Rattle.row_changes.specs.Spans.{hit_count, is_break}
use Rattle.record_rows.specs.Deeds.{rows_after_deeds, time_meant_after}
use Rattle.record_rows.proofs.Counting.{counts_append}
use Rattle.site_means.specs.Images.{shape_of}
use Rattle.xrc_command.specs.declared.line.Line.{Line}
use Rattle.site_store.specs.DeedChanges.{DeedOfChanges, changes_of, deeds_of}
use Rattle.site_store.specs.DoneDeeds.{DoesDeeds}
use Rattle.site_store.specs.Exceptions.{Exceptions, excepted_after}
use Rattle.consistency.specs.Stages.{ScriptRun, breaks_of}
use Rattle.fed_logs.specs.Feeds.{is_answer_of_mover, part_of_mover}
use Rattle.fed_logs.specs.Logs.{BeginsLog, IsFedLog}
use Rattle.fed_logs.specs.Moves.{MakesAllDeeds, Plans}
use Rattle.fed_logs.specs.ShownBreaks.{BreaksAreToCome, BrokeAsTraces}
use Rattle.fed_logs.proofs.Bearing.{reached_holds}
use Rattle.fed_logs.proofs.ShownBreaks.{logs_break_as_traces}
use Rattle.consistency.specs.Bearing.{ShowsPoint}
use Rattle.consistency.specs.Leads.{Point}
use Rattle.consistency.specs.Ways.{IsLegOf, Leg, hits_of_leg, leg_after, leg_to}
use Rattle.mover.specs.Points.{point_after_deeds, point_by, points_by}
use Rattle.mover.specs.SilentBreaks.{all_silent, with_silent}
use Rattle.mover.specs.OwedTracks.{CarriedAsLive, FailedAreOwed, held_by_choice}
use Rattle.mover.specs.Working.{IsKeptToEnd, StandsForRows, excepted_last, last_point_of, Work, WorkBegins, named_steps, points_in}
use Rattle.mover.proofs.Bearing.{leg_there}
use Rattle.mover.proofs.Ending.{stands_for_rows_again}
use Rattle.mover.proofs.Leading.{count_deeds, fewer_hits, flag_there, rows_there, silent_points, time_there}
use Rattle.mover.proofs.Passing.{done_deeds_pass_points, points_are_on_the_way}
use Rattle.site_store.specs.Applying.{excepted_by_apply}
use Rattle.site_store.specs.Sites.{SiteState}
use Rattle.site_store.proofs.RowRoom.{reads_choice}
use Rattle.mover.specs.declared.ends.EpochEnd.TheVariants as ends
use Rattle.mover.specs.declared.lane.Lane.{Lane}
use Rattle.mover.specs.Moves.{Did, IsLeftAfter, KeepsAll}
use Rattle.mover.specs.Epochs.{AreStepsOf, ReachedBy, point_of}
use Rattle.mover.specs.Bearing.{EpochsStandAgain, IsEpochOf, RunSoFar, StandsAtLimit, StandsSoFar, is_early_break, run_on}
use Rattle.mover.proofs.EarlyBreaks.{made_early, named_early}
use Rattle.mover.proofs.EpochGoing.{none_waits}
use Rattle.mover.proofs.EpochWork.{apart, knows_duplex, same_rows, same_time, steps_are, up_to_line, work, work_begins}
use Rattle.mover.proofs.LogParts.{contains_filtered}

-- ---- the leg that points leave

-- The points of deeds leave a leg at the last of them, with all of their changes.
leg_after_steps : (level : Level) (l : Leg) (moments : List ℕ) (steps : List DeedOfChanges) → length moments ≡ length steps → fold leg_after l (points_by level l.point moments steps) ≡ leg_to l (point_after_deeds level l.point steps) (changes_of steps)
leg_after_steps level l [] [] each = ap (λ (changes : List Timed). record l { changes = changes }) (sym (append-nil l.changes))
leg_after_steps level l [] (step ∷ steps) each = absurd (omega (arith, each))
leg_after_steps level l (t ∷ moments) [] each = absurd (omega (arith, each))
leg_after_steps level l (t ∷ moments) (step ∷ steps) each =
    leg_after_steps level (leg_to l (point_by level l.point step) step.changes) moments steps (omega (arith, each))
    ∙ ap (λ (changes : List Timed). record l { point = point_after_deeds level (point_by level l.point step) steps; changes = changes }) (append_assoc l.changes step.changes (changes_of steps))

-- ---- fewer exceptions

fewer_excepted : (so : RunSoFar) (start : PlantState) (more less : Exceptions) (group : Group) (at : Point) (known : Plans) → ((d x : ℕ) → less d x ≡ true → more d x ≡ true) → StandsForRows so.run so.size start more group at known → StandsForRows so.run so.size start less group at known
fewer_excepted so start more less group at known still s = record {
  apart = s.apart;
  below = s.below;
  sized = s.sized;
  holds = s.holds;
  rowed = s.rowed;
  owed = λ k v has kept x low is. s.owed k v has kept x low (still has.row.device x is);
  failed = s.failed;
  carried = s.carried;
}

-- ---- a command's effect

-- No break before a time comes at it.
none_at : (time : ℕ) (changes : List Timed) → list_all (is_early_break time) changes ≡ true → list_all (λ t. not (is_break t && nat_eq t.time time)) changes ≡ true
none_at time [] early = refl
none_at time (t ∷ changes) early =
    let parts = and_parts (is_early_break time t) (list_all (is_early_break time) changes) early in
    and_from (not (is_break t && nat_eq t.time time)) (list_all (λ t. not (is_break t && nat_eq t.time time)) changes) (one (is_break t) (nat_eq t.time time) refl parts.0) (none_at time changes parts.1)
  where
    one : (breaks same : Bool) → nat_eq t.time time ≡ same → (not breaks || nat_lt t.time time) ≡ true → not (breaks && same) ≡ true
    one false same at is = refl
    one true false at is = refl
    one true true at is = absurd (omega (arith, eqb-true t.time time at, ltb-true t.time time is))

still_early : (before time : ℕ) (changes : List Timed) → before ≤ time → list_all (is_early_break before) changes ≡ true → list_all (is_early_break time) changes ≡ true
still_early before time [] up early = refl
still_early before time (t ∷ changes) up early =
    let parts = and_parts (is_early_break before t) (list_all (is_early_break before) changes) early in
    and_from (is_early_break time t) (list_all (is_early_break time) changes) (one (is_break t) (nat_lt t.time before) refl parts.0) (still_early before time changes up parts.1)
  where
    one : (breaks low : Bool) → nat_lt t.time before ≡ low → (not breaks || low) ≡ true → (not breaks || nat_lt t.time time) ≡ true
    one false low is early = refl
    one true true is early = lt-ltb t.time time (omega (arith, up, ltb-true t.time before is))
    one true false is early = absurd (true≢false (sym early))

-- ---- at the limit

module _ {S : Type 0} (tells : Type 0) (left : S → Option (List ℕ)) (faults : S → ℕ) (so : RunSoFar) (line : Line) (group next : Group) (old new : List (Lane S)) (site after : SiteState) (was is : PlantState) (e : IsEpochOf tells left faults so line group old new site after was is (ends.Reached next))
    (r : ReachedBy tells left line.time.0 group old new site next after is) (read : (d : Device) → IsThere is d → is.images is.clock d (is.bytes d)) where
  abbrev q : Point
  q = so.leg.point

  abbrev run : ScriptRun
  run = so.run

  abbrev steps : List DeedOfChanges
  steps = e.goes.ran.steps

  abbrev log : List Answer
  log = e.goes.ran.log

  abbrev named : List DeedOfChanges
  named = all_silent line.time.0 (breaks_of run) steps

  abbrev job : Work
  job = work tells left faults so line group old new site after was is (ends.Reached next) e

  began : WorkBegins was job
  began = work_begins tells left faults so line group old new site after was is (ends.Reached next) e

  at_time : q.time ≡ site.time
  at_time = same_time tells left faults so line group old new site after was is (ends.Reached next) e

  at_rows : q.rows ≡ site.told
  at_rows = same_rows tells left faults so line group old new site after was is (ends.Reached next) e

  are_steps : AreStepsOf run site steps
  are_steps = steps_are tells left faults so line group old new site after was is (ends.Reached next) e

  fed : IsFedLog run.traces group e.goes.ran.end log
  fed = e.goes.bears.fed run.traces e.stands.has_state.keeps e.for_line.turns

  same_end : e.goes.ran.end ≡ next
  same_end = sym e.goes.ran.ended

  is_left : IsLeftAfter site after (deeds_of steps)
  is_left = e.goes.ran.is_left

  all : KeepsAll site after so.done (part_of_mover log) (deeds_of steps)
  all = e.goes.ran.all so.done (knows_duplex tells left faults so line group old new site after was is (ends.Reached next) e)

  did : Did so.excepted site after (deeds_of steps) was is
  did = (e.goes.shows e.told).did so.excepted e.stands.has_site.stands

  waits_none : after.waiting ≡ []
  waits_none = r.begins.rests.idle

  does : DoesDeeds so.excepted q.rows (deeds_of steps) was is
  does =
      subst (λ (rows : List PairRow). DoesDeeds so.excepted rows (deeds_of steps) was is) (sym at_rows)
      (subst (λ (o : Exceptions). DoesDeeds o site.told (deeds_of steps) was is) (λ i. λ d x. none_waits site so.excepted d x e.stands.has_site.idle i) did.does)

  -- ---- the point

  last_is : last_point_of job ≡ point_of after
  last_is =
      let time : (last_point_of job).time ≡ after.time = time_there run.level q steps ∙ ap (time_meant_after (deeds_of steps)) at_time ∙ sym is_left.time in
      let rows : (last_point_of job).rows ≡ after.told = rows_there run.level q steps ∙ ap (rows_after_deeds (deeds_of steps)) at_rows ∙ sym is_left.rows in
      let due : (last_point_of job).due ≡ NoneDue = ap (λ (o : Point). (point_after_deeds run.level o steps).due) e.stands.at ∙ are_steps.due in
      let flag : (last_point_of job).is_ended ≡ false = flag_there run.level q steps ∙ ap (λ (o : Point). o.is_ended) e.stands.at in
      λ i. record { time = time i; rows = rows i; due = due i; is_ended = flag i }

  -- ---- the rows

  whole : IsKeptToEnd job after.time after.told all.known
  whole = subst (λ (o : Point). MakesAllDeeds o.time o.rows so.done (part_of_mover log) (deeds_of steps) after.time after.told all.known) (sym e.stands.at) all.makes

  first_log : BeginsLog so.size run.traces (held_by_choice was e.stands.some.0 q.rows) group q.time q.rows so.done
  first_log = e.stands.rows.holds e.stands.some.0 e.stands.some.1

  owed_then : FailedAreOwed so.size next after.told × CarriedAsLive next after.told
  owed_then =
      r.stands so.size e.stands.has_state.keeps (apart tells left faults so line group old new site after was is (ends.Reached next) e) first_log.sized
      (subst (FailedAreOwed so.size group) at_rows e.stands.rows.failed) (subst (CarriedAsLive group) at_rows e.stands.rows.carried)

  stood : StandsForRows run so.size is (excepted_last job) e.goes.ran.end (last_point_of job) all.known × AtNow (ShowsPoint run (shape_of is) (last_point_of job)) is
  stood =
      stands_for_rows_again was is job after.time after.told all.known began does whole (subst (λ (s : Group). FailedAreOwed so.size s after.told) (sym same_end) owed_then.0)
      (subst (λ (s : Group). CarriedAsLive s after.told) (sym same_end) owed_then.1) e.stands.some

  -- A track that is excepted still was excepted by the deeds.
  still_was : (d x : ℕ) → did.still d x ≡ true → excepted_last job d x ≡ true
  still_was d x still = elim (cases_Bool (excepted_last job d x)) [
    | inl is ↦ is
    | inr not ↦ absurd (true≢false (sym still ∙ sym (none_waits after did.still d x waits_none) ∙ did.fewer d x (same_there ∙ not)))
  ]
    where
      same_there : excepted_after site.told (deeds_of steps) (excepted_by_apply site so.excepted) d x ≡ excepted_last job d x
      same_there =
          ap (λ (o : Exceptions). excepted_after site.told (deeds_of steps) o d x) (λ i. λ d x. none_waits site so.excepted d x e.stands.has_site.idle i)
          ∙ ap (λ (rows : List PairRow). excepted_after rows (deeds_of steps) so.excepted d x) (sym at_rows)

  rows_then : StandsForRows run so.size is did.still next (point_of after) all.known
  rows_then =
      fewer_excepted so is (excepted_last job) did.still next (point_of after) all.known still_was
      (subst (λ (s : Group). StandsForRows run so.size is (excepted_last job) s (point_of after) all.known) same_end
      (subst (λ (o : Point). StandsForRows run so.size is (excepted_last job) e.goes.ran.end o all.known) last_is stood.0))

  -- ---- the shared state

  keeps_then : IsGroupSound next
  keeps_then =
      subst IsGroupSound same_end
      (reached_holds so.size run.traces (held_by_choice was e.stands.some.0 q.rows) group e.goes.ran.end log q.time after.time q.rows after.told so.done all.known (deeds_of steps) fed first_log whole).2

  broke_then : BrokeAsTraces run.traces next
  broke_then = subst (BrokeAsTraces run.traces) same_end (logs_break_as_traces run.traces group e.goes.ran.end log fed e.stands.has_state.broke)

  up : 0 < line.time.0
  up = let low = r.begins.rests.fast.fits.time in omega (arith, low, r.time.time)

  awaits_then : BreaksAreToCome run.traces line.time.0 next
  awaits_then = r.awaits run.traces up e.stands.has_state.keeps e.for_line.turns e.stands.has_state.awaits

  -- ---- the leg

  abbrev leg_then : Leg
  leg_then = leg_to so.leg (point_of after) (changes_of named)

  all_steps : take (length steps) steps ≡ steps
  all_steps = take_all (length steps) steps (omega arith)

  leg_is_then : IsLegOf run so.stage leg_then
  leg_is_then =
      subst (λ (o : Point). IsLegOf run so.stage (leg_to so.leg o (changes_of named))) last_is
      (subst (λ (l : List DeedOfChanges). IsLegOf run so.stage (leg_to so.leg (point_after_deeds run.level q l) (changes_of (all_silent line.time.0 (breaks_of run) l)))) all_steps
      (leg_there was job began (length steps) (omega arith)))

  early_then : list_all (is_early_break line.time.0) leg_then.changes ≡ true
  early_then =
      list_all-append (is_early_break line.time.0) so.leg.changes (changes_of named)
      ∙ and_from (list_all (is_early_break line.time.0) so.leg.changes) (list_all (is_early_break line.time.0) (changes_of named))
      (still_early site.time line.time.0 so.leg.changes (up_to_line tells left faults so line group old new site after was is (ends.Reached next) e) e.stands.early)
      (named_early line.time.0 (breaks_of run) steps
      (made_early run.traces group e.goes.ran.end log (part_of_mover log) line.time.0 fed e.stands.has_state.broke (subst (BreaksAreToCome run.traces line.time.0) (sym same_end) awaits_then) (contains_filtered is_answer_of_mover log) site.level false site.time site.told NoneDue steps NoneDue
      (e.goes.ran.made e.stands.has_site.goes_on)))

  hits_then : (d : ℕ) → hits_of_leg leg_then d + so.counts d ≤ is.faults (Volume d)
  hits_then d =
      let fewer = subst (λ (l : List DeedOfChanges). hit_count d (changes_of (all_silent line.time.0 (breaks_of run) l)) ≤ hit_count d (changes_of steps)) all_steps (fewer_hits d line.time.0 (breaks_of run) (length steps) steps) in
      omega (arith, fewer, e.goes.ran.counted d (e.for_line.counted d).0, e.stands.hits d, counts_append d so.leg.changes (changes_of named))

  -- ---- all together

  stands_then : StandsSoFar (run_on so leg_then did.still all.known) next after is
  stands_then = record {
    leg_is = leg_is_then;
    at = refl;
    early = subst (λ (n : ℕ). list_all (is_early_break n) leg_then.changes ≡ true) (sym r.time.time) early_then;
    hits = hits_then;
    shows = subst (λ (o : Point). AtNow (ShowsPoint run (shape_of is) o) is) last_is stood.1;
    rows = rows_then;
    has_site = record { level = e.stands.has_site.level ∙ sym is_left.level; goes_on = r.time.going e.stands.has_site.goes_on; idle = waits_none; stands = did.stands };
    has_state = record { keeps = keeps_then; broke = broke_then; awaits = subst (λ (n : ℕ). BreaksAreToCome run.traces n next) (sym r.time.time) awaits_then };
    some = (is.bytes, reads_choice is r.begins.rests.fast.fits.home read);
  }

  leaves_leg : (moments : List ℕ) → length moments ≡ length (deeds_of steps) → fold leg_after so.leg (points_by run.level q moments named) ≡ leg_then
  leaves_leg moments each =
      leg_after_steps run.level so.leg moments named (each ∙ count_deeds steps ∙ sym (length-map steps (with_silent line.time.0 (breaks_of run))))
      ∙ ap (λ (o : Point). leg_to so.leg o (changes_of named)) (silent_points run.level line.time.0 (breaks_of run) q steps began.logged.each ∙ last_is)

  pub stands_at_limit : StandsAtLimit so line next after was is
  stands_at_limit = record {
    leg = leg_then;
    excepted = did.still;
    done = all.known;
    stands = stands_then;
    passes = λ asked at_work.
        let found = done_deeds_pass_points was is job asked began at_work does in (
          points_in job does.moments (named_steps job),
          record { goes = found.goes; linked = found.linked; on_the_way = points_are_on_the_way so.run.level so.leg.point does.moments (named_steps job); may = found.may; may_next = tt; comes_next = tt; now = found.now },
          leaves_leg does.moments does.each,
        );
    effect = record { at = r.time.time; none_due = refl; not_broken_yet = none_at line.time.0 leg_then.changes early_then; settled = r.settled };
  }

pub epochs_stand_again : {S : Type 0} → (tells : Type 0) → (left : S → Option (List ℕ)) → (faults : S → ℕ) → (was is : PlantState) → (tells → (d : Device) → IsThere is d → is.images is.clock d (is.bytes d)) → EpochsStandAgain tells left faults was is
epochs_stand_again tells left faults was is read so line group next old new site after e r = stands_at_limit tells left faults so line group next old new site after was is e r (read e.told)
