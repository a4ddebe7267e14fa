-- The work for a line's time in a run: the points that it passes, and how it comes to the line's time.
use Rattle.std.proofs.Common.{◌≡◌, ℕ, ◌+◌, ◌<◌, ◌≤◌, nat_eq, nat_lt, Bool, true, false, ◌&&◌, ◌||◌, not, List, [], ◌∷◌, ◌++◌, length, take, Option, Some, None, refl, sym, ap, subst, ◌∙◌, arith, append-nil, append_assoc, true≢false}
use Rattle.std.specs.Prelude.{IfSome, fold}
use Rattle.std.specs.List.{list_all}
use Rattle.std.proofs.lemmas.Bool.{and_from, and_parts, eqb-true, ltb-true}
use Rattle.std.proofs.lemmas.List.{length-map, take_all}
use Rattle.crash_plant.specs.declared.device.Device.{Device}
use Rattle.crash_plant.specs.declared.device.Device.TheVariants.{Volume}
use Rattle.crash_plant.specs.Calls.{IsThere}
use Rattle.crash_plant.specs.Choices.{AtNow}
use Rattle.crash_plant.specs.Moments.{PlantState}
use Rattle.pair_table.specs.declared.level.Level.{Level}
use Rattle.pair_table.specs.declared.row.PairRow.{PairRow}
use Rattle.group_state.specs.Groups.{Group}
use Rattle.group_state.specs.Runs.{Answer}
use Rattle.row_changes.specs.Changes.{Timed}
use Rattle.row_changes.specs.Changes.Due.{NoneDue}
use Rattle.row_changes.specs.Spans.{hit_count, is_break}
use Rattle.record_rows.specs.Deeds.{rows_after_deeds, time_meant_after}
use Rattle.record_rows.proofs.Counting.{counts_append}
use Rattle.passages.specs.Points.{last_point}
use Rattle.site_means.specs.Images.{shape_of}
use Rattle.xrc_command.specs.declared.line.Line.{Line}
use Rattle.site_store.specs.DeedChanges.{DeedOfChanges, changes_of, deeds_of}
use Rattle.site_store.specs.DoneDeeds.{DoesDeeds}
use Rattle.site_store.specs.Exceptions.{Exceptions}
use Rattle.site_store.specs.Sites.{SiteState}
use Rattle.consistency.specs.Stages.{ScriptRun, Stage, breaks_of}
use Rattle.consistency.specs.Bearing.{MayBeMeant, ShowsPoint}
use Rattle.consistency.specs.Leads.{Point}
use Rattle.consistency.specs.Ways.{IsAtWork, IsLegOf, Leg, MayTakeEffect, PassedPoint, hits_of_leg, is_ending, last_answered, leg_after, leg_to}
use Rattle.consistency.proofs.Legs.{ends_alike}
use Rattle.fed_logs.specs.Feeds.{is_answer_of_mover, part_of_mover}
use Rattle.fed_logs.specs.Logs.{IsFedLog}
use Rattle.fed_logs.specs.ShownBreaks.{BreaksAreToCome}
use Rattle.mover.specs.declared.ends.EpochEnd.{EpochEnd}
use Rattle.mover.specs.declared.ends.EpochEnd.TheVariants as ends
use Rattle.mover.specs.declared.lane.Lane.{Lane}
use Rattle.mover.specs.Bearing.{IsEpochOf, IsForLine, PassesOn, RunSoFar, StandsAtLimit, StandsSoFar, is_early_break}
use Rattle.mover.specs.Epochs.{AllTurnOut, AreStepsOf, EpochGoes, ReachedBy, end_result, point_of}
use Rattle.mover.specs.Moves.{Did, IsLeftAfter, MoverWorks, most_faults}
use Rattle.mover.specs.Points.{point_after_deeds, point_by, points_by}
use Rattle.mover.specs.SilentBreaks.{all_silent, with_silent}
use Rattle.mover.specs.Working.{LinesAsked, IsOnItsWay, PassesPoints, StandsForRows, Work, WorkBegins, last_point_of, named_steps}
use Rattle.mover.proofs.Bearing.{leg_there}
use Rattle.mover.proofs.EarlyBreaks.{made_early, named_early}
use Rattle.mover.proofs.EpochGoing.{none_waits}
use Rattle.mover.proofs.EpochStands.{epochs_stand_again}
use Rattle.mover.proofs.EpochWork.{epochs_bear, steps_are, work, work_begins}
use Rattle.mover.proofs.Leading.{count_deeds, fewer_hits, flag_there, rows_there, silent_points, time_there}
use Rattle.mover.proofs.LogParts.{contains_filtered}
use Rattle.mover.proofs.Passing.{done_deeds_pass_points, points_are_on_the_way}
use Rattle.xrc_session.specs.LinePauses.{GoesOnFrom, RisesCover, StandsForSite, site_point}
use Rattle.xrc_session.specs.MapsOwed.{MapsOwed, MapsRest}
use Rattle.xrc_session.specs.Frames.{rows_passed}
use Rattle.xrc_session.specs.Lanes.{sizes_of}
use Rattle.xrc_session.specs.Steps.{BeginsToPass, HasBrought, MayBring, PassesPointsOn}
use Rattle.xrc_session.proofs.BroughtSlots.{writes_followed, writes_rows}
use Rattle.xrc_session.proofs.BroughtMaps.{last_by, maps_over_epoch}
use Rattle.xrc_session.proofs.LastPoints.{last_rows_then}
use Rattle.xrc_session.proofs.WrittenParts.{part_on_the_way, passed_within}

-- ---- legs

-- The points of deeds leave a leg at the last of them, with all of their changes.
leg_after_steps : (level : Level) (l : Leg) (moments : List ℕ) (steps : List DeedOfChanges) → length moments ≡ length steps → fold leg_after l (points_by level l.point moments steps) ≡ leg_to l (point_after_deeds level l.point steps) (changes_of steps)
leg_after_steps level l [] [] each = ap (λ (changes : List Timed). record l { changes = changes }) (sym (append-nil l.changes))
leg_after_steps level l [] (step ∷ steps) each = absurd (omega (arith, each))
leg_after_steps level l (t ∷ moments) [] each = absurd (omega (arith, each))
leg_after_steps level l (t ∷ moments) (step ∷ steps) each =
    leg_after_steps level (leg_to l (point_by level l.point step) step.changes) moments steps (omega (arith, each))
    ∙ ap (λ (changes : List Timed). record l { point = point_after_deeds level (point_by level l.point step) steps; changes = changes }) (append_assoc l.changes step.changes (changes_of steps))

-- No break before a time comes at it.
none_at : (time : ℕ) (changes : List Timed) → list_all (is_early_break time) changes ≡ true → list_all (λ t. not (is_break t && nat_eq t.time time)) changes ≡ true
none_at time [] early = refl
none_at time (t ∷ changes) early =
    let parts = and_parts (is_early_break time t) (list_all (is_early_break time) changes) early in
    and_from (not (is_break t && nat_eq t.time time)) (list_all (λ t. not (is_break t && nat_eq t.time time)) changes) (one (is_break t) (nat_eq t.time time) refl parts.0) (none_at time changes parts.1)
  where
    one : (breaks same : Bool) → nat_eq t.time time ≡ same → (not breaks || nat_lt t.time time) ≡ true → not (breaks && same) ≡ true
    one false same at is = refl
    one true false at is = refl
    one true true at is = absurd (omega (arith, eqb-true t.time time at, ltb-true t.time time is))

-- ---- in a run

-- An epoch in a run: the work for a line's time begins at a leg, and the run's traces turn out so.
pub record IsInRun {S : Type 0} (tells : Type 0) (left : S → Option (List ℕ)) (faults : S → ℕ) (group : Group) (old new : List (Lane S)) (site after : SiteState) (began was is : PlantState) (result : EpochEnd) : Type 0 where
  pub told : tells
  pub run : ScriptRun
  pub stage : Stage
  pub line : Line
  pub asked : LinesAsked
  pub leg : Leg
  pub first : Point
  pub points : List PassedPoint
  pub level : run.level ≡ site.level
  pub goes_on : site.mark.ended ≡ false
  pub idle : site.waiting ≡ []
  pub may : MayBring run stage line asked leg first points site began was group
  pub turns : AllTurnOut left run.traces old new
  pub rises : RisesCover run began is
  pub works : MoverWorks tells site after was is (end_result result)
  pub goes : EpochGoes tells left faults line.time.0 group old new site after was is result

module _ {S : Type 0} (tells : Type 0) (left : S → Option (List ℕ)) (faults : S → ℕ) (group : Group) (old new : List (Lane S)) (site after : SiteState) (began was is : PlantState) (result : EpochEnd) (b : IsInRun tells left faults group old new site after began was is result) where
  abbrev here : StandsForSite b.run site group was
  here = b.may.goes_on.rows

  -- the run so far
  abbrev pub so_far : RunSoFar
  so_far = record { run = b.run; stage = b.stage; leg = b.leg; size = sizes_of b.run.traces; counts = λ d. began.faults (Volume d); excepted = here.excepted; done = here.done }

  at_site : b.leg.point ≡ point_of site
  at_site = b.may.at.here ∙ (λ i. record (point_of site) { is_ended = b.goes_on i })

  below : (d : ℕ) → was.faults (Volume d) < most_faults
  below d = let now = (b.rises d).0 in let up = b.works.others.faults (Volume d) in omega (arith, now, up)

  pub stands : StandsSoFar so_far group site was
  stands = record {
    leg_is = b.may.at.leg;
    at = at_site;
    early = ap (list_all (is_early_break site.time)) b.may.unchanged;
    hits = λ d. b.may.at.counted d (below d);
    shows = subst (λ (p : Point). AtNow (ShowsPoint b.run (shape_of was) p) was) (sym b.may.at.here) b.may.at.shows;
    rows = subst (λ (p : Point). StandsForRows b.run (sizes_of b.run.traces) was here.excepted group p here.done) (sym b.may.at.here) here.rows.rows;
    has_site = record { level = b.level; goes_on = b.goes_on; idle = b.idle; stands = here.stands };
    has_state = record { keeps = here.rows.keeps; broke = b.may.goes_on.broke; awaits = b.may.goes_on.come };
    some = here.rows.some;
  }

  pub for_line : IsForLine left so_far b.line old new is
  for_line = record { heard = b.may.heard; turns = b.turns; counted = λ d. ((b.rises d).0, (let up = (b.rises d).1 in omega (arith, up))) }

  abbrev pub epoch_of : IsEpochOf tells left faults so_far b.line group old new site after was is result
  epoch_of = record { told = b.told; stands = stands; for_line = for_line; goes = b.goes }

  rows_are : site.told ≡ b.leg.point.rows
  rows_are = sym (ap (λ (p : Point). p.rows) at_site)

  pub passes_points : (more : List PassedPoint) (next : Option Point) → PassesOn so_far b.asked was is more next → PassesPointsOn b.run b.stage b.asked b.leg more next was is
  passes_points more next p = record {
    goes = p.goes;
    linked = p.linked;
    may = p.may;
    on_its_way = both next p.comes_next p.may_next;
    now = p.now;
    volumes = writes_rows site b.leg.point.rows b.idle rows_are tells b.told after was is (end_result result) b.works.slots (rows_passed more);
    written = λ up.
        part_on_the_way was is b.works.others.site (b.works.others.elapses b.told) up b.leg.point more (passed_within b.run is was.clock is.clock b.leg.point more next (p.goes up)) p.on_the_way
        (writes_followed site b.leg.point.rows b.idle rows_are tells b.told after was is (end_result result) b.works.slots);
  }
    where
      both : (o : Option Point) → IfSome o (IsOnItsWay b.run b.asked (fold leg_after b.leg more)) → IfSome o (MayBeMeant b.run b.stage) → IfSome o (λ q. IsOnItsWay b.run b.asked (fold leg_after b.leg more) q × MayBeMeant b.run b.stage q)
      both None comes meant = tt
      both (Some q) comes meant = (comes, meant)

  -- Points are passed, whatever becomes of the work.
  pub begins_to_pass : BeginsToPass b.run b.stage b.asked b.leg was is
  begins_to_pass =
      let found = (epochs_bear tells left faults was is so_far b.line group old new site after result epoch_of).passes b.asked b.may.at_work in
      (found.0, (found.1, passes_points found.0 found.1 found.2))

-- ---- at the line's time

module _ {S : Type 0} (tells : Type 0) (left : S → Option (List ℕ)) (faults : S → ℕ) (group next : Group) (old new : List (Lane S)) (site after : SiteState) (began was is : PlantState) (b : IsInRun tells left faults group old new site after began was is (ends.Reached next))
    (r : ReachedBy tells left b.line.time.0 group old new site next after is) (read : tells → (d : Device) → IsThere is d → is.images is.clock d (is.bytes d)) where
  abbrev so : RunSoFar
  so = so_far tells left faults group old new site after began was is (ends.Reached next) b

  abbrev run : ScriptRun
  run = b.run

  abbrev leg : Leg
  leg = b.leg

  abbrev here_excepted : Exceptions
  here_excepted = so.excepted

  abbrev e : IsEpochOf tells left faults so b.line group old new site after was is (ends.Reached next)
  e = epoch_of tells left faults group old new site after began was is (ends.Reached next) b

  abbrev steps : List DeedOfChanges
  steps = b.goes.ran.steps

  abbrev log : List Answer
  log = b.goes.ran.log

  abbrev named : List DeedOfChanges
  named = all_silent b.line.time.0 (breaks_of run) steps

  abbrev job : Work
  job = work tells left faults so b.line group old new site after was is (ends.Reached next) e

  stand : StandsAtLimit so b.line next after was is
  stand = epochs_stand_again tells left faults was is read so b.line group next old new site after e r

  began_job : WorkBegins was job
  began_job = work_begins tells left faults so b.line group old new site after was is (ends.Reached next) e

  are_steps : AreStepsOf run site steps
  are_steps = steps_are tells left faults so b.line group old new site after was is (ends.Reached next) e

  is_left : IsLeftAfter site after (deeds_of steps)
  is_left = b.goes.ran.is_left

  did : Did here_excepted site after (deeds_of steps) was is
  did = (b.goes.shows b.told).did here_excepted e.stands.has_site.stands

  does : DoesDeeds here_excepted leg.point.rows (deeds_of steps) was is
  does =
      subst (λ (rows : List PairRow). DoesDeeds here_excepted rows (deeds_of steps) was is) (sym (ap (λ (p : Point). p.rows) e.stands.at))
      (subst (λ (o : Exceptions). DoesDeeds o site.told (deeds_of steps) was is) (λ i. λ d x. none_waits site here_excepted d x b.idle i) did.does)

  found : PassesPoints was is job b.asked does.moments (named_steps job) None
  found = done_deeds_pass_points was is job b.asked began_job b.may.at_work does

  -- the points of the deeds
  abbrev more : List PassedPoint
  more = points_by run.level leg.point does.moments named

  passes : PassesOn so b.asked was is more None
  passes = record { goes = found.goes; linked = found.linked; on_the_way = points_are_on_the_way run.level leg.point does.moments named; may = found.may; may_next = tt; comes_next = tt; now = found.now }

  -- ---- the leg

  last_is : last_point_of job ≡ point_of after
  last_is =
      let time : (last_point_of job).time ≡ after.time = time_there run.level leg.point steps ∙ ap (λ (p : Point). time_meant_after (deeds_of steps) p.time) e.stands.at ∙ sym is_left.time in
      let rows : (last_point_of job).rows ≡ after.told = rows_there run.level leg.point steps ∙ ap (λ (p : Point). rows_after_deeds (deeds_of steps) p.rows) e.stands.at ∙ sym is_left.rows in
      let due : (last_point_of job).due ≡ NoneDue = ap (λ (o : Point). (point_after_deeds run.level o steps).due) e.stands.at ∙ are_steps.due in
      let flag : (last_point_of job).is_ended ≡ false = flag_there run.level leg.point steps ∙ ap (λ (o : Point). o.is_ended) e.stands.at in
      λ i. record { time = time i; rows = rows i; due = due i; is_ended = flag i }

  abbrev leg_then : Leg
  leg_then = leg_to leg (point_of after) (changes_of named)

  every : length does.moments ≡ length named
  every = does.each ∙ count_deeds steps ∙ sym (length-map steps (with_silent b.line.time.0 (breaks_of run)))

  leaves_leg : fold leg_after leg more ≡ leg_then
  leaves_leg =
      leg_after_steps run.level leg does.moments named every
      ∙ ap (λ (o : Point). leg_to leg o (changes_of named)) (silent_points run.level b.line.time.0 (breaks_of run) leg.point steps began_job.logged.each ∙ last_is)

  all_steps : take (length steps) steps ≡ steps
  all_steps = take_all (length steps) steps (omega arith)

  leg_is_then : IsLegOf run b.stage leg_then
  leg_is_then =
      subst (λ (o : Point). IsLegOf run b.stage (leg_to leg o (changes_of named))) last_is
      (subst (λ (l : List DeedOfChanges). IsLegOf run b.stage (leg_to leg (point_after_deeds run.level leg.point l) (changes_of (all_silent b.line.time.0 (breaks_of run) l)))) all_steps
      (leg_there was job began_job (length steps) (omega arith)))

  hits_then : (d : ℕ) → hits_of_leg leg_then d + began.faults (Volume d) ≤ is.faults (Volume d)
  hits_then d =
      let fewer = subst (λ (l : List DeedOfChanges). hit_count d (changes_of (all_silent b.line.time.0 (breaks_of run) l)) ≤ hit_count d (changes_of steps)) all_steps (fewer_hits d b.line.time.0 (breaks_of run) (length steps) steps) in
      omega (arith, fewer, b.goes.ran.counted d (b.rises d).0, e.stands.hits d, counts_append d leg.changes (changes_of named))

  fed : IsFedLog run.traces group b.goes.ran.end log
  fed = b.goes.bears.fed run.traces e.stands.has_state.keeps b.turns

  to_come : BreaksAreToCome run.traces b.line.time.0 b.goes.ran.end
  to_come = subst (BreaksAreToCome run.traces b.line.time.0) b.goes.ran.ended (subst (λ (n : ℕ). BreaksAreToCome run.traces n next) r.time.time stand.stands.has_state.awaits)

  early_then : list_all (is_early_break b.line.time.0) (changes_of named) ≡ true
  early_then =
      named_early b.line.time.0 (breaks_of run) steps
      (made_early run.traces group b.goes.ran.end log (part_of_mover log) b.line.time.0 fed e.stands.has_state.broke to_come (contains_filtered is_answer_of_mover log) site.level false site.time site.told NoneDue steps NoneDue
      (b.goes.ran.made b.goes_on))

  effect_then : MayTakeEffect run b.line leg_then
  effect_then = record {
    at = r.time.time;
    none_due = refl;
    not_broken_yet = none_at b.line.time.0 leg_then.changes (ap (λ (changes : List Timed). list_all (is_early_break b.line.time.0) (changes ++ changes_of named)) b.may.unchanged ∙ early_then);
    settled = r.settled;
  }

  at_work : IsAtWork run b.asked leg_then
  at_work = record { goes_on = refl; not_ending = still (is_ending run b.asked leg_then) refl; none_marked = b.may.at_work.none_marked }
    where
      still : (t : Bool) → is_ending run b.asked leg_then ≡ t → is_ending run b.asked leg_then ≡ false
      still false is = is
      still true is = absurd (true≢false (sym (ends_alike run (point_of after) leg.point (last_answered b.asked leg.answered) (sym (ap (λ (p : Point). p.is_ended) e.stands.at)) is) ∙ b.may.at_work.not_ending))

  -- ---- the site

  site_is : point_of after ≡ site_point after
  site_is = λ i. record (point_of after) { is_ended = sym stand.stands.has_site.goes_on i }

  there : stand.leg.point ≡ site_point after
  there = stand.stands.at ∙ site_is

  stands_for : StandsForSite run after next is
  stands_for = record {
    excepted = stand.excepted;
    done = stand.done;
    stands = stand.stands.has_site.stands;
    rows = record {
      rows = subst (λ (p : Point). StandsForRows run (sizes_of run.traces) is stand.excepted next p stand.done) there stand.stands.rows;
      keeps = stand.stands.has_state.keeps;
      some = stand.stands.some;
    };
  }

  -- the last point's rows
  last_there : (last_point b.first (b.points ++ more)).rows ≡ after.told
  last_there =
      last_rows_then b.first leg.point b.points more (b.may.goes_on.last ∙ ap (λ (p : Point). p.rows) (sym e.stands.at))
      ∙ ap (λ (p : Point). p.rows) (last_by run.level leg.point does.moments named every ∙ silent_points run.level b.line.time.0 (breaks_of run) leg.point steps began_job.logged.each ∙ last_is)

  maps_there : MapsOwed run b.first (b.points ++ more) (site_point after) next × MapsRest (site_point after) next
  maps_there = maps_over_epoch tells left faults was is so b.line group next old new site after e r b.first b.points does.moments does.each b.may.goes_on.last b.may.goes_on.maps_rest b.may.cut b.may.goes_on.maps

  goes_on : GoesOnFrom run b.first (b.points ++ more) after is next
  goes_on = record {
    rows = stands_for;
    broke = stand.stands.has_state.broke;
    come = stand.stands.has_state.awaits;
    last = last_there;
    maps = maps_there.0;
    maps_rest = maps_there.1;
  }

  brought : HasBrought run b.stage b.line b.asked (fold leg_after leg more) b.first (b.points ++ more) after began is next
  brought = subst (λ (l : Leg). HasBrought run b.stage b.line b.asked l b.first (b.points ++ more) after began is next) (sym leaves_leg) (record {
    asked_is = b.may.asked_is;
    at = record {
      here = site_is;
      shows = subst (λ (p : Point). AtNow (ShowsPoint run (shape_of is) p) is) there stand.stands.shows;
      leg = leg_is_then;
      counted = λ d below. hits_then d;
    };
    at_work = at_work;
    may = effect_then;
    goes_on = goes_on;
  })

  -- The points of the deeds are passed, and leave the leg at the line's time.
  pub ends_bringing : (points : List PassedPoint) × PassesPointsOn run b.stage b.asked leg points None was is × HasBrought run b.stage b.line b.asked (fold leg_after leg points) b.first (b.points ++ points) after began is next
  ends_bringing = (more, passes_points tells left faults group old new site after began was is (ends.Reached next) b more None passes, brought)
