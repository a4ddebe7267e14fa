-- A command whose change is logged passes its points in a run.
use Rattle.std.proofs.Common.{◌≡◌, ◌≢◌, ℕ, zero, suc, ◌≤◌, Bool, true, false, List, [], ◌∷◌, length, take, Some, None, Result, Ok, Err, refl, sym, ap, subst, ◌∙◌, arith, true≢false, append-nil}
use Rattle.std.specs.Prelude.{fold}
use Rattle.std.specs.List.{All}
use Rattle.std.proofs.lemmas.List.Elements.{All-cons, All-nil}
use Rattle.crash_plant.specs.Choices.{AtNow, Choice, IsChoice}
use Rattle.crash_plant.specs.Moments.{PlantState}
use Rattle.pair_table.specs.declared.command.Change.{Change}
use Rattle.pair_table.specs.declared.command.Command.{Command}
use Rattle.pair_table.specs.declared.command.Command.TheVariants.{Start, AddPair, DelPair, Suspend, Query, End}
use Rattle.pair_table.specs.declared.level.Level.{Level}
use Rattle.pair_table.specs.declared.row.PairRow.{PairRow}
use Rattle.pair_table.specs.Commands.{change_of, table_after}
use Rattle.pair_table.specs.Naming.{Naming}
use Rattle.pair_table.specs.Tables.{Table, none_clash}
use Rattle.row_changes.specs.Changes.{Timed}
use Rattle.row_changes.specs.Changes.Due.{NoneDue}
use Rattle.group_state.specs.Groups.{Group}
use Rattle.record_rows.specs.Deeds.{Deed}
use Rattle.record_rows.specs.Deeds.Deed.{Changed, Marked}
use Rattle.record_rows.specs.Hits.{hit_changes, hit_now, marked_changes, rows_marked}
use Rattle.record_rows.specs.Records.{rows_with_hits}
use Rattle.record_rows.proofs.HitRows.{marks_are_changes}
use Rattle.site_means.specs.Images.{shape_of}
use Rattle.xrc_command.specs.declared.line.Line.{Line}
use Rattle.site_store.specs.declared.store_error.StoreError.{StoreError}
use Rattle.site_store.specs.Causes.{FailByCounts}
use Rattle.site_store.specs.Changing.{DoesChange, LogsChange, MayChange, change_deeds_of, changed_items, table_with_hits, told_by_mark}
use Rattle.site_store.specs.Commands.{excepted_by_change}
use Rattle.site_store.specs.DoneDeeds.{BeginsDeeds, DoesDeeds, PassedDeed}
use Rattle.site_store.specs.Exceptions.{Exceptions, excepted_after}
use Rattle.site_store.specs.Records.{VolumesStay}
use Rattle.site_store.specs.Sites.{SiteState}
use Rattle.site_store.specs.Standing.{Leaves, SiteStands}
use Rattle.site_store.proofs.ChangeEnds.{told_is}
use Rattle.site_store.proofs.Commanded.{commands_leave}
use Rattle.consistency.specs.Stages.{ScriptRun, Stage, accepts_end, breaks_of, names_of}
use Rattle.consistency.specs.Bearing.{MayBeMeant, ShowsPoint}
use Rattle.consistency.specs.Leads.{Point}
use Rattle.consistency.specs.Replying.{is_query}
use Rattle.consistency.specs.Steps.{names_at}
use Rattle.consistency.specs.Ways.{HasCountedHits, hits_stand, IsAtWork, IsLegOf, Leg, MayTakeEffect, PassedPoint, Way, commanded_point, leg_after, leg_by, table_at}
use Rattle.consistency.specs.Ways.Way.{OnTheWay}
use Rattle.mover.specs.Working.{LinesAsked}
use Rattle.xrc_session.specs.Answering.{AreOfCommand, IsDoneFrom, MayAnswer, stage_then}
use Rattle.xrc_session.specs.LinePauses.{GoesOnFrom, RisesCover, StandsForSite, site_point}
use Rattle.xrc_session.specs.EpochPauses.{Between, StandsBetween}
use Rattle.xrc_session.specs.CarriedLaws.{FitsOn, IsWithoutEntries}
use Rattle.xrc_session.specs.Frames.{ChangesRows}
use Rattle.xrc_session.specs.Lanes.{sizes_of}
use Rattle.xrc_session.specs.Resting.{ArePointsAfter, IsPointAfter, KeepTracks, LogsFrom, ShowsBefore}
use Rattle.xrc_session.specs.Steps.{BeginsToPass, PassesPointsOn}
use Rattle.xrc_session.specs.Taking.{IfAdds, MayTake, after_calls, calls_of_change, plans_after_calls}
use Rattle.xrc_session.specs.Trails.{AreHitsOfFaults}
use Rattle.xrc_session.proofs.AnswerAhead.{AreAhead, NextPoint, leg_next, passed_by}
use Rattle.xrc_session.proofs.AnswerChanges.{IsLoggedSite, change_is, logged_site, marks_stand, none_hit_there, none_untold, rows_altered, site_told, was_goes}
use Rattle.xrc_session.proofs.AnswerCommands.{both_are_of_line, command_after_mark, command_ahead, command_hits, command_is_of_line, command_left, here_meant, leg_then, leg_then_after_mark, mark_by, mark_there, next_command, next_mark, next_quiet, quiet_ahead, quiet_is_of_line, quiet_leg_then}
use Rattle.xrc_session.proofs.AnswerDeeds.{begun_passes, done_passes, quiet_passes, rows_unwritten}
use Rattle.xrc_session.proofs.AnswerHits.{AreOfFaults, NoneFalls, command_counted, counted_hits, hits_of_faults, leg_counted, mark_counted, marks_of_faults, none_of_faults}
use Rattle.xrc_session.proofs.AnswerSites.{IsSiteOfRun, site_of_run}
use Rattle.xrc_session.proofs.AnswerWorks.{rose_for_each}
use Rattle.xrc_session.proofs.RestingRows.{changes_keep_tracks, deeds_cases, rows_stand_after_changes, rows_stand_after_commands, sites_stand_after_deeds}

-- ---- moments

one_moment : (moments : List ℕ) → length moments ≡ 1 → (t : ℕ) × (moments ≡ t ∷ [])
one_moment [] count = absurd (omega (arith, count))
one_moment (t ∷ []) count = (t, refl)
one_moment (t ∷ u ∷ moments) count = absurd (omega (arith, count))

two_moments : (moments : List ℕ) → length moments ≡ 2 → (t : ℕ) × (u : ℕ) × (moments ≡ t ∷ u ∷ [])
two_moments [] count = absurd (omega (arith, count))
two_moments (t ∷ []) count = absurd (omega (arith, count))
two_moments (t ∷ u ∷ []) count = (t, u, refl)
two_moments (t ∷ u ∷ v ∷ moments) count = absurd (omega (arith, count))

-- ---- in a run

-- A command's change is logged in a run: its site is one that did the command, and the run's session is there.
pub record IsLoggedIn (tells : Type 0) (run : ScriptRun) (stage : Stage) (asked : LinesAsked) (l : Leg) (first : Point) (points : List PassedPoint) (names : Naming) (line : Line) (change : Change) (was site next : SiteState) (began old new : PlantState) (g : Group) : Type 0 where
  pub told : tells
  pub from : IsDoneFrom names line change was site old
  pub apart : none_clash was.told ≡ true
  pub may : MayAnswer run stage line asked l first points names was (Some g) began old
  pub fails : FailByCounts site.failed next.failed old.faults new.faults
  pub up : NoneFalls old new
  pub cover : RisesCover run began new
  pub volumes : VolumesStay tells old new
  -- the rows of the command with any hits may be taken over, and what it adds fits
  pub takes : (level : Level) (cut : ℕ) (failed : List Bool) → MayTake g change was.told (rows_with_hits level cut failed site.table.rows)
  pub fits : (level : Level) (cut : ℕ) (failed : List Bool) → IfAdds change (rows_with_hits level cut failed site.table.rows) (FitsOn old (sizes_of run.traces))

-- A line's points were passed, with hits after its command, up to the site's point.
--   leg: the leg of the stage after the line is there, if the command is no end that is accepted
pub record IsLinePassed (run : ScriptRun) (stage : Stage) (line : Line) (asked : LinesAsked) (l : Leg) (site : SiteState) (began old new : PlantState) : Type 0 where
  pub more : List PassedPoint
  pub hits : List Timed
  pub passes : PassesPointsOn run stage asked l more None old new
  pub by : AreOfCommand l.answered hits more
  pub point : (fold leg_after l more).point ≡ site_point site
  pub counted : AreHitsOfFaults (fold leg_after l more) began new
  pub leg : accepts_end run (table_at run l.point) stage.next ≡ false → IsLegOf run (stage_then run stage line l hits) (fold leg_after l more)
  pub unhit : is_query line.command ≡ true → hits ≡ []

module _ (tells : Type 0) (run : ScriptRun) (stage : Stage) (asked : LinesAsked) (l : Leg) (first : Point) (points : List PassedPoint) (names : Naming) (line : Line) (change : Change) (was site next : SiteState) (began old new : PlantState) (g : Group)
    (h : IsLoggedIn tells run stage asked l first points names line change was site next began old new g) where
  abbrev cut : ℕ
  cut = line.time.0

  goes : was.table.is_ended ≡ false
  goes = was_goes names line change was site old h.from

  active : MayTakeEffect run line l × IsAtWork run asked l × (names ≡ names_at line.time.0 (breaks_of run) (names_of run))
  active = h.may.active goes

  pub on : GoesOnFrom run first points was old g
  on = h.may.goes_on goes

  here : l.point ≡ site_point was
  here = h.may.at.here

  time_here : l.point.time ≡ cut
  time_here = active.0.at

  of_run : IsSiteOfRun run was
  of_run = site_of_run run old on.rows.excepted was (site_point was) on.rows.stands h.may.at.shows on.rows.rows.some

  -- The table that the command finds is that of the leg's point.
  pub table_here : was.table ≡ table_at run l.point
  table_here = λ i. record {
    session = of_run.session i;
    is_started = h.from.started i;
    is_ended = (goes ∙ sym active.1.goes_on) i;
    rows = (sym h.from.same ∙ ap (λ (p : Point). p.rows) (sym here)) i;
  }

  -- Its rows after the command are those of the command's point.
  left_rows : (commanded_point run line l.point).rows ≡ site.table.rows
  left_rows =
      ap (λ (t : Table). (table_after (names_at line.time.0 (breaks_of run) (names_of run)) t line.session line.command line.time.0).rows) (sym table_here)
      ∙ ap (λ (n : Naming). (table_after n was.table line.session line.command cut).rows) (sym active.2)
      ∙ ap (λ (s : SiteState). s.table.rows) (sym h.from.site_is)

  rows_here : l.point.rows ≡ was.told
  rows_here = ap (λ (p : Point). p.rows) here

  site_level : site.level ≡ run.level
  site_level = ap (λ (s : SiteState). s.level) h.from.site_is ∙ of_run.level

  site_time : site.time ≡ was.time
  site_time = ap (λ (s : SiteState). s.time) h.from.site_is

  pub was_time : was.time ≡ cut
  was_time = ap (λ (p : Point). p.time) (sym here) ∙ time_here

  abbrev failed : List Bool
  failed = next.failed

  abbrev hit : List ℕ
  hit = hit_now next.failed l.point.rows

  abbrev command : NextPoint
  command = next_command run l line failed

  abbrev mark : NextPoint
  mark = next_mark run l hit

  abbrev quiet : NextPoint
  quiet = next_quiet run l line

  abbrev hits : List Timed
  hits = command_hits run l line failed

  -- ---- counts

  counted_here : AreHitsOfFaults l began new
  counted_here = leg_counted l began old new h.up h.may.at.counted

  own_hits : AreOfFaults hits old new
  own_hits =
      subst (λ (rows : List PairRow). AreOfFaults (hit_changes l.point.time (hit_now failed rows)) old new) (sym left_rows)
      (hits_of_faults l.point.time (hit_now failed site.table.rows) old new h.up (rose_for_each site.failed failed old.faults new.faults site.table.rows h.fails (none_hit_there names line change was site old h.from h.apart)))

  marked_hits : AreOfFaults (marked_changes l.point.time hit) old new
  marked_hits =
      subst (λ (rows : List PairRow). AreOfFaults (marked_changes l.point.time (hit_now failed rows)) old new) (site_told names line change was site old h.from ∙ sym rows_here)
      (marks_of_faults l.point.time (hit_now failed site.told) old new h.up (rose_for_each site.failed failed old.faults new.faults site.told h.fails (none_untold names line change was site old h.from)))

  counts : (x : Leg) → AreHitsOfFaults x began new → HasCountedHits run x
  counts x are = counted_hits run x began new are h.cover

  command_counts : AreHitsOfFaults (leg_next l command) began new
  command_counts =
      subst (λ (x : Leg). AreHitsOfFaults (leg_by x command.point command.way) began new) (λ i. record l { marked = sym active.1.none_marked i })
      (command_counted l began old new h.up h.may.at.counted active.1.none_marked command.point l.answered [] hits (none_of_faults old new h.up) own_hits)

  quiet_counts : AreHitsOfFaults (leg_next l quiet) began new
  quiet_counts =
      subst (λ (x : Leg). AreHitsOfFaults (leg_by x quiet.point quiet.way) began new) (λ i. record l { marked = sym active.1.none_marked i })
      (command_counted l began old new h.up h.may.at.counted active.1.none_marked quiet.point l.answered [] [] (none_of_faults old new h.up) (none_of_faults old new h.up))

  marked_counts : AreHitsOfFaults (record l { marked = marked_changes l.point.time hit }) began new
  marked_counts = mark_counted l began old new h.up h.may.at.counted active.1.none_marked l.point l.answered (marked_changes l.point.time hit) marked_hits

  after_counts : AreHitsOfFaults (leg_next (record l { marked = marked_changes l.point.time hit }) command) began new
  after_counts = command_counted l began old new h.up h.may.at.counted active.1.none_marked command.point l.answered (marked_changes l.point.time hit) hits marked_hits own_hits

  -- ---- the deeds

  -- what is excepted after the command
  abbrev e : Exceptions
  e = excepted_by_change change was on.rows.excepted

  abbrev b : Between
  b = record { run = run; size = sizes_of run.traces; excepted = e; group = g; point = site_point was; done = on.rows.done }

  pub stands : StandsBetween old b
  stands = rows_stand_after_commands old (record { run = run; size = sizes_of run.traces; excepted = on.rows.excepted; group = g; point = site_point was; done = on.rows.done }) change was on.rows.rows refl h.from.told

  pub site_stands : SiteStands e site old
  site_stands =
      subst (λ (s : SiteState). SiteStands e s old) (sym h.from.site_is)
      ((commands_leave tells old names was line.session line.command cut change h.from.labels h.from.done h.from.fits).stands h.told on.rows.excepted on.rows.stands)

  abbrev told_rows : List PairRow
  told_rows = table_with_hits cut failed site

  abbrev pub logs_from : (after : List PairRow) → (changed_items change site.table.rows ≢ [] → after ≡ told_rows) → MayTake g change was.told after → IfAdds change after (FitsOn old (sizes_of run.traces))
      → (result : Result (Unit {0}) StoreError) → DoesChange tells cut change site next old new result → LogsFrom tells b cut change site next after old new
  logs_from after logged may adds result does = record {
    is_of = record { stands = stands; told = site_told names line change was site old h.from; at = sym was_time; logged = logged; may = may; adds = adds };
    result = result;
    does = does;
    deeds = change_deeds_of change does.placement site cut failed;
    deeds_are = refl;
  }

  abbrev Keep : List Deed → Type 0
  Keep deeds = KeepTracks was.time site.told deeds

  keep : (result : Result (Unit {0}) StoreError) (does : DoesChange tells cut change site next old new result) → Keep (change_deeds_of change does.placement site cut failed)
  keep result does = changes_keep_tracks tells old new b cut change site next told_rows (logs_from told_rows (λ some. refl) (h.takes site.level cut failed) (h.fits site.level cut failed) result does)

  before : (deeds : List Deed) → Keep deeds → ShowsBefore old b site.told deeds
  before deeds are = record { stands = stands; shows = h.may.at.shows; same = site_told names line change was site old h.from; keep = are }

  stays : (all : List PairRow) → ChangesRows all old new
  stays all = rows_unwritten tells h.told old new h.volumes all

  meant_here : MayBeMeant run stage l.point
  meant_here = here_meant run stage asked l line h.may.at.leg h.may.heard h.may.asked_is active.1 active.0 (counts l counted_here)

  flag_here : l.point.is_ended ≡ was.mark.ended
  flag_here = ap (λ (p : Point). p.is_ended) here

  site_flag : site.mark.ended ≡ was.mark.ended
  site_flag = ap (λ (s : SiteState). s.mark.ended) h.from.site_is

  -- The rows of the command's point are those of its record.
  command_rows : command.point.rows ≡ told_rows
  command_rows = λ i. rows_with_hits (sym site_level i) (time_here i) failed (left_rows i)

  module _ (some : changed_items change site.table.rows ≢ []) where
    differ : (command_left run l line).rows ≡ l.point.rows → ⊥
    differ same = rows_altered names line change was site old h.from h.apart some (sym left_rows ∙ same ∙ rows_here)

    -- ---- a record alone

    abbrev alone : List Deed
    alone = Changed cut told_rows ∷ []

    abbrev told_alone : List Deed → Point
    told_alone [] = site_point was
    told_alone (deed ∷ deeds) = command.point

    abbrev way_alone : PassedDeed → Way
    way_alone n = command.way

    alone_are : ArePointsAfter alone (site_point was) told_alone
    alone_are = record { first = refl; after = after }
      where
        after : (n : ℕ) → n ≤ 1 → IsPointAfter (take n alone) (site_point was) (told_alone (take n alone))
        after zero few = record { time = refl; rows = refl; ended = refl }
        after (suc zero) few = record { time = time_here; rows = command_rows; ended = flag_here }
        after (suc (suc n)) few = absurd (omega (arith, few))

    alone_ahead : AreAhead run stage asked l (command ∷ [])
    alone_ahead = command_ahead run stage asked l line h.may.at.leg h.may.heard h.may.asked_is active.1 active.0 failed differ (counts (leg_next l command) command_counts)

    -- ---- a mark before it

    abbrev marked_first : Deed
    marked_first = Marked site.at site.mark.ended (told_by_mark failed site)

    abbrev both : List Deed
    both = marked_first ∷ Changed cut told_rows ∷ []

    abbrev told_both : List Deed → Point
    told_both [] = site_point was
    told_both (deed ∷ []) = mark.point
    told_both (deed ∷ other ∷ deeds) = command.point

    abbrev ways : List Deed → Way
    ways [] = OnTheWay []
    ways (deed ∷ []) = mark.way
    ways (deed ∷ other ∷ deeds) = command.way

    abbrev way_both : PassedDeed → Way
    way_both n = ways n.point

    mark_time : (devices : List ℕ) → (mark_there run l devices).time ≡ l.point.time
    mark_time [] = refl
    mark_time (d ∷ devices) = refl

    mark_flag : (devices : List ℕ) → (mark_there run l devices).is_ended ≡ l.point.is_ended
    mark_flag [] = refl
    mark_flag (d ∷ devices) = refl

    mark_rows : (devices : List ℕ) → (mark_there run l devices).rows ≡ rows_marked l.point.time devices l.point.rows
    mark_rows [] = sym (marks_are_changes run.level l.point.time [] l.point.rows)
    mark_rows (d ∷ devices) = refl

    rows_of_mark : mark.point.rows ≡ told_by_mark failed site
    rows_of_mark =
        mark_rows hit
        ∙ (λ i. let rows : List PairRow = (rows_here ∙ sym (site_told names line change was site old h.from)) i in rows_marked ((ap (λ (p : Point). p.time) here ∙ sym site_time) i) (hit_now failed rows) rows)

    both_are : ArePointsAfter both (site_point was) told_both
    both_are = record { first = refl; after = after }
      where
        after : (n : ℕ) → n ≤ 2 → IsPointAfter (take n both) (site_point was) (told_both (take n both))
        after zero few = record { time = refl; rows = refl; ended = refl }
        after (suc zero) few = record { time = mark_time hit ∙ ap (λ (p : Point). p.time) here; rows = rows_of_mark; ended = mark_flag hit ∙ flag_here ∙ sym site_flag }
        after (suc (suc zero)) few = record { time = time_here; rows = command_rows; ended = flag_here ∙ sym site_flag }
        after (suc (suc (suc n))) few = absurd (omega (arith, few))

    stand : hits_stand (marked_changes l.point.time hit) hits command.point.rows ≡ true
    stand =
        (λ i. hits_stand (marked_changes l.point.time (hit_now failed (rows_here i))) (hit_changes l.point.time (hit_now failed (left_rows i))) (rows_with_hits run.level l.point.time failed (left_rows i)))
        ∙ marks_stand names line change was site old h.from h.apart failed run.level l.point.time l.point.time l.point.time

    both_ahead : AreAhead run stage asked l (mark ∷ command ∷ [])
    both_ahead =
        command_after_mark run stage asked l line h.may.at.leg h.may.heard h.may.asked_is active.1 active.0 failed hit refl differ stand (counts l counted_here)
        (counts (record l { marked = marked_changes l.point.time hit }) marked_counts) (counts (leg_next (record l { marked = marked_changes l.point.time hit }) command) after_counts)

    -- ---- they begin

    abbrev Begins : List Deed → Type 0
    Begins deeds = BeginsDeeds e site.told deeds old new → Keep deeds → BeginsToPass run stage asked l old new

    begins_alone : Begins alone
    begins_alone begins are = begun_passes old new b stage asked l site.told alone (command ∷ []) told_alone way_alone here (before alone are) alone_are (refl, (λ t. refl), tt) alone_ahead stays meant_here refl begins

    begins_both : Begins both
    begins_both begins are =
        begun_passes old new b stage asked l site.told both (mark ∷ command ∷ []) told_both way_both here (before both are) both_are (refl, (λ t. refl), (refl, (λ t. refl), tt)) both_ahead stays meant_here refl begins

  -- Where logging fails the points begin to be passed.
  pub change_begins : {P : Type 0} (first_plant last_plant : P) (error : StoreError) → LogsChange cut change site next old first_plant last_plant (Err error) → DoesChange tells cut change site next old new (Err error) → BeginsToPass run stage asked l old new
  change_begins first_plant last_plant error logs does =
      deeds_cases tells cut change site next old new (Err error) does (λ deeds. BeginsDeeds e site.told deeds old new → Keep deeds → BeginsToPass run stage asked l old new)
      (λ none begins are. absurd (true≢false (sym (logs.nothing none).0))) (λ some. begins_alone some) (λ some. begins_both some) (does.begins h.told e site_stands) (keep (Err error) does)

  -- ---- they are passed

  module _ {P : Type 0} (was_plant is_plant : P) (logs : LogsChange cut change site next old was_plant is_plant (Ok tt)) (does : DoesChange tells cut change site next old new (Ok tt)) (may_change : MayChange tells cut change site old)
      (leaves : Leaves tells (λ e. e) site next old new) (same_plant : is_plant ≡ was_plant → new ≡ old) where
    logged : IsLoggedSite cut site next
    logged = logged_site tells cut change site next old new was_plant is_plant may_change (site_time ∙ was_time) logs

    -- a point with the line's time, the flag before it, and the rows after it is the site's
    point_there : (rows : List PairRow) → rows ≡ next.told → record l.point { rows = rows } ≡ site_point next
    point_there rows are = λ i. record {
      time = (time_here ∙ sym logged.time) i;
      rows = are i;
      due = active.0.none_due i;
      is_ended = (flag_here ∙ sym site_flag ∙ sym logged.flag) i;
    }

    quiet_command : is_query line.command ≡ true → changed_items change site.table.rows ≡ []
    quiet_command query = ap (λ (c : Change). changed_items c site.table.rows) (sym (change_is names line change was site old h.from)) ∙ by_command line.command query
      where
        by_command : (command : Command) → is_query command ≡ true → changed_items (change_of names command was.told) site.table.rows ≡ []
        by_command (Start level) query = absurd cc
        by_command (AddPair primary secondary group) query = absurd cc
        by_command (DelPair choice) query = absurd cc
        by_command (Suspend choice) query = absurd cc
        by_command Query query = refl
        by_command End query = absurd cc

    module _ (some : changed_items change site.table.rows ≢ []) where
      -- The rows are those of the record.
      rows_recorded : next.told ≡ told_rows
      rows_recorded = ap (λ (s : SiteState). s.told) (logs.rows some).after.next_is

      there : command.point ≡ site_point next
      there = point_there command.point.rows (command_rows ∙ sym rows_recorded)

      never : is_query line.command ≡ true → hits ≡ []
      never query = absurd (some (quiet_command query))

      passed_alone : DoesDeeds e site.told (alone some) old new → Keep (alone some) → IsLinePassed run stage line asked l next began old new
      passed_alone did are = record {
        more = passed_by (moment.0 ∷ []) (command ∷ []);
        hits = hits;
        passes = subst (λ (moments : List ℕ). PassesPointsOn run stage asked l (passed_by moments (command ∷ [])) None old new) moment.1
            (done_passes old new b stage asked l site.told (alone some) (command ∷ []) (told_alone some) (way_alone some) here (before (alone some) are) (alone_are some) (refl, (λ t. refl), tt) (alone_ahead some) stays did);
        by = command_is_of_line run l line failed moment.0;
        point = there;
        counted = command_counts;
        leg = leg_then run stage asked l line h.may.at.leg h.may.heard h.may.asked_is active.1 active.0 failed (differ some);
        unhit = never;
      }
        where
          moment : (t : ℕ) × (did.moments ≡ t ∷ [])
          moment = one_moment did.moments did.each

      after_mark : (hs : List ℕ) → AreHitsOfFaults (leg_next (record l { marked = marked_changes l.point.time hs }) command) began new → AreHitsOfFaults (leg_next (leg_by l (mark_there run l hs) (mark_by l hs)) command) began new
      after_mark [] are =
          subst (λ (x : Leg). AreHitsOfFaults (leg_next x command) began new) (λ i. record l { changes = sym (append-nil l.changes) i; marked = sym active.1.none_marked i }) are
      after_mark (d ∷ hs) are = are

      passed_both : DoesDeeds e site.told (both some) old new → Keep (both some) → IsLinePassed run stage line asked l next began old new
      passed_both did are = record {
        more = passed_by (moments.0 ∷ moments.1 ∷ []) (mark ∷ command ∷ []);
        hits = hits;
        passes = subst (λ (times : List ℕ). PassesPointsOn run stage asked l (passed_by times (mark ∷ command ∷ [])) None old new) moments.2
            (done_passes old new b stage asked l site.told (both some) (mark ∷ command ∷ []) (told_both some) (way_both some) here (before (both some) are) (both_are some) (refl, (λ t. refl), (refl, (λ t. refl), tt)) (both_ahead some) stays did);
        by = both_are_of_line run l line failed hit moments.0 moments.1;
        point = there;
        counted = after_mark hit after_counts;
        leg = leg_then_after_mark run stage asked l line h.may.at.leg h.may.heard h.may.asked_is active.1 active.0 failed hit (differ some) (stand some);
        unhit = never;
      }
        where
          moments : (t : ℕ) × (u : ℕ) × (did.moments ≡ t ∷ u ∷ [])
          moments = two_moments did.moments did.each

    passed_quiet : changed_items change site.table.rows ≡ [] → IsLinePassed run stage line asked l next began old new
    passed_quiet none = record {
      more = passed_by (old.clock ∷ []) (quiet ∷ []);
      hits = [];
      passes = subst (λ (plant : PlantState). PassesPointsOn run stage asked l (passed_by (old.clock ∷ []) (quiet ∷ [])) None old plant) (sym (same_plant (logs.nothing none).2))
          (quiet_passes old run stage asked l (subst (λ (p : Point). AtNow (ShowsPoint run (shape_of old) p) old) (sym here) h.may.at.shows) quiet still
          (quiet_ahead run stage asked l line h.may.at.leg h.may.heard h.may.asked_is active.1 active.0 (counts (leg_next l quiet) quiet_counts)));
      by = quiet_is_of_line run l line old.clock;
      point = point_there quiet.point.rows (left_rows ∙ unaltered ∙ sym told_still);
      counted = quiet_counts;
      leg = quiet_leg_then run stage asked l line h.may.at.leg h.may.heard h.may.asked_is active.1 active.0;
      unhit = λ query. refl;
    }
      where
        unaltered : site.table.rows ≡ was.told
        unaltered = sym (told_is tells cut change site old may_change none) ∙ site_told names line change was site old h.from

        told_still : next.told ≡ was.told
        told_still = ap (λ (s : SiteState). s.told) (logs.nothing none).1 ∙ site_told names line change was site old h.from

        still : quiet.point ≡ l.point
        still = λ i. record l.point { rows = (left_rows ∙ unaltered ∙ sym rows_here) i }

    -- The points of the line are passed.
    pub line_passed : IsLinePassed run stage line asked l next began old new
    line_passed =
        deeds_cases tells cut change site next old new (Ok tt) does (λ deeds. DoesDeeds e site.told deeds old new → Keep deeds → IsLinePassed run stage line asked l next began old new)
        (λ none did are. passed_quiet none) (λ some. passed_alone some) (λ some. passed_both some) (does.does h.told e site_stands) (keep (Ok tt) does)

    -- ---- what stands after them

    abbrev taken : Group
    taken = after_calls (calls_of_change change g was.told next.told) g

    abbrev deeds : List Deed
    deeds = change_deeds_of change does.placement site cut failed

    next_rows : next.told ≡ rows_with_hits site.level cut logged.failed site.table.rows
    next_rows = logged.rows

    pub takes_there : MayTake g change was.told next.told
    takes_there = subst (MayTake g change was.told) (sym next_rows) (h.takes site.level cut logged.failed)

    abbrev logs_there : LogsFrom tells b cut change site next next.told old new
    logs_there = logs_from next.told (λ some. rows_recorded some) takes_there (subst (λ (rows : List PairRow). IfAdds change rows (FitsOn old (sizes_of run.traces))) (sym next_rows) (h.fits site.level cut logged.failed)) (Ok tt) does

    none_logged : All IsWithoutEntries deeds
    none_logged =
        deeds_cases tells cut change site next old new (Ok tt) does (All IsWithoutEntries) (λ none. All-nil IsWithoutEntries)
        (λ some. All-cons IsWithoutEntries (Changed cut told_rows) [] refl (All-nil IsWithoutEntries))
        (λ some. All-cons IsWithoutEntries (Marked site.at site.mark.ended (told_by_mark failed site)) (Changed cut told_rows ∷ []) refl (All-cons IsWithoutEntries (Changed cut told_rows) [] refl (All-nil IsWithoutEntries)))

    -- The shared state stands for the site's rows again.
    pub stands_for_site : (some : (c : Choice) × IsChoice new new.clock c) → StandsForSite run next taken new
    stands_for_site some = record {
      excepted = excepted_after site.told deeds e;
      done = plans_after_calls (calls_of_change change g was.told next.told) on.rows.done;
      stands = sites_stand_after_deeds new e site.told deeds next none_logged (leaves.stands h.told e site_stands);
      rows =
          subst (λ (p : Point). StandsBetween new (record { run = run; size = sizes_of run.traces; excepted = excepted_after site.told deeds e; group = taken; point = p; done = plans_after_calls (calls_of_change change g was.told next.told) on.rows.done })) point
          (rows_stand_after_changes tells old new b cut change site next next.told logs_there (does.does h.told e site_stands) some);
    }
      where
        point : record (site_point was) { rows = next.told } ≡ site_point next
        point = λ i. record { time = (was_time ∙ sym logged.time) i; rows = next.told; due = NoneDue; is_ended = (sym site_flag ∙ sym logged.flag) i }
