-- A command whose change was logged and taken over, in a run.
use Rattle.xrc_session.proofs.MapsResumed.{resumed_was, wants_owed}
use Rattle.xrc_session.specs.MapsTaken.{WantsOwed}
use Rattle.mover.proofs.Pairs.{among_of}
use Rattle.consistency.specs.Owing.{owes_track}
use Rattle.group_state.specs.Volumes.{is_wanted}
use Rattle.group_state.specs.Controls.{counts}
use Rattle.pair_table.specs.declared.command.Refusal.{Refusal}
use Rattle.pair_table.specs.declared.command.Change.TheVariants.{Resumed}
use Rattle.std.proofs.Common.{◌≡◌, ℕ, true, false, List, ◌++◌, Option, Some, None, Ok, sym, ap, subst, ◌∙◌}
use Rattle.std.specs.Prelude.{fold, is_none, Result}
use Rattle.std.specs.List.{All, Contains}
use Rattle.std.proofs.lemmas.Bool.{and_parts}
use Rattle.crash_plant.specs.Choices.{AtNow, Choice, IsChoice}
use Rattle.crash_plant.specs.Moments.{PlantState}
use Rattle.pair_table.specs.declared.command.Change.{Change}
use Rattle.pair_table.specs.declared.command.Command.{Command}
use Rattle.pair_table.specs.declared.command.Command.TheVariants.{AddPair}
use Rattle.pair_table.specs.declared.row.PairRow.{PairRow}
use Rattle.pair_table.specs.Commands.{answer, is_end}
use Rattle.pair_table.specs.Naming.{Naming, primary_of}
use Rattle.pair_table.specs.Refusals.{refusal, refuses_command, row_of_primary}
use Rattle.pair_table.specs.Rows.{is_suspended}
use Rattle.pair_table.specs.Tables.{Table}
use Rattle.group_state.specs.Groups.{Group, control_at}
use Rattle.fed_logs.specs.ShownBreaks.{BreaksAreToCome}
use Rattle.record_rows.specs.Records.{rows_with_hits}
use Rattle.site_means.specs.Images.{shape_of}
use Rattle.xrc_command.specs.declared.line.Line.{Line}
use Rattle.site_store.specs.Changing.{DoesChange, LogsChange, MayChange}
use Rattle.site_store.specs.Sites.{SiteState}
use Rattle.site_store.specs.Standing.{Leaves}
use Rattle.consistency.specs.Answering.{answered_by, points_before, reply_content, tracks_of_command}
use Rattle.consistency.specs.Stages.{ScriptRun, Stage, accepts, accepts_end, breaks_of, names_of}
use Rattle.consistency.specs.Bearing.{ShowsPoint}
use Rattle.consistency.specs.Leads.{Point}
use Rattle.consistency.specs.Replying.{is_query, said_tracks}
use Rattle.consistency.specs.Steps.{names_at, table_on_the_way}
use Rattle.consistency.specs.Ways.{IsCommanding, Leg, PassedPoint, leg_after, table_at}
use Rattle.consistency.proofs.Legs.{ends_alike}
use Rattle.mover.specs.Working.{LinesAsked}
use Rattle.xrc_session.specs.Answering.{HasCommanded, MayEndBy, stage_then}
use Rattle.xrc_session.specs.Answering.IsMarkedAt.{IsAtEnd}
use Rattle.xrc_session.specs.MapsOwed.{MapsOwed, MapsRest}
use Rattle.xrc_session.specs.LinePauses.{GoesOnFrom, StandsAtLeg, site_point}
use Rattle.xrc_session.specs.Joins.{StaysForReaders}
use Rattle.xrc_session.specs.Steps.{SaysAnswer}
use Rattle.xrc_session.specs.Taking.{IsSoundForRows, after_calls, calls_of_change, tracks_to_copy, MayTake}
use Rattle.xrc_session.proofs.AnswerBreaks.{breaks_await, breaks_stay}
use Rattle.xrc_session.proofs.AnswerChanges.{IsLoggedSite, change_is, ended_is, logged_site, rows_are, was_goes}
use Rattle.xrc_session.proofs.AnswerLegs.{IsCommandLeg, command_answered, command_leg, command_point, none_of_line}
use Rattle.xrc_session.proofs.AnswerLogs.{IsLinePassed, IsLoggedIn, on, stands_for_site, table_here, takes_there}
use Rattle.xrc_session.proofs.AnswerSays.{accepted_end, asked_still, marks_leave, no_end, table_of_leg, owes_still}
use Rattle.xrc_session.proofs.Commanded.{row_taken}
use Rattle.xrc_session.proofs.JoinsLanes.{changes_stay}
use Rattle.xrc_session.proofs.AnswerTracks.{tracks_are_owed}
use Rattle.xrc_session.proofs.AnswerMaps.{maps_after_command}
use Rattle.xrc_session.proofs.LastPoints.{last_rows_then}
use Rattle.site_store.proofs.CommandRows.{Answered, Own, answered, own_of}

change_of_ok : (a b : Change) → (let r : Result Change Refusal = Ok a in r ≡ Ok b) → a ≡ b
change_of_ok a b is = cc

module _ (tells : Type 0) (run : ScriptRun) (stage : Stage) (asked : LinesAsked) (l : Leg) (first : Point) (points : List PassedPoint) (names : Naming) (line : Line) (change : Change) (was site next : SiteState) (began old new : PlantState) (g : Group)
    (h : IsLoggedIn tells run stage asked l first points names line change was site next began old new g) {P : Type 0} (was_plant is_plant : P) (logs : LogsChange line.time.0 change site next old was_plant is_plant (Ok tt))
    (does : DoesChange tells line.time.0 change site next old new (Ok tt)) (may_change : MayChange tells line.time.0 change site old) (leaves : Leaves tells (λ e. e) site next old new) (same_plant : is_plant ≡ was_plant → new ≡ old)
    (p : IsLinePassed run stage line asked l next began old new) (some : (c : Choice) × IsChoice new new.clock c) (kept : IsSoundForRows g was.told) where
  abbrev after : Leg
  after = fold leg_after l p.more

  abbrev taken : Group
  taken = after_calls (calls_of_change change g was.told next.told) g

  goes : was.table.is_ended ≡ false
  goes = was_goes names line change was site old h.from

  here : l.point ≡ site_point was
  here = h.may.at.here

  here_goes : l.point.is_ended ≡ false
  here_goes = (h.may.active goes).1.goes_on

  names_are : names ≡ names_at line.time.0 (breaks_of run) (names_of run)
  names_are = (h.may.active goes).2

  abbrev found : Table
  found = table_at run l.point

  table_is : was.table ≡ found
  table_is = table_here tells run stage asked l first points names line change was site next began old new g h

  of_answer : Answered names was.table line.session line.command change
  of_answer = answered names was.table line.session line.command change h.from.done

  -- The run accepts the command.
  accepted : accepts run found line ≡ true
  accepted = (λ i. is_none (refusal (sym names_are i) (sym table_is i) line.session line.command)) ∙ ap (λ o. is_none o) of_answer.accepts

  logged : IsLoggedSite line.time.0 site next
  logged = logged_site tells line.time.0 change site next old new was_plant is_plant may_change (site_at ∙ was_at) logs
    where
      site_at : site.time ≡ was.time
      site_at = ap (λ (s : SiteState). s.time) h.from.site_is

      was_at : was.time ≡ line.time.0
      was_at = ap (λ (q : Point). q.time) (sym here) ∙ (h.may.active goes).0.at

  next_flag : next.mark.ended ≡ false
  next_flag = logged.flag ∙ ap (λ (s : SiteState). s.mark.ended) h.from.site_is ∙ ap (λ (q : Point). q.is_ended) (sym here) ∙ here_goes

  next_ended : next.table.is_ended ≡ is_end line.command
  next_ended = ap (λ (t : Table). t.is_ended) logged.table ∙ ended_is names line change was site old h.from

  shows : AtNow (ShowsPoint run (shape_of new) (site_point next)) new
  shows c is = subst (λ (q : Point). ShowsPoint run (shape_of new) q c) (sym (command_point l.answered p.hits p.more p.by l l.point) ∙ p.point) (p.passes.now c is)

  -- ---- the leg after it

  -- The session stands after the line, if the command is no end.
  at_leg : next.mark.ended ≡ next.table.is_ended → StandsAtLeg run (stage_then run stage line l p.hits) after next began new
  at_leg flag = record {
    here = p.point;
    shows = shows;
    leg = p.leg (ap (accepts_end run found) h.may.heard ∙ no_end run found line (sym next_ended ∙ sym flag ∙ next_flag));
    counted = p.counted;
  }

  -- Or the mark of the end may come.
  may_end : next.table.is_ended ≡ true → next.mark.ended ≡ false → MayEndBy run stage asked after true next began new
  may_end ended unmarked = record {
    marked = IsAtEnd l.answered own.before p.hits own.leg (h.may.asked_is ∙ sym h.may.heard) (subst (λ (o : Option Line). IsCommanding run o own.before after.point p.hits) (h.may.asked_is ∙ sym h.may.heard) own.comes.2) own.is
        (record { last = command_answered l.answered p.hits p.more p.by l; unchanged = ap (λ (x : Leg). x.changes) own.is; none_marked = ap (λ (x : Leg). x.marked) own.is })
        (ends_alike run l.point after.point stage.next (here_goes ∙ sym after_goes) (ap (accepts_end run found) h.may.heard ∙ accepted_end run found line (sym next_ended ∙ ended) accepted));
    here = p.point;
    shows = subst (λ (q : Point). AtNow (ShowsPoint run (shape_of new) q) new) (sym p.point) shows;
    counted = p.counted;
    group = taken;
    rows = stands_for_site tells run stage asked l first points names line change was site next began old new g h was_plant is_plant logs does may_change leaves same_plant some;
  }
    where
      after_goes : after.point.is_ended ≡ false
      after_goes = ap (λ (q : Point). q.is_ended) p.point ∙ unmarked

      own : IsCommandLeg run stage asked l l.answered p.hits after
      own = command_leg run stage asked l.answered p.hits p.more p.by l h.may.at.leg p.passes.linked after_goes

  -- ---- what its reply says

  rows_here : l.point.rows ≡ was.told
  rows_here = ap (λ (q : Point). q.rows) here

  abbrev way_table : Table
  way_table = table_on_the_way run.level l.changes stage.table

  way_is : way_table ≡ was.table
  way_is = sym (table_of_leg run stage l h.may.at.leg) ∙ sym table_is

  answer_is : answer (names_at line.time.0 (breaks_of run) (names_of run)) way_table line.session line.command ≡ Ok change
  answer_is = (λ i. answer (sym names_are i) (way_is i) line.session line.command) ∙ h.from.done

  own_rows : Own names was.table.rows line.command
  own_rows = own_of names was.table line.session line.command h.from.started of_answer.accepts

  -- A pair that is added again is suspended.
  pair_taken : (primary secondary : List ℕ) (group : Option (List ℕ)) (r : PairRow) → line.command ≡ AddPair primary secondary group → row_of_primary primary was.told ≡ Some r → is_suspended r.state ≡ true
  pair_taken primary secondary group r is there =
      row_taken names was.told primary secondary r (primary_of primary names)
      (subst (λ (command : Command). refuses_command names was.told command ≡ None) is (ap (λ (rows : List PairRow). refuses_command names rows line.command) h.from.same ∙ own_rows.own)) there

  abbrev before : List PassedPoint
  before = points_before l.answered (points ++ p.more)

  before_is : before ≡ points ++ points_before l.answered p.more
  before_is = none_of_line l.answered points p.more h.may.fresh

  marks_are : All (λ n. n.point.rows ≡ was.told) (points_before l.answered p.more)
  marks_are = subst (λ (rows : List PairRow). All (λ n. n.point.rows ≡ rows) (points_before l.answered p.more)) rows_here (marks_leave run asked l.answered p.hits p.more p.by l p.passes.linked)

  asked_tracks : tracks_of_command run first before way_table.rows line.time.0 line.command ≡ tracks_of_command run first points was.told line.time.0 line.command
  asked_tracks =
      (λ i. tracks_of_command run first (before_is i) ((ap (λ (t : Table). t.rows) way_is ∙ sym h.from.same) i) line.time.0 line.command)
      ∙ asked_still run first points (points_before l.answered p.more) was.told line.time.0 line.command h.apart marks_are pair_taken

  tells_answer : (text reply : List ℕ)
      → SaysAnswer line (reply_content run stage first (points ++ p.more) l.answered (answered_by run stage text reply line l.changes p.hits)) (record { answer = Ok change; tracks = tracks_to_copy change g was.told next.told })
  tells_answer text reply = record {
    is = answer_is;
    tracks =
        (λ i. said_tracks line.command (answer_is i) (asked_tracks i))
        ∙ tracks_are_owed run names first points was old g next.told line.time.0 (on tells run stage asked l first points names line change was site next began old new g h) (ap (λ (n : Naming). n.primaries) names_are) was_at kept site.level line.time.0 logged.failed
        line.command change (ap (λ (rows : List PairRow). refuses_command names rows line.command) h.from.same ∙ own_rows.own) (change_is names line change was site old h.from)
        (takes_there tells run stage asked l first points names line change was site next began old new g h was_plant is_plant logs does may_change leaves same_plant)
        (logged.rows ∙ ap (rows_with_hits site.level line.time.0 logged.failed) (rows_are names line change was site old h.from));
  }
    where
      was_at : was.time ≡ line.time.0
      was_at = ap (λ (q : Point). q.time) (sym here) ∙ (h.may.active goes).0.at

  -- ---- an epoch may go on from there

  goes_on_there : GoesOnFrom run first (points ++ p.more) next new taken
  goes_on_there = record {
    rows = stands_for_site tells run stage asked l first points names line change was site next began old new g h was_plant is_plant logs does may_change leaves same_plant some;
    broke = breaks_stay g taken stays run.traces from.broke;
    come = subst (λ (time : ℕ). BreaksAreToCome run.traces time taken) (was_at ∙ sym logged.time) (breaks_await g taken stays run.traces was.time from.come);
    last = last_rows_then first l.point points p.more (from.last ∙ sym rows_here) ∙ ap (λ (q : Point). q.rows) (sym (command_point l.answered p.hits p.more p.by l l.point) ∙ p.point);
    maps = maps_there.0;
    maps_rest = maps_there.1;
  }
    where
      stays : StaysForReaders g taken
      stays = changes_stay change was.told next.told g

      from : GoesOnFrom run first points was old g
      from = on tells run stage asked l first points names line change was site next began old new g h

      was_at : was.time ≡ line.time.0
      was_at = ap (λ (q : Point). q.time) (sym here) ∙ (h.may.active goes).0.at

      maps_there : MapsOwed run first (points ++ p.more) (site_point next) taken × MapsRest (site_point next) taken
      maps_there =
          maps_after_command run asked l first points p.more l.answered p.hits names line.command change was next old g line.time.0 site.level logged.failed from (h.may.cut goes) here kept
          (takes_there tells run stage asked l first points names line change was site next began old new g h was_plant is_plant logs does may_change leaves same_plant) (change_is names line change was site old h.from) was_at logged.time next_flag
          (logged.rows ∙ ap (rows_with_hits site.level line.time.0 logged.failed) (rows_are names line change was site old h.from)) p.by p.passes.linked p.point

  -- ---- what a resume wants

  way_rows : way_table.rows ≡ was.told
  way_rows = ap (λ (t : Table). t.rows) way_is ∙ sym h.from.same

  wants_before : (device : ℕ) → change ≡ Resumed device → WantsOwed run first before device way_table.rows next.told line.time.0 taken
  wants_before device is r z in_way in_next of_r of_z live x low =
      is_wanted_there ∙ ap (λ (time : ℕ). owes_track run first points r time x) was_at
      ∙ sym (ap (λ (ps : List PassedPoint). owes_track run first ps r line.time.0 x) before_is ∙ owes_still r was.told (among_of was.told r in_was) h.apart resumes.0 run first points (points_before l.answered p.more) line.time.0 x marks_are)
    where
      was_at : was.time ≡ line.time.0
      was_at = ap (λ (q : Point). q.time) (sym here) ∙ (h.may.active goes).0.at

      in_was : Contains was.told r
      in_was = subst (λ (rows : List PairRow). Contains rows r) way_rows in_way

      change_is_its : change ≡ Resumed r.device
      change_is_its = is ∙ ap Resumed (sym of_r)

      take : MayTake g (Resumed r.device) was.told next.told
      take =
          subst (λ (c : Change). MayTake g c was.told next.told) change_is_its
          (takes_there tells run stage asked l first points names line change was site next began old new g h was_plant is_plant logs does may_change leaves same_plant)

      resumes : (is_suspended r.state ≡ true) × (counts (control_at g r.control).phase ≡ true)
      resumes = resumed_was g was.told next.told r h.apart in_was take

      maps : MapsOwed run first points (site_point was) g
      maps = (on tells run stage asked l first points names line change was site next began old new g h).maps

      is_wanted_there : is_wanted r.volume x (control_at taken r.control).volumes ≡ owes_track run first points r was.time x
      is_wanted_there =
          ap (λ (c : Change). is_wanted r.volume x (control_at (after_calls (calls_of_change c g was.told next.told) g) r.control).volumes) change_is_its
          ∙ wants_owed run first points (site_point was) next.told g kept maps r z take in_was in_next (of_z ∙ sym of_r) live x low

  -- The command was done, and its change is logged.
  pub has_logged : HasCommanded run stage line asked l first points p.more (record { answer = Ok change; tracks = tracks_to_copy change g was.told next.told }) next began new (Some taken)
  has_logged = record {
    hits = p.hits;
    by = p.by;
    at = at_leg;
    ending = may_end;
    unhit = λ reported. p.unhit (and_parts (is_query line.command) (accepts run way_table line) reported).0;
    tells = tells_answer;
    goes_on = λ goes. goes_on_there;
    wants = λ device is goes. wants_before device (change_of_ok change (Resumed device) is);
  }
