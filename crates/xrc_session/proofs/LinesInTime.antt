-- A line that is answered from the start on, by the calls that bring a session to its time and do its command.
use Rattle.std.proofs.Common.{◌≡◌, ◌⊎◌, inl, inr, ℕ, ◌^◌, ◌<◌, ◌≤◌, Bool, true, false, true≢false, List, ◌++◌, Option, Some, Result, Ok, Err, refl, sym, ap, subst, ◌∙◌, arith}
use Rattle.std.specs.Prelude.{◌||◌, IfOk, IfSome, IsErrOf, IsSomeAnd, OnOk}
use Rattle.std.specs.Option.{option_map}
use Rattle.std.proofs.lemmas.Bool.{or_parts}
use Rattle.crash_plant.specs.Calls.{Elapses, NoneLent, SameSite, Silent}
use Rattle.crash_plant.specs.Moments.{PlantState}
use Rattle.pair_table.specs.declared.row.PairRow.{PairRow}
use Rattle.pair_table.specs.Commands.{answer}
use Rattle.pair_table.specs.Naming.{Naming}
use Rattle.pair_table.specs.Tables.{Table}
use Rattle.group_state.specs.Groups.{Group}
use Rattle.site_store.specs.Sites.{SiteState}
use Rattle.consistency.specs.Stages.{ScriptRun, breaks_of, names_of}
use Rattle.consistency.specs.Courses.{Answered}
use Rattle.consistency.specs.Steps.{names_at}
use Rattle.mover.specs.declared.lane.Lane.{Lane}
use Rattle.mover.specs.Epochs.{AllTurnOut, AreSameLanes, LanesBrokeAs}
use Rattle.xrc_command.specs.declared.line.Line.{Line}
use Rattle.xrc_status.specs.declared.stop.Stop.{Stop}
use Rattle.xrc_status.specs.declared.stop.Stop.TheVariants.{Spent}
use Rattle.xrc_session.specs.declared.answering.LineAnswer.{LineAnswer}
use Rattle.xrc_session.specs.declared.kept.SessionParts.{SessionParts}
use Rattle.xrc_session.specs.Answering.{AnswersCommands, IsSiteAnswered, MayAnswer, group_taken, is_end_accepted}
use Rattle.xrc_session.specs.LinePauses.{HasCut, IsAtSite, IsBetween, RestsAtSite, RisesCover, stage_after_text}
use Rattle.xrc_session.specs.Bringing.{BreakOnAsTraces, IsSiteBrought}
use Rattle.xrc_session.specs.Frames.{SuspendsByCounts}
use Rattle.xrc_session.specs.Lanes.{with_lanes_broken}
use Rattle.xrc_session.specs.Lines.{IsDoneLine}
use Rattle.xrc_session.specs.States.{SessionState, site_time}
use Rattle.xrc_session.specs.Steps.{BringsOn, DoesLine, EndsBringing, HasHeard, MayBring}
use Rattle.xrc_session.specs.Stops.{IsSpentNow}
use Rattle.xrc_session.specs.Taking.{IsSoundForRows}
use Rattle.xrc_session.specs.Trails.{Trail, asked_with, first_leg, last_leg, with_points}
use Rattle.xrc_session.proofs.InTurn.{NoneFell, rises_before}
use Rattle.xrc_session.proofs.LinesAnswered.{IsAfterCommand}
use Rattle.xrc_session.proofs.LinesBrought.{IsAtLine, answered_between, at_site, ended_after}
use Rattle.xrc_session.proofs.LinesDone.{from_start_done}
use Rattle.xrc_session.proofs.LinesFromStart.{after_command_is, bring_stops, brought_at_leg, brought_may_answer, brought_within, command_ends, ended_may_answer, level_is, may_bring, rest_at_leg}
use Rattle.xrc_session.proofs.LinesWithin.{rests_at, within_first}
use Rattle.xrc_session.proofs.Names.{names_at_time}
use Rattle.xrc_session.proofs.Readying.{heads_stay}

-- ---- results

pub ok_then : {T : Type 0} (P : T → Type 0) (X : Type 0) (r : Result T Stop) → ((value : T) → P value → X) → IfOk r P → OnOk r X
ok_then {T} P X (Ok value) f is = f value is
ok_then {T} P X (Err stop) f is = tt

-- ---- rows

-- Rows of tables are suspended as those that devices tell.
pub suspends_as : (was is : List PairRow) (rows rows_now : List PairRow) (old new : PlantState) → was ≡ rows → is ≡ rows_now → SuspendsByCounts was is old new → SuspendsByCounts rows rows_now old new
suspends_as was is rows rows_now old new same same_now suspends =
    subst (λ (x : List PairRow). SuspendsByCounts x rows_now old new) same (subst (λ (x : List PairRow). SuspendsByCounts was x old new) same_now suspends)

-- ---- answered

module _ {S : Type 0} (tells : Type 0) (s : SessionState) (was : SiteState) (is : s.site ≡ Some was) (line : Line) (after : List (Lane S)) (names : Naming) (group : Option Group) (site : SiteState) (mid : PlantState) (at : IsAtLine tells s after names group site line.time.0 mid)
    (same_level : site.level ≡ was.level) (same_labels : names.labels ≡ s.names.labels) (new : PlantState) (names_now : Naming) (names_are : names_now ≡ names) (group_now : Option Group) (next : SiteState) (a : LineAnswer) (site_answered : IsSiteAnswered tells names line a.answer site next new)
    (kept : next.table.is_ended ≡ false → IsSomeAnd group_now (λ g. IsSoundForRows g next.told)) (taken : next.table.is_ended ≡ false → group_now ≡ option_map (group_taken a.answer site.told next.told) group) (flag : Bool) (flag_as : flag ≡ (s.is_ended || is_end_accepted a.answer)) where
  abbrev now : SessionState
  now = record { session = s.session; controls = s.controls; names = names_now; group = group_now; table = next.table; site = Some next; is_ended = flag }

  -- The line is done, but for its reply.
  pub in_time_done : SameSite mid new → NoneLent new → IsDoneLine tells s now line after new a
  in_time_done same home =
      from_start_done tells s now after new line a was next is refl (answered_between tells s after names group site line mid new at names_now names_are group_now next a.answer site_answered kept taken flag flag_as same home) (record { session = refl; controls = refl })
      (site_answered.level ∙ same_level) (ap (λ (n : Naming). n.labels) names_are ∙ same_labels) time (omega (arith, site_answered.time, at.up))
    where
      time : flag ≡ false → next.time ≡ line.time.0
      time off = site_answered.time ∙ at.time_is (sym at.ended ∙ (or_parts s.is_ended (is_end_accepted a.answer) (sym flag_as ∙ off)).0)

-- ---- after the end

module _ {S : Type 0} (tells : Type 0) (told : tells) (left : S → Option (List ℕ)) (s : SessionState) (lanes : List (Lane S)) (old : PlantState) (between : IsBetween tells s lanes old) (site : SiteState) (is : s.site ≡ Some site) (line : Line) (short : line.time.0 < 2 ^ 64) (ended : s.is_ended ≡ true)
    (new : PlantState) (same : SameSite old new) (past : Elapses old new) (silent : Silent old new) (kept : SessionParts) (next : SiteState) (result : Result LineAnswer Stop) (names_are : kept.names ≡ s.names) (site_answered : IfOk result (λ a. IsSiteAnswered tells s.names line a.answer site next new))
    (spent : IsErrOf result Spent → IsSpentNow new) where
  abbrev end_now : SessionState
  end_now = record { session = s.session; controls = s.controls; names = kept.names; group = kept.group; table = next.table; site = Some next; is_ended = s.is_ended }

  stands_at : IsAtSite tells s lanes old site
  stands_at = at_site tells s lanes old between site is

  site_ended : site.table.is_ended ≡ true
  site_ended = sym stands_at.ended ∙ ended

  pub end_does : (before : SessionParts) → before.names ≡ s.names → before.group ≡ s.group → (began : PlantState) → AnswersCommands line before kept site next began old new result → DoesLine left line s end_now lanes lanes began old new result
  end_does before same_names same_group began answers run lines trail text over heard =
      command_ends run lines trail text line began old new heard.next (within_first run lines trail text line s lanes began old heard site is) (rest_at_leg tells run lines trail text line s lanes began old heard site is stands_at) same past silent short end_now lanes
      next result spent (ok_then (λ a. IsSiteAnswered tells s.names line a.answer site next new) (IsAfterCommand run end_now lanes next new) result of_answer site_answered)
      (answers run (stage_after_text run lines text began) (asked_with lines (Some line)) (last_leg run lines trail) (first_leg run lines trail).point trail.points
      (subst (λ (n : Naming). MayAnswer run (stage_after_text run lines text began) line (asked_with lines (Some line)) (last_leg run lines trail) (first_leg run lines trail).point trail.points n site before.group began old) (sym same_names)
      (subst (λ (g : Option Group). MayAnswer run (stage_after_text run lines text began) line (asked_with lines (Some line)) (last_leg run lines trail) (first_leg run lines trail).point trail.points s.names site g began old) (sym same_group)
      (ended_may_answer tells run lines trail text line s lanes began old heard site is stands_at site_ended)))
      over.rises)
    where
      empty_still : (next.at ≡ next.mark.at) ⊎ (next ≡ site) → next.at ≡ next.mark.at
      empty_still (inl is_empty) = is_empty
      empty_still (inr still) = ap (λ (x : SiteState). x.at) still ∙ stands_at.empty site_ended ∙ sym (ap (λ (x : SiteState). x.mark.at) still)

      of_answer : (a : LineAnswer) → IsSiteAnswered tells s.names line a.answer site next new → IsAfterCommand run end_now lanes next new
      of_answer a answered =
          let its = heard.answered.stands.its in
          let still : next.table.is_ended ≡ true =
          ap (λ (t : Table). t.is_ended) answered.table ∙ ended_after s.names site.table line.session line.command line.time.0 ∙ ap (λ (e : Bool). e || is_end_accepted (answer s.names site.table line.session line.command)) site_ended in
          after_command_is tells run s lanes s.names kept.names site next line a.answer new kept.group s.is_ended its (level_is tells run lines trail text line s lanes began old heard site is stands_at)
          (subst (λ (o : Option SiteState). IfSome o (λ x. run.labels ≡ s.names.labels)) is its.labels) names_are stands_at.session stands_at.may.commands.started answered (λ on. absurd (true≢false (sym still ∙ on)))
          (subst (λ (o : Option SiteState). LanesBrokeAs (site_time o) run.traces lanes) is heard.answered.broke) told (λ on. empty_still (answered.empty on))

-- ---- in time

module _ {S : Type 0} (tells : Type 0) (told : tells) (left : S → Option (List ℕ)) (s : SessionState) (lanes : List (Lane S)) (old : PlantState) (between : IsBetween tells s lanes old) (site : SiteState) (is : s.site ≡ Some site) (line : Line) (goes : s.is_ended ≡ false)
    (up : site.time ≤ line.time.0) (after : List (Lane S)) (mid : PlantState) (same : SameSite old mid) (past : Elapses old mid) (silent : Silent old mid) (began : PlantState) (before between_kept : SessionParts) (same_group : before.group ≡ s.group) (brought : SiteState) where
  site_at : IsAtSite tells s lanes old site
  site_at = at_site tells s lanes old between site is

  site_goes : site.table.is_ended ≡ false
  site_goes = sym site_at.ended ∙ goes

  abbrev Ends : (run : ScriptRun) → List Answered → Trail → (text : List ℕ) → Result (Unit {0}) Stop → Type 0
  Ends run lines trail text r =
      EndsBringing run (stage_after_text run lines text began) line (asked_with lines (Some line)) (last_leg run lines trail) (first_leg run lines trail).point trail.points brought between_kept.group began old mid r

  bringing : (run : ScriptRun) (lines : List Answered) (trail : Trail) (text : List ℕ) → HasHeard run lines trail text line s lanes began old → AllTurnOut left run.traces lanes after → RisesCover run began mid
      → (r : Result (Unit {0}) Stop) → BringsOn left line.time.0 lanes after before between_kept site brought began old mid r → Ends run lines trail text r
  bringing run lines trail text heard traces rises r brings =
      brings run (stage_after_text run lines text began) line (asked_with lines (Some line)) (last_leg run lines trail) (first_leg run lines trail).point trail.points refl
      (level_is tells run lines trail text line s lanes began old heard site is site_at)
      (subst (λ (g : Option Group). IsSomeAnd g (MayBring run (stage_after_text run lines text began) line (asked_with lines (Some line)) (last_leg run lines trail) (first_leg run lines trail).point trail.points site began old)) (sym same_group)
      (may_bring tells run lines trail text line s lanes began old heard site is site_at site_goes))
      traces rises

  -- It stops on the way.
  pub bring_does : (next : SessionState) (stop : Stop) → (stop ≡ Spent → IsSpentNow mid) → (let r : Result (Unit {0}) Stop = Err stop in BringsOn left line.time.0 lanes after before between_kept site brought began old mid r)
      → (let r : Result LineAnswer Stop = Err stop in DoesLine left line s next lanes after began old mid r)
  bring_does next stop spent brings run lines trail text over heard =
      bring_stops tells run lines trail text line s lanes began old heard site is site_at site_goes mid same past silent stop spent brought between_kept.group
      (bringing run lines trail text heard over.traces over.rises (Err stop) brings)

  -- It comes to the line's time, and the command is done.
  module _ (short : line.time.0 < 2 ^ 64) (lanes_same : AreSameLanes lanes after) (broke : BreakOnAsTraces left line.time.0 lanes after) (at : IsAtLine tells s after between_kept.names between_kept.group brought line.time.0 mid) (site_is : IsSiteBrought line.time.0 site brought)
      (names_are : between_kept.names ≡ with_lanes_broken 0 after s.names) (labels_are : between_kept.names.labels ≡ s.names.labels) (brings : let r : Result (Unit {0}) Stop = Ok tt in BringsOn left line.time.0 lanes after before between_kept site brought began old mid r)
      (new : PlantState) (fell : NoneFell mid new) (same_then : SameSite mid new) (past_then : Elapses mid new) (silent_then : Silent mid new) (kept : SessionParts) (kept_names : kept.names ≡ between_kept.names) (next : SiteState) (flag : Bool) (result : Result LineAnswer Stop)
      (site_answered : IfOk result (λ a. IsSiteAnswered tells between_kept.names line a.answer brought next new)) (spent : IsErrOf result Spent → IsSpentNow new) (answers : AnswersCommands line between_kept kept brought next began mid new result) where
    abbrev then_now : SessionState
    then_now = record { session = s.session; controls = s.controls; names = kept.names; group = kept.group; table = next.table; site = Some next; is_ended = flag }

    brought_goes : brought.table.is_ended ≡ false
    brought_goes = ap (λ (t : Table). t.is_ended) site_is.table ∙ site_goes

    pub in_time_does : DoesLine left line s then_now lanes after began old new result
    in_time_does run lines trail text over heard =
        command_ends run lines (with_points ends.0 trail) text line began mid new heard.next
        (brought_within tells run lines trail text line s lanes began old heard site is site_at site_goes mid same past silent brought between_kept.group between_kept.names named_now site_is.level brought_goes cut_mid ends.0 ends.1 ends.2)
        (brought_at_leg tells run lines trail text line s lanes began old heard site is site_at site_goes mid same past silent brought between_kept.group between_kept.names named_now site_is.level brought_goes cut_mid ends.0 ends.1 ends.2)
        same_then past_then silent_then short then_now after next result spent (ok_then (λ a. IsSiteAnswered tells between_kept.names line a.answer brought next new) (IsAfterCommand run then_now after next new) result of_answer site_answered)
        (answers run (stage_after_text run lines text began) (asked_with lines (Some line)) (last_leg run lines (with_points ends.0 trail)) (first_leg run lines trail).point (trail.points ++ ends.0)
        (brought_may_answer tells run lines trail text line s lanes began old heard site is site_at site_goes mid same past silent brought between_kept.group between_kept.names named_now site_is.level brought_goes cut_mid ends.0 ends.1 ends.2) over.rises)
      where
        cut_mid : IsSomeAnd between_kept.group (HasCut brought.time)
        cut_mid = subst (λ (n : ℕ). IsSomeAnd between_kept.group (HasCut n)) (sym site_is.at) (at.cut brought_goes)

        rises_mid : RisesCover run began mid
        rises_mid = rises_before run began mid new fell over.rises

        ends : Ends run lines trail text (Ok tt)
        ends = bringing run lines trail text heard over.traces rises_mid (Ok tt) brings

        rests : RestsAtSite run lines (stage_after_text run lines text began) trail s began old site
        rests = rests_at run lines trail text line s lanes began old heard site is

        broke_now : LanesBrokeAs line.time.0 run.traces after
        broke_now = broke run.traces site.time up over.traces (subst (λ (o : Option SiteState). LanesBrokeAs (site_time o) run.traces lanes) is heard.answered.broke)

        named_now : between_kept.names ≡ names_at line.time.0 (breaks_of run) (names_of run)
        named_now = names_at_time run after site.time line.time.0 s.names between_kept.names up broke_now (heads_stay lanes after run.traces lanes_same over.heads) at.headed (rests.named site_goes) names_are

        empty_now : next.table.is_ended ≡ true → (next.at ≡ next.mark.at) ⊎ (next ≡ brought) → next.at ≡ next.mark.at
        empty_now on (inl is_empty) = is_empty
        empty_now on (inr still) = absurd (true≢false (sym on ∙ ap (λ (x : SiteState). x.table.is_ended) still ∙ brought_goes))

        of_answer : (a : LineAnswer) → IsSiteAnswered tells between_kept.names line a.answer brought next new → IsAfterCommand run then_now after next new
        of_answer a answered =
            let its = heard.answered.stands.its in
            after_command_is tells run s after between_kept.names kept.names brought next line a.answer new kept.group flag its (level_is tells run lines trail text line s lanes began old heard site is site_at ∙ sym site_is.level)
            (subst (λ (o : Option SiteState). IfSome o (λ x. run.labels ≡ s.names.labels)) is its.labels ∙ sym labels_are) kept_names at.session at.may.commands.started answered
            (λ on. named_now ∙ ap (λ (n : ℕ). names_at n (breaks_of run) (names_of run)) (sym site_is.at)) (subst (λ (n : ℕ). LanesBrokeAs n run.traces after) (sym site_is.at) broke_now) told
            (λ on. empty_now on (answered.empty on))
