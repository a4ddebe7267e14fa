-- A line that is answered from the start on, in a run.
use Rattle.std.proofs.Common.{◌≡◌, inl, ℕ, ◌^◌, ◌<◌, Bool, true, false, true≢false, List, ◌++◌, length, Option, Some, None, Result, Ok, Err, refl, sym, ap, subst, ◌∙◌, arith}
use Rattle.std.specs.Prelude.{IfSome, IsErrOf, IsSomeAnd, OnOk, fold}
use Rattle.std.specs.List.{All}
use Rattle.crash_plant.specs.Calls.{Elapses, SameSite, Silent}
use Rattle.crash_plant.specs.Moments.{PlantState}
use Rattle.pair_table.specs.declared.command.Change.{Change}
use Rattle.pair_table.specs.declared.command.Refusal.{Refusal}
use Rattle.pair_table.specs.Commands.{table_after}
use Rattle.pair_table.specs.Naming.{Naming}
use Rattle.pair_table.specs.Tables.{Table}
use Rattle.group_state.specs.Groups.{Group}
use Rattle.site_store.specs.Sites.{SiteState}
use Rattle.consistency.specs.Answering.{is_command_of}
use Rattle.consistency.specs.Stages.{ScriptRun, Stage, breaks_of, names_of}
use Rattle.consistency.specs.Courses.{Answered}
use Rattle.consistency.specs.Leads.{Point}
use Rattle.consistency.specs.Steps.{names_at}
use Rattle.consistency.specs.Ways.{IsAtWork, Leg, PassedPoint, leg_after}
use Rattle.mover.specs.declared.lane.Lane.{Lane}
use Rattle.mover.specs.Epochs.{LanesBrokeAs}
use Rattle.mover.specs.Working.{LinesAsked}
use Rattle.xrc_command.specs.declared.line.Line.{Line}
use Rattle.xrc_status.specs.declared.stop.Stop.{Stop}
use Rattle.xrc_status.specs.declared.stop.Stop.TheVariants.{Spent}
use Rattle.xrc_session.specs.declared.answering.LineAnswer.{LineAnswer}
use Rattle.xrc_session.specs.Answering.{EndsCommand, IsSiteAnswered, MayAnswer}
use Rattle.xrc_session.specs.LinePauses.{GoesOnFrom, HasCut, IsAtSite, IsRunOfSession, RestsAtSite, stage_after_text}
use Rattle.xrc_session.specs.Ends.{StopsInLine}
use Rattle.xrc_session.specs.States.{SessionState}
use Rattle.xrc_session.specs.Steps.{EndsBringing, EndsDoing, HasBrought, HasHeard, MayBring, PassesPointsOn}
use Rattle.xrc_session.specs.Stops.{IsSpentNow}
use Rattle.xrc_session.specs.Trails.{Trail, asked_with, first_leg, last_leg, with_points}
use Rattle.xrc_session.proofs.RestingMarks.{nothing_is_walked}
use Rattle.xrc_session.proofs.Asked.{answered_rises, asked_alike, asked_number, asked_there, fold_append, fresh_points, none_of_number, same_ending}
use Rattle.xrc_session.proofs.LinesAnswered.{IsAfterCommand, IsAtLeg, line_to_reply}
use Rattle.xrc_session.proofs.LinesBrought.{some_value, started_after}
use Rattle.xrc_session.proofs.LinesWithin.{IsWithin, rests_at, within_first, within_on, within_stops}
use Rattle.xrc_session.proofs.OfCommands.{just_begun}

-- ---- before the command

module _ {S : Type 0} (tells : Type 0) (run : ScriptRun) (lines : List Answered) (trail : Trail) (text : List ℕ) (line : Line) (s : SessionState) (lanes : List (Lane S)) (began old : PlantState) (heard : HasHeard run lines trail text line s lanes began old) (site : SiteState)
    (is : s.site ≡ Some site) (at_site : IsAtSite tells s lanes old site) where
  abbrev stage : Stage
  stage = stage_after_text run lines text began

  abbrev asked : LinesAsked
  asked = asked_with lines (Some line)

  abbrev l : Leg
  l = last_leg run lines trail

  abbrev first : Point
  first = (first_leg run lines trail).point

  rests : RestsAtSite run lines stage trail s began old site
  rests = rests_at run lines trail text line s lanes began old heard site is

  asked_is : asked l.answered ≡ Some line
  asked_is = asked_there lines (Some line) l.answered rests.rest.answered

  table_is : stage.table ≡ site.table
  table_is = heard.answered.stands.table ∙ at_site.table

  pub level_is : run.level ≡ site.level
  level_is = subst (λ (o : Option SiteState). IfSome o (λ x. run.level ≡ x.level)) is heard.answered.stands.its.level

  fresh : All (λ n. is_command_of l.answered n.way ≡ false) trail.points
  fresh =
      fresh_points l.answered trail.points
      (none_of_number run asked (first_leg run lines trail) trail.points l.answered rests.rest.marked (omega arith) (within_first run lines trail text line s lanes began old heard site is).next)

  pub rest_at_leg : IsAtLeg run lines stage l
  rest_at_leg = record { leg = rests.under_way.at.leg; answered = rests.rest.answered; ended = λ ended. (rests.rest.point, rests.rest.changes) }

  -- A session that has ended may answer.
  pub ended_may_answer : site.table.is_ended ≡ true → MayAnswer run stage line asked l first trail.points s.names site s.group began old
  ended_may_answer ended = record {
    heard = heard.next;
    asked_is = asked_is;
    marked = rests.rest.marked;
    fresh = fresh;
    level = level_is;
    at = rests.under_way.at;
    active = λ goes. absurd (true≢false (sym ended ∙ goes));
    ended = λ now. (rests.rest.point, rests.rest.changes);
    goes_on = λ goes. absurd (true≢false (sym ended ∙ goes));
    cut = λ goes. absurd (true≢false (sym ended ∙ goes));
  }

  -- ---- one that goes on

  module _ (goes : site.table.is_ended ≡ false) where
    at_work : IsAtWork run asked l
    at_work = record {
      goes_on = ap (λ (p : Point). p.is_ended) rests.under_way.at.here ∙ at_site.flag ∙ goes;
      not_ending =
          same_ending run (asked_with lines None) asked l (length lines) (omega (arith, rests.rest.answered)) (λ k below. asked_alike lines None (Some line) k below) ∙ rests.rest.not_ending;
      none_marked = rests.rest.marked;
    }

    may_bring_group : (o : Option Group) → IsSomeAnd o (GoesOnFrom run first trail.points site old) → IsSomeAnd o (HasCut site.time) → IsSomeAnd o (MayBring run stage line asked l first trail.points site began old)
    may_bring_group None is_on cut = absurd is_on
    may_bring_group (Some group) is_on cut = record {
      heard = heard.next;
      asked_is = asked_is;
      active = ap (λ (t : Table). t.is_ended) table_is ∙ goes;
      unchanged = rests.rest.changes;
      at = rests.under_way.at;
      at_work = at_work;
      goes_on = is_on;
      cut = inl cut;
    }

    -- It may be brought to the line's time.
    pub may_bring : IsSomeAnd s.group (MayBring run stage line asked l first trail.points site began old)
    may_bring = may_bring_group s.group (rests.under_way.goes_on goes) (at_site.cut goes)

    -- Where it stopped on the way the run stops.
    pub bring_stops : (mid : PlantState) → SameSite old mid → Elapses old mid → Silent old mid → (stop : Stop) → (stop ≡ Spent → IsSpentNow mid) → (next : SiteState) (group : Option Group)
        → EndsBringing run stage line asked l first trail.points next group began old mid (Err stop) → StopsInLine run lines text began mid stop
    bring_stops mid same past silent stop spent next group ends =
        within_stops run lines trail text (Some line) began old mid heard.next (within_first run lines trail text line s lanes began old heard site is) same past silent stop spent ends

    -- Once it was brought there it may answer.
    module _ (mid : PlantState) (same : SameSite old mid) (past : Elapses old mid) (silent : Silent old mid) (next : SiteState) (group : Option Group) (names : Naming) (named : names ≡ names_at line.time.0 (breaks_of run) (names_of run)) (same_level : next.level ≡ site.level)
        (still_goes : next.table.is_ended ≡ false) (cut : IsSomeAnd group (HasCut next.time)) (more : List PassedPoint) (passes : PassesPointsOn run stage asked l more None old mid)
        (brought : IsSomeAnd group (HasBrought run stage line asked (fold leg_after l more) first (trail.points ++ more) next began mid)) where
      abbrev after : Trail
      after = with_points more trail

      some : (g : Group) × (group ≡ Some g) × HasBrought run stage line asked (fold leg_after l more) first (trail.points ++ more) next began mid g
      some = some_value {P = HasBrought run stage line asked (fold leg_after l more) first (trail.points ++ more) next began mid} group brought

      joined : last_leg run lines after ≡ fold leg_after l more
      joined = fold_append (first_leg run lines trail) trail.points more

      -- It is answered as many lines as before.
      same_answered : (fold leg_after l more).answered ≡ length lines
      same_answered = asked_number lines line (fold leg_after l more).answered (omega (arith, answered_rises l more, rests.rest.answered)) some.2.asked_is

      pub brought_within : IsWithin run lines after text (Some line) began mid
      brought_within = within_on run lines trail text (Some line) began old mid heard.next (within_first run lines trail text line s lanes began old heard site is) same past silent more passes some.2.at_work.none_marked (omega (arith, same_answered))

      brought_fresh : All (λ n. is_command_of (last_leg run lines after).answered n.way ≡ false) after.points
      brought_fresh =
          fresh_points (last_leg run lines after).answered after.points
          (none_of_number run asked (first_leg run lines trail) after.points (last_leg run lines after).answered brought_within.marked (omega arith) brought_within.next)

      here : HasBrought run stage line asked (last_leg run lines after) first after.points next began mid some.0
      here = subst (λ (k : Leg). HasBrought run stage line asked k first after.points next began mid some.0) (sym joined) some.2

      pub brought_may_answer : MayAnswer run stage line asked (last_leg run lines after) first after.points names next group began mid
      brought_may_answer = record {
        heard = heard.next;
        asked_is = here.asked_is;
        marked = here.at_work.none_marked;
        fresh = brought_fresh;
        level = level_is ∙ sym same_level;
        at = here.at;
        active = λ on. (here.may, here.at_work, named);
        ended = λ ended. absurd (true≢false (sym ended ∙ still_goes));
        goes_on = λ on. subst (λ (o : Option Group). IsSomeAnd o (GoesOnFrom run first after.points next mid)) (sym some.1) here.goes_on;
        cut = λ on. cut;
      }

      pub brought_at_leg : IsAtLeg run lines stage (last_leg run lines after)
      brought_at_leg = record {
        leg = here.at.leg;
        answered = ap (λ (k : Leg). k.answered) joined ∙ same_answered;
        ended = λ ended. absurd (true≢false (sym ended ∙ ap (λ (t : Table). t.is_ended) table_is ∙ goes));
      }

-- ---- the command

-- How a line ends after the command of a session that was brought to its time, or that has ended.
module _ {S : Type 0} (run : ScriptRun) (lines : List Answered) (trail : Trail) (text : List ℕ) (line : Line) (began mid new : PlantState) (heard : (stage_after_text run lines text began).next ≡ Some line) (within : IsWithin run lines trail text (Some line) began mid)
    (at_leg : IsAtLeg run lines (stage_after_text run lines text began) (last_leg run lines trail)) (same : SameSite mid new) (past : Elapses mid new) (silent : Silent mid new) (short : line.time.0 < 2 ^ 64) where
  pub command_ends : (s : SessionState) (lanes : List (Lane S)) (site : SiteState) (result : Result LineAnswer Stop) → (IsErrOf result Spent → IsSpentNow new) → OnOk result (IsAfterCommand run s lanes site new)
      → EndsCommand run (stage_after_text run lines text began) line (asked_with lines (Some line)) (last_leg run lines trail) (first_leg run lines trail).point trail.points site s.group began mid new result → EndsDoing run lines text line s lanes began new result
  command_ends s lanes site (Err stop) spent stands ends =
      within_stops run lines trail text (Some line) began mid new heard within same past silent stop (λ is. spent (ap (λ (x : Stop). let r : Result LineAnswer Stop = Err x in r) is)) ends
  command_ends s lanes site (Ok answered) spent stands ends =
      let more = ends.0 in
      let passes = ends.1 in
      let done = ends.2 in
      let begun = just_begun (last_leg run lines trail).answered done.hits (last_leg run lines trail) more done.by in
      let after = within_on run lines trail text (Some line) began mid new heard within same past silent more passes begun.marked (omega (arith, begun.answered, at_leg.answered)) in
      (with_points more trail, line_to_reply run lines trail more text line began mid new heard within at_leg after passes answered s lanes site stands done short)

-- What a session is to its run after the command.
pub after_command_is : {S : Type 0} (tells : Type 0) (run : ScriptRun) (s : SessionState) (lanes_now : List (Lane S)) (names names_now : Naming) (site next : SiteState) (line : Line) (answered : Result Change Refusal) (new : PlantState) (group : Option Group) (flag : Bool) → IsRunOfSession s run → run.level ≡ site.level → run.labels ≡ names.labels
    → names_now ≡ names → site.table.session ≡ s.session → site.table.is_started ≡ true → IsSiteAnswered tells names line answered site next new → (next.table.is_ended ≡ false → names ≡ names_at site.time (breaks_of run) (names_of run)) → LanesBrokeAs site.time run.traces lanes_now
    → tells → (next.table.is_ended ≡ true → next.at ≡ next.mark.at)
    → IsAfterCommand run (record { session = s.session; controls = s.controls; names = names_now; group = group; table = next.table; site = Some next; is_ended = flag }) lanes_now next new
after_command_is {S} tells run s lanes_now names names_now site next line answered new group flag its level labels same session started after named broke told empty = record {
  its = record { names = its.names; session = its.session; level = level ∙ sym after.level; labels = labels ∙ sym (ap (λ (n : Naming). n.labels) same) };
  site_is = refl;
  table = refl;
  flag = after.flag;
  told = after.may.idle.same;
  session = ap (λ (t : Table). t.session) after.table ∙ facts.0 ∙ session ∙ sym its.session;
  started = ap (λ (t : Table). t.is_started) after.table ∙ facts.1;
  named = λ on. same ∙ named on ∙ ap (λ (n : ℕ). names_at n (breaks_of run) (names_of run)) (sym after.time);
  broke = subst (λ (n : ℕ). LanesBrokeAs n run.traces lanes_now) (sym after.time) broke;
  applied = λ ended. let stand = after.may.idle.may.fast.stands told in nothing_is_walked new stand.0 next stand.1 (empty ended);
}
  where
    facts : ((table_after names site.table line.session line.command line.time.0).session ≡ site.table.session) × ((table_after names site.table line.session line.command line.time.0).is_started ≡ true)
    facts = started_after names site.table line.session line.command line.time.0 started
