-- A line's command by the call that does it: what stands where it wants memory, is refused, or has its change logged.
use Rattle.std.proofs.Common.{◌≡◌, ℕ, false, Option, Some, Result, Ok, Err, sym, ap, subst, ◌∙◌}
use Rattle.std.specs.Option.{option_map}
use Rattle.std.specs.Prelude.{IfOk, IsErrOf, IsSomeAnd, OnErr}
use Rattle.crash_plant.specs.Moments.{PlantState}
use Rattle.pair_table.specs.declared.command.Change.{Change}
use Rattle.pair_table.specs.declared.command.CommandError.{CommandError}
use Rattle.pair_table.specs.declared.command.CommandError.TheVariants as errors
use Rattle.pair_table.specs.declared.command.Refusal.{Refusal}
use Rattle.pair_table.specs.Commands.{answer}
use Rattle.pair_table.specs.Naming.{Naming}
use Rattle.pair_table.specs.Refusals.{refusal}
use Rattle.pair_table.specs.Tables.{AreRowsSound}
use Rattle.group_state.specs.Groups.{Group}
use Rattle.xrc_command.specs.declared.line.Line.{Line}
use Rattle.site_store.specs.Commands.{IsToLog, after_command}
use Rattle.site_store.specs.Sites.{SiteState}
use Rattle.xrc_status.specs.declared.stop.Stop.{Stop}
use Rattle.xrc_status.specs.declared.stop.Stop.TheVariants.{NoMemory, Spent}
use Rattle.xrc_session.specs.declared.answering.LineAnswer.{LineAnswer}
use Rattle.xrc_session.specs.declared.kept.SessionParts.{SessionParts}
use Rattle.xrc_session.specs.Answering.{AnswersCommands, EndsCommand, IsDoneFrom, IsSiteCommanded, LogsCommands, answer_said, change_result, group_taken}
use Rattle.xrc_session.specs.LinePauses.{MayCommandSite}
use Rattle.xrc_session.specs.Bringing.{IsWorkOfStore}
use Rattle.xrc_session.specs.Stops.{IsSpentNow}
use Rattle.xrc_session.specs.Taking.{IsSoundForRows}
use Rattle.xrc_session.proofs.AnswerDone.{no_work_done, refused_ends, refused_leaves, refused_site, said_refusal, some_first, told_change}
use Rattle.xrc_session.proofs.AnswerRefused.{command_stops}

-- ---- by the answer of the call

-- A command for which there is no memory leaves what stands after each error.
pub without_memory : (A : Type 0) (done : Result Change CommandError) (stop : Stop) → answer_said done ≡ Err stop → OnErr done A → A × (NoMemory ≡ stop)
without_memory A (Ok change) stop is left = absurd cc
without_memory A (Err (errors.Refused why)) stop is left = absurd cc
without_memory A (Err errors.NoMemory) stop is left = (left, cc)

of_change : (A : Change → Type 0) (done : Result Change CommandError) (change : Change) → done ≡ Ok change → IfOk done A → A change
of_change A done change is holds = subst (λ (r : Result Change CommandError). IfOk r A) is holds

of_refusal : (A : Type 0) (done : Result Change CommandError) (why : Refusal) → done ≡ Err (errors.Refused why) → OnErr done A → A
of_refusal A done why is holds = subst (λ (r : Result Change CommandError). OnErr r A) is holds

of_answer : (done : Result Change CommandError) (told : Result (Result Change Refusal) Stop) (answered given : Result Change Refusal) → told ≡ answer_said done → told ≡ Ok answered → answered ≡ given → answer_said done ≡ Ok given
of_answer done told answered given is was same = sym is ∙ was ∙ ap (λ (r : Result Change Refusal). let t : Result (Result Change Refusal) Stop = Ok r in t) same

-- A command was done: the site is the one after it, and its change may be logged if the rows keep a table's rules.
pub record IsDone (names : Naming) (line : Line) (change : Change) (was site : SiteState) : Type 0 where
  pub is : site ≡ after_command names line.session line.command line.time.0 change was
  pub done : answer names was.table line.session line.command ≡ Ok change
  pub to_log : was.is_ahead ≡ false → AreRowsSound site.table.rows → IsToLog change site

pub was_done : (names : Naming) (line : Line) (was site : SiteState) (done : Result Change CommandError) (told : Result (Result Change Refusal) Stop) (answered : Result Change Refusal) (change : Change) → told ≡ answer_said done → told ≡ Ok answered → answered ≡ Ok change
    → IfOk done (λ change. site ≡ after_command names line.session line.command line.time.0 change was) → IfOk done (λ change. answer names was.table line.session line.command ≡ Ok change)
    → IfOk done (λ change. was.is_ahead ≡ false → AreRowsSound site.table.rows → IsToLog change site) → IsDone names line change was site
was_done names line was site done told answered change is told_is same ok answers to_log =
    let done_is = told_change done change (of_answer done told answered (Ok change) is told_is same) in
    record {
      is = of_change (λ change. site ≡ after_command names line.session line.command line.time.0 change was) done change done_is ok;
      done = of_change (λ change. answer names was.table line.session line.command ≡ Ok change) done change done_is answers;
      to_log = of_change (λ change. was.is_ahead ≡ false → AreRowsSound site.table.rows → IsToLog change site) done change done_is to_log;
    }

-- A command was refused, and left the site.
pub record IsRefused (names : Naming) (line : Line) (why : Refusal) (was site : SiteState) : Type 0 where
  pub same : site ≡ was
  pub refused : refusal names was.table line.session line.command ≡ Some why

pub was_refused : (names : Naming) (line : Line) (was site : SiteState) (done : Result Change CommandError) (told : Result (Result Change Refusal) Stop) (answered : Result Change Refusal) (why : Refusal) → told ≡ answer_said done → told ≡ Ok answered → answered ≡ Err why
    → OnErr done (site ≡ was) → ((why : Refusal) → done ≡ Err (errors.Refused why) → refusal names was.table line.session line.command ≡ Some why) → IsRefused names line why was site
was_refused names line was site done told answered why is told_is same left refused =
    let done_is = said_refusal done why (of_answer done told answered (Err why) is told_is same) in
    record { same = of_refusal (site ≡ was) done why done_is left; refused = refused why done_is }

-- ---- where nothing is called

module _ (tells : Type 0) (line : Line) (kept kept_now : SessionParts) (was site : SiteState) (plant : PlantState) (may : MayCommandSite tells kept.names plant was) (flag : was.mark.ended ≡ was.table.is_ended) (same : site ≡ was) (same_group : kept_now.group ≡ kept.group) where
  no_memory_work : (let r : Result LineAnswer Stop = Err NoMemory in IsWorkOfStore tells was was plant plant r)
  no_memory_work = no_work_done tells was plant (Err NoMemory) tt unspent
    where
      unspent : tells → (let r : Result LineAnswer Stop = Err NoMemory in IsErrOf r Spent) → IsSpentNow plant
      unspent told is = absurd (cc is)

  -- Without memory nothing is done.
  pub stops_work : (stop : Stop) → NoMemory ≡ stop → (let r : Result LineAnswer Stop = Err stop in IsWorkOfStore tells was site plant plant r)
  stops_work stop is =
      subst (λ (s : SiteState). let r : Result LineAnswer Stop = Err stop in IsWorkOfStore tells was s plant plant r) (sym same)
      (subst (λ (stop : Stop). let r : Result LineAnswer Stop = Err stop in IsWorkOfStore tells was was plant plant r) is no_memory_work)

  pub stops_in_runs : (stop : Stop) (began : PlantState) → AnswersCommands line kept kept_now was site began plant plant (Err stop)
  stops_in_runs stop began run stage asked l first points m cover = command_stops run stage line asked l first points kept.names was kept.group began plant m cover flag

  module _ (why : Refusal) (refused : refusal kept.names was.table line.session line.command ≡ Some why) (answered : LineAnswer) (is : answered ≡ record { answer = Err why; tracks = 0 }) where
    pub refused_stands : IsSiteCommanded tells kept.names line answered.answer was site plant
    refused_stands =
        subst (λ (s : SiteState). IsSiteCommanded tells kept.names line answered.answer was s plant) (sym same)
        (subst (λ (a : LineAnswer). IsSiteCommanded tells kept.names line a.answer was was plant) (sym is) (refused_site tells kept.names line was plant may why refused))

    pub refused_work : (let r : Result LineAnswer Stop = Ok answered in IsWorkOfStore tells was site plant plant r)
    refused_work = subst (λ (s : SiteState). let r : Result LineAnswer Stop = Ok answered in IsWorkOfStore tells was s plant plant r) (sym same) (no_work_done tells was plant (Ok answered) tt unspent)
      where
        unspent : tells → (let r : Result LineAnswer Stop = Ok answered in IsErrOf r Spent) → IsSpentNow plant
        unspent told is = absurd (cc is)

    pub refused_taken : kept_now.group ≡ option_map (group_taken answered.answer was.told site.told) kept.group
    refused_taken =
        same_group
        ∙ refused_leaves why was.told site.told kept.group
        ∙ ap (λ (a : LineAnswer). option_map (group_taken a.answer was.told site.told) kept.group) (sym is)

    -- The rows stay kept.
    pub refused_keeps : (A : Group → Type 0) → (was.table.is_ended ≡ false → IsSomeAnd kept.group (λ g. IsSoundForRows g was.told × A g)) → site.table.is_ended ≡ false → IsSomeAnd kept_now.group (λ g. IsSoundForRows g site.told)
    refused_keeps A keeps goes =
        subst (λ (o : Option Group). IsSomeAnd o (λ g. IsSoundForRows g site.told)) (sym same_group)
        (subst (λ (s : SiteState). IsSomeAnd kept.group (λ g. IsSoundForRows g s.told)) (sym same)
        (some_first (λ g. IsSoundForRows g was.told) A kept.group (keeps (ap (λ (s : SiteState). s.table.is_ended) (sym same) ∙ goes))))

    pub refused_in_runs : (began : PlantState) → AnswersCommands line kept kept_now was site began plant plant (Ok answered)
    refused_in_runs began run stage asked l first points m cover =
        subst (λ (s : SiteState). EndsCommand run stage line asked l first points s kept_now.group began plant plant (Ok answered)) (sym same)
        (subst (λ (o : Option Group). EndsCommand run stage line asked l first points was o began plant plant (Ok answered)) (sym same_group)
        (subst (λ (a : LineAnswer). EndsCommand run stage line asked l first points was kept.group began plant plant (Ok a)) (sym is)
        (refused_ends tells kept.names line was plant may why refused flag run stage asked l first points kept.group began m cover)))

-- ---- where a change is logged

-- By what logging leaves in each run the line is answered.
pub answers_logged : (line : Line) (change : Change) (kept kept_now : SessionParts) (was site next : SiteState) (began old new : PlantState) → IsDoneFrom kept.names line change was site old → (logged : Result ℕ Stop) (result : Result LineAnswer Stop)
    → change_result change logged ≡ result → LogsCommands line change kept kept_now site next began old new (change_result change logged) → AnswersCommands line kept kept_now was next began old new result
answers_logged line change kept kept_now was site next began old new from logged result is logs =
    subst (λ (r : Result LineAnswer Stop). AnswersCommands line kept kept_now was next began old new r) is (logs was from)
