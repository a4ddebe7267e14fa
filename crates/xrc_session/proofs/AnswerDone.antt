-- A command that was done or refused: what it leaves where nothing is called, and what its change may be logged by.
use Rattle.std.proofs.Common.{◌≡◌, inl, inr, ℕ, ◌||◌, Bool, true, false, List, [], Option, Some, None, Result, Ok, Err, refl, sym, ap, subst, ◌∙◌, arith, true≢false}
use Rattle.std.specs.Option.{option_map}
use Rattle.std.specs.Prelude.{IfErr, IsErrOf, IsSomeAnd, OnOk, slice_index_or}
use Rattle.applier.proofs.Works.{lent_of_works, works_lent_more}
use Rattle.crash_plant.specs.declared.device.Device.{Device}
use Rattle.crash_plant.specs.Moments.{PlantState}
use Rattle.crash_plant.proofs.Steps.{works_on_here}
use Rattle.pair_table.specs.declared.command.Change.{Change}
use Rattle.pair_table.specs.declared.command.Change.TheVariants as changes
use Rattle.pair_table.specs.declared.command.CommandError.{CommandError}
use Rattle.pair_table.specs.declared.command.CommandError.TheVariants as errors
use Rattle.pair_table.specs.declared.command.Refusal.{Refusal}
use Rattle.pair_table.specs.declared.command.Refusal.TheVariants.{Ended}
use Rattle.pair_table.specs.declared.row.PairRow.{PairRow}
use Rattle.pair_table.specs.Commands.{answer, answer_by, change_of}
use Rattle.pair_table.specs.Naming.{Naming}
use Rattle.pair_table.specs.Refusals.{refusal}
use Rattle.pair_table.specs.Tables.{AreRowsSound, with_rows}
use Rattle.group_state.specs.Groups.{Group}
use Rattle.xrc_command.specs.declared.line.Line.{Line}
use Rattle.site_store.specs.Changing.{changed_items}
use Rattle.site_store.specs.Commands.{IsToLog, MayDo, after_command}
use Rattle.site_store.specs.Jobs.{has_device}
use Rattle.site_store.specs.Sites.{SiteState}
use Rattle.consistency.specs.Stages.{ScriptRun, Stage}
use Rattle.consistency.specs.Leads.{Point}
use Rattle.consistency.specs.Ways.{Leg, PassedPoint}
use Rattle.mover.specs.Moves.{IsOfMover, is_device_of_row, is_worked_on}
use Rattle.mover.specs.Working.{LinesAsked}
use Rattle.xrc_status.specs.declared.stop.Stop.{Stop}
use Rattle.xrc_status.specs.declared.stop.Stop.TheVariants.{Spent}
use Rattle.xrc_session.specs.Answering.{EndsCommand, IsDoneFrom, IsSiteAfter, IsSiteCommanded, MayAnswer, MayLogChange, answer_said, group_taken, is_end_accepted}
use Rattle.xrc_session.specs.LinePauses.{MayCommandSite, RisesCover}
use Rattle.xrc_session.specs.Bringing.{IsWorkOfStore}
use Rattle.xrc_session.specs.Frames.{SuspendsByCounts}
use Rattle.xrc_session.specs.Stops.{HasStopCause, IsSpentNow}
use Rattle.xrc_session.specs.Taking.{IsSoundForRows}
use Rattle.xrc_session.proofs.AnswerChanges.{was_goes}
use Rattle.xrc_session.proofs.AnswerRefused.{refused_at_end, refused_goes, refused_stays}
use Rattle.xrc_session.proofs.AnswerSays.{ended_answer}
use Rattle.xrc_session.proofs.AnswerWorks.{none_suspended}

-- ---- what was answered

pub told_change : (done : Result Change CommandError) (change : Change) → answer_said done ≡ Ok (Ok change) → done ≡ Ok change
told_change (Ok other) change is = let same : other ≡ change = cc in ap (λ (c : Change). let r : Result Change CommandError = Ok c in r) same
told_change (Err (errors.Refused why)) change is = absurd cc
told_change (Err errors.NoMemory) change is = absurd cc

pub said_refusal : (done : Result Change CommandError) (why : Refusal) → answer_said done ≡ Ok (Err why) → done ≡ Err (errors.Refused why)
said_refusal (Ok change) why is = absurd cc
said_refusal (Err (errors.Refused other)) why is = let same : other ≡ why = cc in ap (λ (w : Refusal). let r : Result Change CommandError = Err (errors.Refused w) in r) same
said_refusal (Err errors.NoMemory) why is = absurd cc

-- ---- groups that are there

pub some_first : (A B : Group → Type 0) (o : Option Group) → IsSomeAnd o (λ g. A g × B g) → IsSomeAnd o A
some_first A B None is = is
some_first A B (Some g) is = is.0

pub some_second : (A B : Group → Type 0) (o : Option Group) → IsSomeAnd o (λ g. A g × B g) → IsSomeAnd o B
some_second A B None is = is
some_second A B (Some g) is = is.1

pub refused_leaves : (why : Refusal) (before after : List PairRow) (o : Option Group) → o ≡ option_map (group_taken (Err why) before after) o
refused_leaves why before after None = refl
refused_leaves why before after (Some g) = refl

-- ---- work

-- Where nothing is called nothing is done.
pub no_work_done : {T : Type 0} (tells : Type 0) (site : SiteState) (plant : PlantState) (result : Result T Stop) → IfErr result (HasStopCause plant plant) → (tells → IsErrOf result Spent → IsSpentNow plant) → IsWorkOfStore tells site site plant plant result
no_work_done {T} tells site plant result cause spent = record {
  works = lent_of_works tells (IsOfMover site) plant plant (works_on_here tells (IsOfMover site) plant);
  cause = cause;
  counts = record { devices = λ d store other. refl; console = λ other. refl; later = λ d. omega arith; console_later = omega arith; console_once = omega arith };
  spent = spent;
  hits = by_result result;
}
  where
    by_result : (r : Result T Stop) → OnOk r (SuspendsByCounts site.told site.told plant plant)
    by_result (Ok value) = none_suspended site.told plant plant
    by_result (Err stop) = tt

-- Work on a site is work on one of the same rows, written volumes and items.
pub work_from : {T : Type 0} (tells : Type 0) (was site next : SiteState) (old new : PlantState) (result : Result T Stop) → site.told ≡ was.told → site.written ≡ was.written → site.waiting ≡ was.waiting → IsWorkOfStore tells site next old new result
    → IsWorkOfStore tells was next old new result
work_from {T} tells was site next old new result told written waiting work = record {
  works = works_lent_more tells (IsOfMover site) (IsOfMover was) old new wider work.works;
  cause = work.cause;
  counts = work.counts;
  spent = work.spent;
  hits = by_result result work.hits;
}
  where
    worked : (v : ℕ) → is_worked_on site v ≡ is_worked_on was v
    worked v = λ i. is_device_of_row v (told i) || slice_index_or (written i) v false || has_device v (waiting i)

    wider : (d : Device) → IsOfMover site d → IsOfMover was d
    wider d (inl store) = inl store
    wider d (inr (v, is, on)) = inr (v, is, sym (worked v) ∙ on)

    by_result : (r : Result T Stop) → OnOk r (SuspendsByCounts site.told next.told old new) → OnOk r (SuspendsByCounts was.told next.told old new)
    by_result (Ok value) hits = subst (λ (rows : List PairRow). SuspendsByCounts rows next.told old new) told hits
    by_result (Err stop) hits = tt

-- ---- a refusal

module _ (tells : Type 0) (names : Naming) (line : Line) (site : SiteState) (plant : PlantState) (may : MayCommandSite tells names plant site) (why : Refusal) (refused : refusal names site.table line.session line.command ≡ Some why) where
  refused_answer : answer names site.table line.session line.command ≡ Err why
  refused_answer = ap (λ (o : Option Refusal). answer_by o (change_of names line.command site.table.rows)) refused

  pub refused_site : IsSiteCommanded tells names line (Err why) site site plant
  refused_site = record {
    answer_is = sym refused_answer;
    may = may;
    controls = refl;
    level = refl;
    time = refl;
    table = λ i. with_rows (sym (refused_stays names site.table line why refused) i) (sym may.idle.same i);
    flag = refl;
    marked = λ none. none;
    same = λ ended. refl;
    at_end = λ is. absurd (true≢false (sym is));
  }

  -- In each run the line is answered with the refusal.
  pub refused_ends : (flag : site.mark.ended ≡ site.table.is_ended) (run : ScriptRun) (stage : Stage) (asked : LinesAsked) (l : Leg) (first : Point) (points : List PassedPoint) (group : Option Group) (began : PlantState)
      → MayAnswer run stage line asked l first points names site group began plant → RisesCover run began plant
      → EndsCommand run stage line asked l first points site group began plant plant (Ok (record { answer = Err why; tracks = 0 }))
  refused_ends flag run stage asked l first points group began m cover = by_flag site.table.is_ended refl
    where
      goes : site.table.is_ended ≡ false → (o : Option Group) → MayAnswer run stage line asked l first points names site o began plant
          → EndsCommand run stage line asked l first points site o began plant plant (Ok (record { answer = Err why; tracks = 0 }))
      goes on None m = absurd (m.goes_on on)
      goes on (Some g) m = refused_goes run stage line asked l first points names site (Some g) began plant m cover flag why on may.idle.same may.commands.started refused_answer g (m.goes_on on)

      ended_why : site.table.is_ended ≡ true → Ended ≡ why
      ended_why ended = same_why (sym (ended_answer names site.table line.session line.command ended) ∙ refused_answer)
        where
          same_why : (let r : Result Change Refusal = Err Ended in r ≡ Err why) → Ended ≡ why
          same_why is = cc

      by_flag : (b : Bool) → site.table.is_ended ≡ b → EndsCommand run stage line asked l first points site group began plant plant (Ok (record { answer = Err why; tracks = 0 }))
      by_flag false on = goes on group m
      by_flag true ended =
          subst (λ (w : Refusal). EndsCommand run stage line asked l first points site group began plant plant (Ok (record { answer = Err w; tracks = 0 }))) (ended_why ended)
          (refused_at_end run stage line asked l first points names site group began plant m cover flag ended group)

-- ---- a change

module _ (tells : Type 0) (names : Naming) (line : Line) (was site : SiteState) (plant : PlantState) (may : MayCommandSite tells names plant was) (change : Change) (is : site ≡ after_command names line.session line.command line.time.0 change was)
    (done : answer names was.table line.session line.command ≡ Ok change) where
  pub done_from : IsDoneFrom names line change was site plant
  done_from = record { fits = may.idle.may.fast.fits; labels = may.labels; started = may.commands.started; told = may.told; same = may.idle.same; done = done; site_is = is }

  pub may_log_change : (before : List PairRow) → before ≡ was.table.rows → (was.table.is_ended ≡ false → was.time ≡ line.time.0) → MayDo names site → AreRowsSound site.table.rows → (was.is_ahead ≡ false → AreRowsSound site.table.rows → IsToLog change site)
      → MayLogChange tells names line change before site plant
  may_log_change before copied at again rules to_log = record {
    was = was;
    may = may;
    from = done_from;
    rows = copied ∙ sym may.idle.same;
    at = at (was_goes names line change was site plant done_from);
    again = again;
    rules = rules;
    to_log = to_log may.idle.may.level rules;
  }

  pub kept_before : (A : Group → Type 0) (before : List PairRow) (o : Option Group) → before ≡ was.table.rows → (was.table.is_ended ≡ false → IsSomeAnd o (λ g. IsSoundForRows g was.told × A g)) → IsSomeAnd o (λ g. IsSoundForRows g before)
  kept_before A before o copied kept =
      subst (λ (rows : List PairRow). IsSomeAnd o (λ g. IsSoundForRows g rows)) (may.idle.same ∙ sym copied)
      (some_first (λ g. IsSoundForRows g was.told) A o (kept (was_goes names line change was site plant done_from)))

  of_end : (c : Change) (rows : List PairRow) → is_end_accepted (Ok c) ≡ true → changed_items c rows ≡ []
  of_end changes.Nothing rows is = absurd (true≢false (sym is))
  of_end changes.Started rows is = absurd (true≢false (sym is))
  of_end (changes.Added device) rows is = absurd (true≢false (sym is))
  of_end (changes.Resumed device) rows is = absurd (true≢false (sym is))
  of_end (changes.Gone devices) rows is = absurd (true≢false (sym is))
  of_end (changes.Suspended devices) rows is = absurd (true≢false (sym is))
  of_end changes.Ended rows is = refl

  -- The site after its logging is one after the line's command.
  pub changed_site : (next : SiteState) (new : PlantState) → IsSiteAfter tells names site next new → (changed_items change site.table.rows ≡ [] → next ≡ record site { is_ahead = false }) → IsSiteCommanded tells names line (Ok change) was next new
  changed_site next new after quiet = record {
    answer_is = sym done;
    may = after.may;
    controls = after.controls ∙ ap (λ (s : SiteState). s.controls) is;
    level = after.level ∙ ap (λ (s : SiteState). s.level) is;
    time = after.time ∙ ap (λ (s : SiteState). s.time) is;
    table = after.table ∙ ap (λ (s : SiteState). with_rows s.table next.told) is;
    flag = after.flag ∙ ap (λ (s : SiteState). s.mark.ended) is;
    marked = λ none. after.marked (ap (λ (s : SiteState). s.since) is ∙ none);
    same = λ ended. absurd (true≢false (sym ended ∙ was_goes names line change was site plant done_from));
    at_end = λ end.
        let still = quiet (of_end change site.table.rows end) in
        (ap (λ (s : SiteState). s.told) still ∙ ap (λ (s : SiteState). s.told) is, ap (λ (s : SiteState). s.written) still ∙ ap (λ (s : SiteState). s.written) is);
  }

  pub changed_work : {T : Type 0} (next : SiteState) (new : PlantState) (result : Result T Stop) → IsWorkOfStore tells site next plant new result → IsWorkOfStore tells was next plant new result
  changed_work next new result work = work_from tells was site next plant new result (ap (λ (s : SiteState). s.told) is) (ap (λ (s : SiteState). s.written) is) (ap (λ (s : SiteState). s.waiting) is) work
