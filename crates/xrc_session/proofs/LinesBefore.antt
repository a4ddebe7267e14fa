-- A line that is answered before the start.
use Rattle.std.proofs.Common.{◌≡◌, inr, ℕ, suc, ◌^◌, ◌<◌, ◌≤◌, Bool, true, false, List, [], length, Option, Some, None, Result, Ok, Err, refl, sym, ap, subst, ◌∙◌, arith}
use Rattle.std.specs.Prelude.{IfOk, IsSomeAnd, OnErr, OnOk, bytes_eq, is_none, if◌then◌else◌}
use Rattle.crash_plant.specs.Calls.{Elapses, SameSite, Silent}
use Rattle.crash_plant.specs.Choices.{AtNow}
use Rattle.crash_plant.specs.declared.device.Device.TheVariants.{Volume}
use Rattle.crash_plant.specs.Moments.{PlantState}
use Rattle.crash_plant.proofs.Steps.{works_on_here}
use Rattle.pair_table.specs.declared.command.Change.{Change}
use Rattle.pair_table.specs.declared.command.Command.{Command}
use Rattle.pair_table.specs.declared.command.Command.TheVariants.{Start, AddPair, DelPair, Suspend, Query, End}
use Rattle.pair_table.specs.declared.command.CommandError.{CommandError}
use Rattle.pair_table.specs.declared.command.CommandError.TheVariants as errors
use Rattle.pair_table.specs.declared.command.Refusal.{Refusal}
use Rattle.pair_table.specs.declared.level.Level.{Level}
use Rattle.pair_table.specs.Commands.{accepted, answer, answer_by, change_of, table_after}
use Rattle.pair_table.specs.Naming.{Naming}
use Rattle.pair_table.specs.Refusals.{refusal}
use Rattle.pair_table.specs.Tables.{Table, new_table}
use Rattle.site_store.specs.Records.{VolumesStay}
use Rattle.site_store.specs.Sites.{SiteState}
use Rattle.consistency.specs.Stages.{ScriptRun}
use Rattle.mover.specs.declared.lane.Lane.{Lane}
use Rattle.mover.specs.Epochs.{LanesBrokeAs}
use Rattle.xrc_command.specs.declared.line.Line.{Line}
use Rattle.xrc_status.specs.declared.stop.Stop.{Stop}
use Rattle.xrc_status.specs.declared.stop.Stop.TheVariants.{NoMemory, Spent}
use Rattle.xrc_session.specs.declared.answering.LineAnswer.{LineAnswer}
use Rattle.xrc_session.specs.Answering.{answer_said}
use Rattle.xrc_session.specs.LinePauses.{AreCountsFrom, IsBetween, IsRunOver, stage_after_text}
use Rattle.xrc_session.specs.Lines.{IsDoneLine, IsStartedAt, StandsStartedAt}
use Rattle.xrc_session.specs.Replying.{level_in}
use Rattle.xrc_session.specs.Starting.{MeansStart, level_started}
use Rattle.xrc_session.specs.States.{SessionState, site_time}
use Rattle.xrc_session.specs.Steps.{DoesLine}
use Rattle.xrc_session.specs.Stops.{IsSpentNow}
use Rattle.xrc_session.proofs.LinesBegun.{just_started, unstarted_is}
use Rattle.xrc_session.proofs.LinesDone.{known_unstarted, unstarted_done}
use Rattle.xrc_session.proofs.LinesStarted.{started_to_reply}
use Rattle.xrc_session.proofs.LinesUnstarted.{level_is_started, not_begun, refused_to_reply, table_by_level, table_unstarted, unstarted_stops}
use Rattle.xrc_session.proofs.SafeStarts.{means_same}
use Rattle.xrc_session.proofs.StartWorks.{volumes_here}

-- ---- a table's command

-- What is told of a command is its answer, and the table is the one after it.
module _ (names : Naming) (table : Table) (session : List ℕ) (c : Command) (time : ℕ) where
  pub told_answer : (done : Result Change CommandError) (told : Result Change Refusal) → IfOk done (λ change. answer names table session c ≡ Ok change) → ((why : Refusal) → done ≡ Err (errors.Refused why) → refusal names table session c ≡ Some why)
      → answer_said done ≡ Ok told → told ≡ answer names table session c
  told_answer (Ok change) told is refused same = (let change_is : Ok change ≡ told = cc in sym change_is) ∙ sym is
  told_answer (Err (errors.Refused why)) told is refused same =
      let why_is : Err why ≡ told = cc in
      sym why_is ∙ sym (ap (λ (o : Option Refusal). answer_by o (change_of names c table.rows)) (refused why refl))
  told_answer (Err errors.NoMemory) told is refused same = absurd cc

  pub told_table : (now : Table) (done : Result Change CommandError) (told : Result Change Refusal) → OnOk done (now ≡ table_after names table session c time) → OnErr done (now ≡ table) → ((why : Refusal) → done ≡ Err (errors.Refused why) → refusal names table session c ≡ Some why)
      → answer_said done ≡ Ok told → now ≡ table_after names table session c time
  told_table now (Ok change) told ok err refused same = ok
  told_table now (Err (errors.Refused why)) told ok err refused same = err ∙ sym (ap (λ (o : Option Refusal). if is_none o then accepted names time c table else table) (refused why refl))
  told_table now (Err errors.NoMemory) told ok err refused same = absurd cc

-- There was no memory for it.
pub told_memory : (done : Result Change CommandError) (stop : Stop) → answer_said done ≡ Err stop → stop ≡ NoMemory
told_memory (Ok change) stop same = absurd cc
told_memory (Err (errors.Refused why)) stop same = absurd cc
told_memory (Err errors.NoMemory) stop same = cc

-- A start that is accepted is a start.
pub started_command : (session : List ℕ) (line : Line) (level : Level) → level_started session line ≡ Some level → line.command ≡ Start level
started_command session line level is = by_command line.command is
  where
    by_command : (c : Command) → level_started session (record line { command = c }) ≡ Some level → c ≡ Start level
    by_command (Start l) same = by_name (bytes_eq line.session session) same
      where
        by_name : (b : Bool) → (if b then Some l else None) ≡ Some level → Start l ≡ Start level
        by_name true levels = let level_is : l ≡ level = cc in ap (λ (x : Level). Start x) level_is
        by_name false levels = absurd cc
    by_command (AddPair primary secondary group) same = absurd cc
    by_command (DelPair choice) same = absurd cc
    by_command (Suspend choice) same = absurd cc
    by_command Query same = absurd cc
    by_command End same = absurd cc

-- ---- a session

module _ {S : Type 0} (tells : Type 0) (left : S → Option (List ℕ)) (s : SessionState) (lanes : List (Lane S)) (old : PlantState) (between : IsBetween tells s lanes old) (unstarted : s.site ≡ None) (line : Line) where
  pub fresh : s.table ≡ new_table s.session
  fresh = (unstarted_is tells s lanes old between unstarted).table

  same_here : SameSite old old
  same_here = (works_on_here tells (λ d. ⊥) old).site

  past_here : tells → Elapses old old
  past_here = (works_on_here tells (λ d. ⊥) old).elapses

  -- It stops where there is no memory.
  pub memory_does : tells → (next : SessionState) (began : PlantState) → (let r : Result LineAnswer Stop = Err NoMemory in DoesLine left line s next lanes lanes began old old r)
  memory_does told next began run lines trail text over heard = unstarted_stops run lines trail text line s lanes began old heard unstarted fresh old same_here (past_here told) ((works_on_here tells (λ d. ⊥) old).silent told) tells told (volumes_here tells old) NoMemory (λ is. absurd cc)

  module _ (names : Naming) (answered : LineAnswer) (is : answered.answer ≡ answer names s.table line.session line.command) where
    level_is : level_started s.session line ≡ level_in answered.answer line.command
    level_is =
        sym (level_is_started names s.session line) ∙ ap (λ (t : Table). level_in (answer names t line.session line.command) line.command) (sym fresh)
        ∙ ap (λ (r : Result Change Refusal). level_in r line.command) (sym is)

    -- ---- it starts nothing

    module _ (refused : level_in answered.answer line.command ≡ None) (next : SessionState) (next_is : next ≡ record s { table = table_after names s.table line.session line.command line.time.0 }) where
      pub none_starts : level_started s.session line ≡ None
      none_starts = level_is ∙ refused

      table_then : table_after names s.table line.session line.command line.time.0 ≡ table_by_level s.session (level_started s.session line)
      table_then = ap (λ (t : Table). table_after names t line.session line.command line.time.0) fresh ∙ table_unstarted names s.session line

      next_then : next ≡ record s { table = table_by_level s.session (level_started s.session line) }
      next_then = next_is ∙ (λ i. record s { table = table_then i })

      pub refused_same : next ≡ s
      refused_same = next_then ∙ (λ i. record s { table = (ap (table_by_level s.session) none_starts ∙ sym fresh) i })

      pub refused_done : IsDoneLine tells s next line lanes old answered
      refused_done = unstarted_done tells s next lanes old line answered between unstarted refused_same none_starts

      pub refused_does : tells → line.time.0 < 2 ^ 64 → (began : PlantState) → (let r : Result LineAnswer Stop = Ok answered in DoesLine left line s next lanes lanes began old old r)
      refused_does told short began run lines trail text over heard = (
        trail,
        refused_to_reply run lines trail text line s lanes began old heard unstarted fresh names answered is none_starts next next_then short lanes
            (subst (λ (o : Option SiteState). LanesBrokeAs (site_time o) run.traces lanes) unstarted heard.answered.broke)
            (unstarted_stops run lines trail text line s lanes began old heard unstarted fresh old same_here (past_here told) ((works_on_here tells (λ d. ⊥) old).silent told) tells told (volumes_here tells old) NoMemory (λ same. absurd cc)),
      )

    -- ---- it starts the session

    module _ (level : Level) (starts_it : level_in answered.answer line.command ≡ Some level) where
      pub start_level : level_started s.session line ≡ Some level
      start_level = level_is ∙ starts_it

      module _ (next : SessionState) (after : List (Lane S)) (new : PlantState) (same : SameSite old new) (past : tells → Elapses old new) (silent : tells → Silent old new) (volumes : VolumesStay tells old new) where
        pub start_stops : tells → (stop : Stop) → (stop ≡ Spent → IsSpentNow new) → (stop ≡ Spent → AtNow (MeansStart s.session level line.time.0 old) new) → (began : PlantState) → (let r : Result LineAnswer Stop = Err stop in DoesLine left line s next lanes after began old new r)
        start_stops told stop spent means began run lines trail text over heard =
            unstarted_stops run lines trail text line s lanes began old heard unstarted fresh new same (past told) (silent told) tells told volumes stop (λ is. record { spent = spent is; own = inr (by_next (means is)) })
          where
            session_is : run.session ≡ s.session
            session_is = heard.answered.stands.its.session

            by_level : AtNow (MeansStart run.session level line.time.0 began) new → IsSomeAnd (level_started run.session line) (λ l. AtNow (MeansStart run.session l line.time.0 began) new)
            by_level mean =
                subst (λ (o : Option Level). IsSomeAnd o (λ l. AtNow (MeansStart run.session l line.time.0 began) new))
                (sym (ap (λ (n : List ℕ). level_started n line) session_is ∙ start_level)) mean

            by_next : AtNow (MeansStart s.session level line.time.0 old) new
                → IsSomeAnd (stage_after_text run lines text began).next (λ l. IsSomeAnd (level_started run.session l) (λ k. AtNow (MeansStart run.session k l.time.0 began) new))
            by_next mean =
                subst (λ (o : Option Line). IsSomeAnd o (λ l. IsSomeAnd (level_started run.session l) (λ k. AtNow (MeansStart run.session k l.time.0 began) new))) (sym heard.next)
                (by_level
                (subst (λ (n : List ℕ). AtNow (MeansStart n level line.time.0 began) new) (sym session_is)
                (λ c left. means_same s.session level line.time.0 began old heard.answered.goes.now.site c (mean c left))))

        pub start_does : tells → line.time.0 < 2 ^ 64 → (began : PlantState) → IsBetween tells next after new → IsStartedAt level line.time.0 s next → ((d : ℕ) → old.faults (Volume d) ≤ new.faults (Volume d))
            → ((run : ScriptRun) → IsRunOver left run next lanes after began new → AreCountsFrom began old → StandsStartedAt run next after new) → (let r : Result LineAnswer Stop = Ok answered in DoesLine left line s next lanes after began old new r)
        start_does told short began between_now started later stands run lines trail text over heard =
            let over_next = subst (λ (x : SessionState). IsRunOver left run x lanes after began new) (known_unstarted s next unstarted) over in
            let none = not_begun run lines trail text line s lanes began old heard unstarted fresh in
            let counts : AreCountsFrom began old = λ d. omega (arith, (none.devices (Volume d)).faults) in
            let just = just_started tells run s next after level line.time.0 began new between_now started over_next.its (stands run over_next counts) (λ d. omega (arith, counts d, later d)) in (
              record { started = suc (length lines); points = [] },
              started_to_reply run lines trail text line s lanes began old heard unstarted fresh new same (past told) (silent told) tells told volumes names answered is level start_level (started_command s.session line level start_level) next after just.0
                  just.1 short,
            )
