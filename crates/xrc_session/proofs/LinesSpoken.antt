-- A line whose reply is said, once it was done.
use Rattle.xrc_session.proofs.Growing.{says_grows}
use Rattle.std.proofs.Common.{◌≡◌, inl, inr, ℕ, ◌≤◌, true, List, ◌++◌, length, Option, Some, None, Result, Ok, Err, refl, sym, ap, ◌∙◌, arith}
use Rattle.std.specs.Prelude.{IfSome, IsSomeAnd}
use Rattle.xrc_edge.specs.Causes.{Rose}
use Rattle.crash_plant.specs.Calls.{HearsNothing, Silent, WorksOnConsole}
use Rattle.crash_plant.specs.declared.device.Device.TheVariants.{Control, Volume}
use Rattle.crash_plant.specs.Moments.{PlantState}
use Rattle.pair_table.specs.declared.command.Change.{Change}
use Rattle.pair_table.specs.declared.command.Change.TheVariants as changes
use Rattle.pair_table.specs.declared.command.Command.{Command}
use Rattle.pair_table.specs.declared.command.Command.TheVariants.{Start}
use Rattle.pair_table.specs.declared.command.Refusal.{Refusal}
use Rattle.pair_table.specs.declared.level.Level.{Level}
use Rattle.pair_table.specs.declared.names.NamedDevice.{NamedDevice}
use Rattle.pair_table.specs.declared.row.PairRow.{PairRow}
use Rattle.sidefile.specs.Breaks.{stamp}
use Rattle.site_store.specs.Sites.{SiteState}
use Rattle.ckd_track.specs.declared.write.Cause.{Cause}
use Rattle.xquery_report.specs.Replies.{reply_line}
use Rattle.mover.specs.declared.lane.Lane.{Lane}
use Rattle.xrc_command.specs.declared.line.Line.{Line}
use Rattle.xrc_status.specs.Saying.{SaidWhole, SaysText}
use Rattle.xrc_status.specs.declared.stop.Stop.{Stop}
use Rattle.xrc_status.specs.declared.stop.Stop.TheVariants.{ConsoleFault}
use Rattle.xrc_session.specs.declared.answering.LineAnswer.{LineAnswer}
use Rattle.xrc_session.specs.LinePauses.{IsBetween, IsRunOver}
use Rattle.xrc_session.specs.Frames.{KeepsPlant, SuspendsByCounts}
use Rattle.xrc_session.specs.Lines.{IsDoneLine, IsStartAnswered}
use Rattle.xrc_session.specs.Replying.{causes_in, reply_composed, report_in, reported_site, time_said}
use Rattle.xrc_session.specs.Runs.{AreLabelsRead}
use Rattle.xrc_session.specs.Starting.{BeginsByLine, RepliesToStart, StandsAfterStart, level_started, reply_to_start}
use Rattle.xrc_session.specs.States.{SessionState}
use Rattle.xrc_session.specs.Steps.{AnswersLine, DoesLine, known_by, line_answered}
use Rattle.xrc_session.specs.Stops.{HasStopCause, StopsByCount}
use Rattle.xrc_session.proofs.AppliedEnds.{stays_on, stays_worked}
use Rattle.xrc_session.proofs.Consoles.{between_on}
use Rattle.xrc_session.proofs.InTurn.{NoneFell, NoneRisen, cause_before, fell_then, keeps_console, keeps_then, none_risen_then, suspends_same, suspends_then}
use Rattle.xrc_session.proofs.LinesBefore.{started_command}
use Rattle.xrc_session.proofs.LinesDone.{between_told}
use Rattle.xrc_session.proofs.Labelled.{read_still}
use Rattle.xrc_session.proofs.LinesSaid.{said_in_part, said_whole}
use Rattle.xrc_session.proofs.Names.{as_many}
use Rattle.xrc_session.proofs.SafeStarts.{begins_said}

-- ---- the reply to a start

-- No report is said before the reply to a start.
start_reply : (site : SiteState) (causes : List (Option Cause)) (time : ℕ) (c : Command) (answer : Result Change Refusal) (tracks : ℕ) (level : Level) → c ≡ Start level → answer ≡ Ok changes.Started → tracks ≡ 0 → site.time ≡ time
    → report_in (reported_site (Some site) c answer) causes ++ reply_line time c answer tracks (time_said (Some site)) ≡ reply_to_start level time
start_reply site causes time c answer tracks level command started none same =
    ap (λ (x : Command). report_in (reported_site (Some site) x answer) causes ++ reply_line time x answer tracks (Some (stamp site.time))) command
    ∙ ap (λ (r : Result Change Refusal). report_in (reported_site (Some site) (Start level) r) causes ++ reply_line time (Start level) r tracks (Some (stamp site.time))) started
    ∙ ap (λ (n : ℕ). reply_line time (Start level) (Ok changes.Started) n (Some (stamp site.time))) none ∙ ap (λ (n : ℕ). reply_line time (Start level) (Ok changes.Started) 0 (Some (stamp n))) same

module _ {S : Type 0} (tells : Type 0) (left : S → Option (List ℕ)) (s next : SessionState) (lanes after : List (Lane S)) (line : Line) (answered : LineAnswer) (old mid : PlantState) (done : IsDoneLine tells s next line after mid answered) (keeps : KeepsPlant tells old mid) (silent : tells → Silent old mid)
    (none : NoneRisen old mid) (reply : List ℕ) (composed : reply ≡ reply_composed next.site after line answered) (new : PlantState) (T E : Type 0) (result : Result T E) (says : SaysText tells reply mid new result) where
  works : WorksOnConsole tells mid new
  works = says.front.only

  on : NoneFell mid new
  on = record { devices = λ d. omega (arith, works.faults d); console = says.cause.later }

  pub spoken_fell : NoneFell old new
  spoken_fell = fell_then old mid new none.fell on

  pub spoken_between : IsBetween tells next after new
  spoken_between = between_on tells mid new works next after done.between

  pub spoken_keeps : KeepsPlant tells old new
  spoken_keeps = keeps_then tells old mid new keeps (keeps_console tells mid new works (λ told. says_grows reply mid new ((works.elapses told).kept Control).later (says.front.moments told)) keeps.home)

  pub spoken_hits : (rows rows_now : List PairRow) → SuspendsByCounts rows rows_now old mid → SuspendsByCounts rows rows_now old new
  spoken_hits rows rows_now hits = suspends_then rows rows_now rows_now old mid new none.fell on hits (suspends_same rows_now mid new)

  later_mid : tells → old.clock ≤ mid.clock
  later_mid told = ((keeps.elapses told).kept Control).later

  later_new : tells → mid.clock ≤ new.clock
  later_new told = ((works.elapses told).kept Control).later

  pub spoken_unheard : tells → HearsNothing old new
  spoken_unheard told =
      let say = says.front.moments told in
      record { script = say.script ∙ (silent told).script; heard = say.heard new.clock (later_new told) (omega arith) ∙ (silent told).heard mid.clock (later_mid told) (omega arith) }

  pub spoken_labels : (labels : List NamedDevice) → AreLabelsRead old mid labels → AreLabelsRead old new labels
  spoken_labels labels read = read_still old mid new labels (λ d. none.fell.devices (Volume d)) (λ d. works.faults (Volume d)) read

  pub spoken_begins : (told : tells) (session : List ℕ) → BeginsByLine session line old mid → IfSome (level_started session line) (λ level. StandsAfterStart session level line.time.0 old mid) → BeginsByLine session line old new
  spoken_begins told session begins means = begins_said session line tells old mid new told keeps.site (keeps.elapses told) works begins means

  -- ---- in a run

  module _ (told : tells) (began : PlantState) (went : length after ≡ length lanes) (between : IsBetween tells s lanes old) (untouched : s.is_ended ≡ true → mid ≡ old) (does : let r : Result LineAnswer Stop = Ok answered in DoesLine left line s next lanes after began old mid r) where
    pub spoken_whole : SaidWhole reply mid new → (let r : Result (Unit {0}) Stop = Ok tt in AnswersLine left line s next lanes after began old new r)
    spoken_whole whole run lines trail text over heard =
        let over_mid : IsRunOver left run (known_by s next) lanes after began mid = record { its = over.its; heads = over.heads; traces = over.traces; rises = λ d. let both = over.rises d in let same = works.faults (Volume d) in (omega (arith, both.0, same), omega (arith, both.1, same)) } in
        let ends = does run lines trail text over_mid heard in
        let many : length run.traces ≡ length after = as_many lanes run.traces over.heads ∙ sym went in (
          line_answered run lines text line ends.1.changes ends.1.hits began reply,
          refl,
          refl,
          (ends.0, said_whole run lines ends.0 text line answered next after began mid new ends.1 (between_told tells next after mid done.between) many reply composed tells told works (says.front.moments told) (stays_worked tells run lines trail text s lanes began old mid between untouched heard.answered) whole, ends.1.wants reply),
        )

    pub spoken_part : (let r : Result (Unit {0}) Stop = Err ConsoleFault in AnswersLine left line s next lanes after began old new r)
    spoken_part run lines trail text over heard =
        let over_mid : IsRunOver left run (known_by s next) lanes after began mid = record { its = over.its; heads = over.heads; traces = over.traces; rises = λ d. let both = over.rises d in let same = works.faults (Volume d) in (omega (arith, both.0, same), omega (arith, both.1, same)) } in
        let ends = does run lines trail text over_mid heard in
        let many : length run.traces ≡ length after = as_many lanes run.traces over.heads ∙ sym went in (
          said_in_part run lines ends.0 text line answered next after began mid new ends.1 (between_told tells next after mid done.between) many reply composed tells told works (says.front.moments told),
          stays_on tells told run lines began mid new works (stays_worked tells run lines trail text s lanes began old mid between untouched heard.answered),
          λ ended. inr (inl refl),
        )

  -- ---- the start

  pub spoken_start : tells → (session : List ℕ) → IfSome (level_started session line) (λ level. IsStartAnswered next.site line.time.0 answered) → SaidWhole reply mid new → RepliesToStart session line old new
  spoken_start told session starts whole = by_level (level_started session line) refl starts
    where
      said : new.said new.clock ≡ old.said old.clock ++ reply
      said = whole ∙ ap (λ (l : List ℕ). l ++ reply) ((silent told).said mid.clock (later_mid told) (omega arith))

      by_site : (level : Level) → level_started session line ≡ Some level → (o : Option SiteState) → next.site ≡ o → IsSomeAnd o (λ site. site.time ≡ line.time.0) → answered.answer ≡ Ok changes.Started → answered.tracks ≡ 0
          → new.said new.clock ≡ old.said old.clock ++ reply_to_start level line.time.0
      by_site level is None site_is time start tracks = absurd time
      by_site level is (Some site) site_is time start tracks =
          said ∙ ap (λ (l : List ℕ). old.said old.clock ++ l)
          (composed ∙ ap (λ (o : Option SiteState). report_in (reported_site o line.command answered.answer) (causes_in after) ++ reply_line line.time.0 line.command answered.answer answered.tracks (time_said o)) site_is
          ∙ start_reply site (causes_in after) line.time.0 line.command answered.answer answered.tracks level (started_command session line level is) start tracks time)

      by_level : (o : Option Level) → level_started session line ≡ o → IfSome o (λ level. IsStartAnswered next.site line.time.0 answered) → IfSome o (λ level. new.said new.clock ≡ old.said old.clock ++ reply_to_start level line.time.0)
      by_level None is none_starts = tt
      by_level (Some level) is start = by_site level is next.site refl start.time start.is start.tracks

  -- ---- counts

  pub spoken_counts : new.console_faults ≡ mid.console_faults → NoneRisen old new
  spoken_counts quiet = none_risen_then old mid new none (record { devices = λ d store. works.faults d; console = quiet; fell = on })

  pub fault_counts : (let r : Result (Unit {0}) Stop = Err ConsoleFault in StopsByCount old new r)
  fault_counts = record {
    devices = λ d store other. works.faults d ∙ none.devices d store;
    console = λ other. absurd (other refl);
    later = spoken_fell.devices;
    console_later = spoken_fell.console;
    console_once = (let same = none.console in let once = says.cause.by_one in omega (arith, same, once));
  }

  pub fault_cause : Rose mid.console_faults new.console_faults → HasStopCause old new ConsoleFault
  fault_cause rose = cause_before old mid new ConsoleFault none.fell rose
