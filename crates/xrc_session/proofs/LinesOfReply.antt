-- A line whose command stopped, or whose reply is composed and said.
use Rattle.std.proofs.Common.{◌≡◌, inl, ℕ, ◌≤◌, List, length, true, Option, Some, None, Result, Ok, Err, refl, sym, ap, subst, ◌∙◌, arith}
use Rattle.std.specs.Prelude.{IfErr, IfSome}
use Rattle.xrc_edge.specs.Causes.{Rose}
use Rattle.crash_plant.specs.Calls.{Elapses, HearsNothing, Silent}
use Rattle.crash_plant.specs.declared.device.Device.TheVariants.{Control}
use Rattle.crash_plant.specs.Moments.{PlantState}
use Rattle.site_store.specs.Sites.{SiteState}
use Rattle.mover.specs.declared.lane.Lane.{Lane}
use Rattle.xrc_command.specs.declared.line.Line.{Line}
use Rattle.xrc_status.specs.Saying.{SaidWhole, SaysText}
use Rattle.xrc_status.specs.declared.stop.Stop.{Stop}
use Rattle.xrc_status.specs.declared.stop.Stop.TheVariants.{ConsoleFault, NoMemory}
use Rattle.xrc_session.specs.declared.answering.LineAnswer.{LineAnswer}
use Rattle.xrc_session.specs.LinePauses.{IsBetween}
use Rattle.xrc_session.specs.Frames.{KeepsPlant, SuspendsByCounts}
use Rattle.xrc_session.specs.Lines.{IsDoneLine, IsSameSession, IsStartAnswered, KeepsStart, StartsByLine}
use Rattle.xrc_session.specs.Replying.{reply_composed}
use Rattle.xrc_session.specs.Runs.{AreLabelsRead}
use Rattle.xrc_session.specs.Starting.{BeginsByLine, RepliesToStart, StandsAfterStart, level_started}
use Rattle.xrc_session.specs.States.{SessionState, session_time}
use Rattle.xrc_session.specs.Steps.{AnswersLine, DoesLine}
use Rattle.xrc_session.specs.Stops.{HasStopCause, StopsByCount}
use Rattle.xrc_session.proofs.AppliedEnds.{ended_answered, stays_worked}
use Rattle.xrc_session.proofs.InTurn.{NoneRisen, done_raises_none, none_stop}
use Rattle.xrc_session.proofs.LinesPlaces.{cause_of}
use Rattle.xrc_session.proofs.LinesSpoken.{fault_cause, fault_counts, spoken_begins, spoken_between, spoken_counts, spoken_hits, spoken_keeps, spoken_labels, spoken_part, spoken_start, spoken_unheard, spoken_whole}

-- ---- a stop before the reply

-- Nothing is heard where nothing is heard or said.
pub silent_unheard : (old new : PlantState) → Elapses old new → Silent old new → HearsNothing old new
silent_unheard old new past silent = record { script = silent.script; heard = silent.heard new.clock (past.kept Control).later (omega arith) }

-- A line stops where its command does.
pub answers_stopped : {S : Type 0} (tells : Type 0) (left : S → Option (List ℕ)) (line : Line) (s next : SessionState) (lanes after : List (Lane S)) (began old new : PlantState) → IsBetween tells s lanes old → (s.is_ended ≡ true → new ≡ old) → (stop : Stop) → (s.is_ended ≡ true → stop ≡ NoMemory) → (result : Result (Unit {0}) Stop) → result ≡ Err stop
    → (let r : Result LineAnswer Stop = Err stop in DoesLine left line s next lanes after began old new r) → AnswersLine left line s next lanes after began old new result
answers_stopped {S} tells left line s next lanes after began old new between untouched stop only result is does =
    subst (λ (r : Result (Unit {0}) Stop). AnswersLine left line s next lanes after began old new r) (sym is)
    (λ run lines trail text over heard. (
      does run lines trail text over heard,
      stays_worked tells run lines trail text s lanes began old new between untouched heard.answered,
      λ ended. inl (only (ended_answered tells run lines trail text s lanes began old between heard.answered ended)),
    ))

-- So it does where there is no memory for its reply.
pub answers_unsaid : {S : Type 0} (tells : Type 0) (left : S → Option (List ℕ)) (line : Line) (s next now : SessionState) → now ≡ next → (lanes after : List (Lane S)) (began old new : PlantState) → IsBetween tells s lanes old → (s.is_ended ≡ true → new ≡ old) → (a : LineAnswer) (result : Result (Unit {0}) Stop) → result ≡ Err NoMemory
    → (let r : Result LineAnswer Stop = Ok a in DoesLine left line s next lanes after began old new r) → AnswersLine left line s now lanes after began old new result
answers_unsaid {S} tells left line s next now same lanes after began old new between untouched a result is does =
    subst (λ (x : SessionState). AnswersLine left line s x lanes after began old new result) (sym same)
    (subst (λ (r : Result (Unit {0}) Stop). AnswersLine left line s next lanes after began old new r) (sym is)
    (λ run lines trail text over heard. ((does run lines trail text over heard).1.stops, stays_worked tells run lines trail text s lanes began old new between untouched heard.answered, λ ended. inl refl)))

pub unsaid_cause : (old new : PlantState) (result : Result (Unit {0}) Stop) → result ≡ Err NoMemory → IfErr result (HasStopCause old new)
unsaid_cause old new result is = cause_of old new result NoMemory is tt

pub unsaid_counts : (old new : PlantState) (a : LineAnswer) (result : Result (Unit {0}) Stop) → (let r : Result LineAnswer Stop = Ok a in StopsByCount old new r) → StopsByCount old new result
unsaid_counts old new a result counts = none_stop old new result (done_raises_none old new a counts)

pub labels_as : (next now : SessionState) → next ≡ now → (old new : PlantState) → IfSome next.site (λ site. AreLabelsRead old new next.names.labels) → IfSome now.site (λ site. AreLabelsRead old new now.names.labels)
labels_as next now same old new are = subst (λ (x : SessionState). IfSome x.site (λ site. AreLabelsRead old new x.names.labels)) same are

-- ---- the reply

labels_map : (o : Option SiteState) (X Y : Type 0) → (X → Y) → IfSome o (λ site. X) → IfSome o (λ site. Y)
labels_map None X Y f is = tt
labels_map (Some site) X Y f is = f is

module _ {S T E : Type 0} (tells : Type 0) (left : S → Option (List ℕ)) (s next now : SessionState) (is : now ≡ next) (lanes after : List (Lane S)) (line : Line) (answered : LineAnswer) (old mid : PlantState) (done : IsDoneLine tells s next line after mid answered) (keeps : KeepsPlant tells old mid)
    (silent : tells → Silent old mid) (counts : let r : Result LineAnswer Stop = Ok answered in StopsByCount old mid r) (reply : List ℕ) (composed : reply ≡ reply_composed now.site after line answered) (new : PlantState) (result : Result T E) (says : SaysText tells reply mid new result) where
  none : NoneRisen old mid
  none = done_raises_none old mid answered counts

  composed_next : reply ≡ reply_composed next.site after line answered
  composed_next = composed ∙ ap (λ (x : SessionState). reply_composed x.site after line answered) is

  pub reply_between : IsBetween tells now after new
  reply_between = subst (λ (x : SessionState). IsBetween tells x after new) (sym is) (spoken_between tells left s next lanes after line answered old mid done keeps silent none reply composed_next new T E result says)

  pub reply_time : session_time now ≤ line.time.0
  reply_time = subst (λ (x : SessionState). session_time x ≤ line.time.0) (sym is) done.upto

  pub reply_start : KeepsStart s now × StartsByLine line s now
  reply_start = subst (λ (x : SessionState). KeepsStart s x × StartsByLine line s x) (sym is) (done.start, done.starts)

  pub reply_same : IsSameSession s now
  reply_same = subst (λ (x : SessionState). IsSameSession s x) (sym is) done.same

  pub reply_labels : IfSome next.site (λ site. AreLabelsRead old mid next.names.labels) → IfSome now.site (λ site. AreLabelsRead old new now.names.labels)
  reply_labels are =
      subst (λ (x : SessionState). IfSome x.site (λ site. AreLabelsRead old new x.names.labels)) (sym is)
      (labels_map next.site (AreLabelsRead old mid next.names.labels) (AreLabelsRead old new next.names.labels) (spoken_labels tells left s next lanes after line answered old mid done keeps silent none reply composed_next new T E result says next.names.labels) are)

  pub reply_keeps : KeepsPlant tells old new
  reply_keeps = spoken_keeps tells left s next lanes after line answered old mid done keeps silent none reply composed_next new T E result says

  pub reply_hits : SuspendsByCounts s.table.rows next.table.rows old mid → SuspendsByCounts s.table.rows now.table.rows old new
  reply_hits hits =
      subst (λ (x : SessionState). SuspendsByCounts s.table.rows x.table.rows old new) (sym is)
      (spoken_hits tells left s next lanes after line answered old mid done keeps silent none reply composed_next new T E result says s.table.rows next.table.rows hits)

  pub reply_unheard : tells → HearsNothing old new
  reply_unheard = spoken_unheard tells left s next lanes after line answered old mid done keeps silent none reply composed_next new T E result says

  pub reply_begins : tells → BeginsByLine s.session line old mid → IfSome (level_started s.session line) (λ level. StandsAfterStart s.session level line.time.0 old mid) → BeginsByLine s.session line old new
  reply_begins told begins means = spoken_begins tells left s next lanes after line answered old mid done keeps silent none reply composed_next new T E result says told s.session begins means

  -- ---- said whole

  pub whole_replies : tells → IfSome (level_started s.session line) (λ level. IsStartAnswered next.site line.time.0 answered) → SaidWhole reply mid new → RepliesToStart s.session line old new
  whole_replies told starts whole = spoken_start tells left s next lanes after line answered old mid done keeps silent none reply composed_next new T E result says told s.session starts whole

  pub whole_counts : new.console_faults ≡ mid.console_faults → (let r : Result (Unit {0}) Stop = Ok tt in StopsByCount old new r)
  whole_counts quiet = none_stop old new (let r : Result (Unit {0}) Stop = Ok tt in r) (spoken_counts tells left s next lanes after line answered old mid done keeps silent none reply composed_next new T E result says quiet)

  pub whole_answers : tells → (began : PlantState) → length after ≡ length lanes → IsBetween tells s lanes old → (s.is_ended ≡ true → mid ≡ old) → (let r : Result LineAnswer Stop = Ok answered in DoesLine left line s next lanes after began old mid r) → SaidWhole reply mid new
      → (let r : Result (Unit {0}) Stop = Ok tt in AnswersLine left line s now lanes after began old new r)
  whole_answers told began many between untouched does whole =
      subst (λ (x : SessionState). let r : Result (Unit {0}) Stop = Ok tt in AnswersLine left line s x lanes after began old new r) (sym is)
      (spoken_whole tells left s next lanes after line answered old mid done keeps silent none reply composed_next new T E result says told began many between untouched does whole)

  -- ---- said in part

  pub part_cause : Rose mid.console_faults new.console_faults → HasStopCause old new ConsoleFault
  part_cause rose = fault_cause tells left s next lanes after line answered old mid done keeps silent none reply composed_next new T E result says rose

  pub part_counts : let r : Result (Unit {0}) Stop = Err ConsoleFault in StopsByCount old new r
  part_counts = fault_counts tells left s next lanes after line answered old mid done keeps silent none reply composed_next new T E result says

  pub part_answers : tells → (began : PlantState) → length after ≡ length lanes → IsBetween tells s lanes old → (s.is_ended ≡ true → mid ≡ old) → (let r : Result LineAnswer Stop = Ok answered in DoesLine left line s next lanes after began old mid r)
      → (let r : Result (Unit {0}) Stop = Err ConsoleFault in AnswersLine left line s now lanes after began old new r)
  part_answers told began many between untouched does =
      subst (λ (x : SessionState). let r : Result (Unit {0}) Stop = Err ConsoleFault in AnswersLine left line s x lanes after began old new r) (sym is)
      (spoken_part tells left s next lanes after line answered old mid done keeps silent none reply composed_next new T E result says told began many between untouched does)
