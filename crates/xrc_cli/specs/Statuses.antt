-- The status that a run of a session ends with: what it stands for, and what was done and said by then.
use Rattle.crash_plant.specs.Choices.{AtNow}
use Rattle.std.specs.Prelude.{◌≡◌, ◌≢◌, ◌⊎◌, ℕ, ◌+◌, ◌<◌, ◌≤◌, ◌==◌, ◌||◌, List, [], ◌∷◌, ◌++◌, length, take, Bool, Option, Some, None, IsTrue, false, slice_index_or}
use Rattle.xrc_edge.specs.Causes.{Rose}
use Rattle.crash_plant.specs.declared.device.Device.{Device}
use Rattle.crash_plant.specs.declared.device.Device.TheVariants.{Control, State, Journal}
use Rattle.crash_plant.specs.Moments.{PlantState}
use Rattle.xrc_command.specs.declared.line.Line.{Line}
use Rattle.site_store.specs.Records.{IsStore}
use Rattle.consistency.specs.Stages.{ScriptRun}
use Rattle.consistency.specs.Courses.{Answered, AreAsked, IsCourse, lines_begun, replies_of, texts_of}
use Rattle.consistency.specs.Moments.{BearsThroughout, BearsTime}
use Rattle.script_lines.specs.Texts.{has_feed}
use Rattle.consistency.specs.Leads.{Point}
use Rattle.mover.specs.declared.lane.Lane.{Lane}
use Rattle.xrc_status.specs.declared.stop.Stop.{Stop}
use Rattle.xrc_status.specs.declared.stop.Stop.TheVariants.{BadLine, ConsoleFault, HeaderFault, NoMemory}
use Rattle.xrc_status.specs.Saying.{SaysLast}
use Rattle.xrc_status.specs.Stops.{last_line, status_of}
use Rattle.xrc_session.specs.AppliedEnds.{StaysApplied}
use Rattle.xrc_session.specs.LinePauses.{stage_after_text}
use Rattle.xrc_session.specs.Ends.{IsRunDone}
use Rattle.xrc_session.specs.Frames.{ChangesRows, KeepsPlant, rows_passed}
use Rattle.xrc_session.specs.Lanes.{AllTold, SourceBytes}
use Rattle.xrc_session.specs.Openings.{IsOfHeaders, IsOfSite, opening_stop, stop_of_site}
use Rattle.xrc_session.specs.Runs.{AreCountsBelow, IsBadAfter, IsRunOfScript}
use Rattle.xrc_session.specs.Starting.{AreOwnSpent, BeginsRun}
use Rattle.xrc_session.specs.Stops.{HasRunCause, IsStopAfterEnd, stop_of_device}
use Rattle.xrc_session.specs.Trails.{AreExact, GoesForth, Trail, HasBegunTrail, StandsOnTrail}

-- ---- causes

-- whether a run can end with a status
abbrev pub may_end_run : (status : ℕ) → Bool
may_end_run status = status == 0 || status == 1 || status == 3 || status == 4 || status == 5 || status == 6 || status == 7 || status == 8 || status == 9 || status == 14 || status == 16 || status == 24

-- Each status has its cause, by counts. The other statuses are told by words, lengths, headers, lines and numbers, and 1 is free.
--   counts: no count of the control, the state or a journal changes but with its own status
--   console_once: at each status the console's count rises by one at most
--   journal: of the journals one failed, and no other
pub record HasStatusCause (status : ℕ) (old new : PlantState) : Type 0 where
  pub known : IsTrue (may_end_run status)
  pub counts : (d : Device) → IsStore d → status ≢ status_of (stop_of_device d) → new.faults d ≡ old.faults d
  pub console_count : status ≡ 0 → new.console_faults ≡ old.console_faults
  pub console_once : new.console_faults ≤ old.console_faults + 1
  pub console : status ≡ 3 → Rose old.console_faults new.console_faults
  pub journal : status ≡ 5 → (j : ℕ) × Rose (old.faults (Journal j)) (new.faults (Journal j)) × ((other : ℕ) → other ≢ j → new.faults (Journal other) ≡ old.faults (Journal other))
  pub control : status ≡ 6 → Rose (old.faults Control) (new.faults Control)
  pub state : status ≡ 7 → Rose (old.faults State) (new.faults State)

-- ---- opening

-- A command ended by a stop before it heard anything or called a device: only its line was said.
pub record SaysLineOnly (tells : Type 0) (stop : Stop) (old new : PlantState) (status : ℕ) : Type 0 where
  pub status_is : status ≡ status_of stop
  pub says : SaysLast tells (last_line stop) old new

-- Numbers, lengths and headers come first, in this order, each exactly, and then nothing was heard and no device was called. Numbers and lengths
-- end a run before a source is pulled. A fault in a header is that of the source whose count rose, whatever sources tell.
pub record OpensFirst {S : Type 0} (tells : Type 0) (left : S → Option (List ℕ)) (faults : S → ℕ) (storage : ℕ) (before now : List (Lane S)) (old new : PlantState) (status : ℕ) : Type 0 where
  pub site : (stop : Stop) → stop_of_site storage (length before) old ≡ Some stop → (now ≡ before) × SaysLineOnly tells stop old new status
  pub of_site : (status ≡ 14) ⊎ (status ≡ 16) → (stop : Stop) × IsOfSite stop × (stop_of_site storage (length before) old ≡ Some stop)
  pub headers : (sources : List SourceBytes) (stop : Stop) → AllTold left faults before now sources → opening_stop storage old sources ≡ Some stop → SaysLineOnly tells stop old new status ⊎ SaysLineOnly tells NoMemory old new status
  pub of_headers : (status ≡ 8) ⊎ (status ≡ 9) → (stop : Stop) × IsOfHeaders stop × SaysLineOnly tells stop old new status
      × ((sources : List SourceBytes) → AllTold left faults before now sources → opening_stop storage old sources ≡ Some stop)
      × ((k : ℕ) (d : Lane S) → stop ≡ HeaderFault k → Rose (faults (slice_index_or before k d).source) (faults (slice_index_or now k d).source))

-- ---- the end of a run

-- A stop's line was said after the replies: whole, with the console's count as it was, or a front of it where that count rose.
pub record SaidAfter (lines : List Answered) (text : List ℕ) (old new : PlantState) : Type 0 where
  pub said : (k : ℕ) × (k ≤ length text) × (new.said new.clock ≡ old.said old.clock ++ (replies_of lines ++ take k text))
  pub whole : ((new.said new.clock ≡ old.said old.clock ++ (replies_of lines ++ text)) × (new.console_faults ≡ old.console_faults)) ⊎ Rose old.console_faults new.console_faults

-- Nothing was said after the replies to these lines. Or of the last reply a front was said, and nothing else.
pub data SaidInPart (lines : List Answered) (old new : PlantState) : Type 0 where
  AllReplies : new.said new.clock ≡ old.said old.clock ++ replies_of lines → SaidInPart lines old new
  LastInPart : (before : List Answered) (a : Answered) (k : ℕ) → lines ≡ before ++ a ∷ [] → k ≤ length a.reply → new.said new.clock ≡ old.said old.clock ++ (replies_of before ++ take k a.reply) → SaidInPart lines old new

-- A run that isn't done ended by a stop, with its own cause. After the answered lines so much was heard, of one line at most, and this is left of
-- the script.
--   counts: no count of the control, the state or a journal changes but with its own stop
--   spent: 24 comes only once the session has started, or in the work for its start, where its own numbers are spent
--   bears_now: whatever a crash leaves bears a time, not before any that the replies say, also on a plant that keeps no past
--   in_part: at 3 the console failed in hearing, or in saying the reply to the last of the lines
--   after_end: once the session has ended no device stops the run
pub record StopsWith (tells : Type 0) (run : ScriptRun) (lines : List Answered) (old new : PlantState) (status : ℕ) : Type 0 where
  pub stop : Stop
  pub status_is : status ≡ status_of stop
  pub cause : HasRunCause old new stop
  pub counts : (d : Device) → IsStore d → stop ≢ stop_of_device d → new.faults d ≡ old.faults d
  pub text : List ℕ
  pub heard : new.heard new.clock ≡ old.heard old.clock ++ (texts_of lines ++ text)
  pub script : old.script ≡ texts_of lines ++ text ++ new.script
  pub one_line : lines_begun text ≤ 1
  pub said : status ≢ 3 → SaidAfter lines (last_line stop) old new
  pub in_part : status ≡ 3 → SaidInPart lines old new
  pub bad : IsBadAfter tells lines text new.script → (stop ≡ BadLine (length lines + 1)) ⊎ ((stop ≡ ConsoleFault) × (has_feed text ≡ false))
  pub of_bad : (n : ℕ) → stop ≡ BadLine n → (n ≡ length lines + 1) × IsBadAfter tells lines text new.script
  pub spent : status ≡ 24 → AreOwnSpent run (stage_after_text run lines text old) old new
  pub bears_now : let s = stage_after_text run lines text old in IsTrue s.table.is_started → AtNow (BearsTime run s (replies_of lines) new) new
  pub after_end : IsTrue (stage_after_text run lines text old).table.is_ended → IsStopAfterEnd stop

-- ---- the whole

-- A line is the one that was heard whole after the answered ones, if there is one.
abbrev pub IsHeardAfter : ScriptRun → List Answered → (old new : PlantState) → Option Line → Type 0
IsHeardAfter run lines old new heard = (text : List ℕ) × (new.heard new.clock ≡ old.heard old.clock ++ (texts_of lines ++ text)) × ((stage_after_text run lines text old).next ≡ heard)

-- What a session has done when its run ends with a status: over the traces of what the sources gave, the labels that volumes had, and as many
-- faults of volumes as their counts rose by, it answered these lines, and its devices went this way.
pub record Ran (tells : Type 0) (session : List ℕ) (sources : List SourceBytes) (old new : PlantState) (status : ℕ) : Type 0 where
  pub run : ScriptRun
  pub over : IsRunOfScript session sources old new run
  pub lines : List Answered
  pub trail : Trail
  pub course : IsCourse run lines
  pub asked : AreAsked old.script lines
  -- At every moment whatever a crash leaves bears one time, not before any that was said.
  pub bears : 0 < old.clock → BearsThroughout run lines old new
  -- Each reply is exactly its line's, and the points before its command bring the changes that are said of the line.
  pub exact : AreExact run lines trail
  -- Once the session has started, its trail begins with the line that started it. Without a start no point was passed.
  pub unstarted : trail.started ≡ 0 → trail.points ≡ []
  pub begun : HasBegunTrail run lines trail
  -- From the start's reply on the devices go from point to point and never back.
  pub goes_forth : 0 < old.clock → 0 < trail.started → (heard : Option Line) × IsHeardAfter run lines old new heard × ((next : Option Point) × GoesForth run lines heard trail next old new)
  -- So they stand at its end, also on a plant that keeps no past.
  pub on_trail : 0 < trail.started → (heard : Option Line) × IsHeardAfter run lines old new heard × ((next : Option Point) × StandsOnTrail run lines heard trail next new)
  -- From the first byte of the reply to a line after which the session has ended, all stays applied and marked, to the end of the run.
  pub applied : StaysApplied run lines old new
  -- Of the volumes only the slots of pairs that had a row are written.
  pub volumes : ChangesRows (rows_passed trail.points) old new
  -- Done: the script was heard to its end, so much was said, and all is applied.
  pub done : status ≡ 0 → IsRunDone run lines trail old new
  -- Not done: the line of the status was said after the replies. 4 is a bad line, and nothing else.
  pub stopped : status ≢ 0 → StopsWith tells run lines old new status

-- What is so where a run of a session over lanes that had no readers has ended with a status. What it says of what was heard and of what a crash
-- leaves, it says of plants and sources that tell their bytes, and whose counts end below the largest number.
pub record EndsScriptRun {S P : Type 0} (tells : Type 0) (state : P → PlantState) (left : S → Option (List ℕ)) (faults : S → ℕ) (session : List ℕ) (storage : ℕ) (before now : List (Lane S)) (old new : P) (status : ℕ) : Type 0 where
  pub lanes_stay : length now ≡ length before
  pub cause : HasStatusCause status (state old) (state new)
  pub keeps : KeepsPlant tells (state old) (state new)
  pub opens : OpensFirst tells left faults storage before now (state old) (state new) status
  -- Until the start is answered a crash leaves the site that was, none, or the one that starts; without a start no device is worked on.
  pub begins : tells → BeginsRun session (state old) (state new)
  pub ran : tells → AreCountsBelow (state new) → (sources : List SourceBytes) → AllTold left faults before now sources → opening_stop storage (state old) sources ≡ None
      → Ran tells session sources (state old) (state new) status
