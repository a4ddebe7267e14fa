-- A sidefile, and what it keeps.
use Rattle.std.specs.Prelude.{◌≡◌, ◌<◌, ◌≤◌, ◌⊎◌, ◌||◌, ℕ, Bool, List, length, All, Option, Some, None, is_some, nat_lt}
use Rattle.ckd_track.specs.declared.layout.TheConstants.{WRITES_OF_RUN}
use Rattle.xrc_edge.specs.Causes.{Rose}
use Rattle.ckd_track.specs.declared.write.Batch.{Batch}
use Rattle.ckd_track.specs.declared.write.Cause.TheVariants.{ReadFault}
use Rattle.write_trace.specs.declared.header.VolumeHead.{VolumeHead}
use Rattle.write_trace.specs.declared.entry.Entry.{Entry}
use Rattle.write_trace.specs.declared.trace.TraceEnd.TheVariants as ends
use Rattle.write_trace.specs.Entries.{stamp_of}
use Rattle.write_trace.specs.Writes.{IsWriteTo}
use Rattle.write_trace.specs.declared.next.Stopped.TheVariants.{AtEnd}
use Rattle.write_trace.specs.Answers.{ReaderState}
use Rattle.sidefile.specs.declared.hand.Hand.{Hand}
use Rattle.sidefile.specs.declared.hand.Hand.TheVariants as hands
use Rattle.sidefile.specs.declared.hand.Halt.{Halt}
use Rattle.sidefile.specs.Looks.{IsEntryTo}
use Rattle.sidefile.specs.ExactHands.{SidefileFront}

-- A sidefile: its controller, the entry that was looked at and waits, its reader, up to when its controller has reported, and why it
-- hands over no more.
pub record SidefileState : Type 0 where
  pub control : ℕ
  pub waiting : Option Entry
  pub reader : ReaderState
  pub upto : ℕ
  pub halted : Option Halt

abbrev pub front_of : SidefileState → SidefileFront
front_of s = record { waiting = s.waiting; reader = s.reader }

-- The waiting entry is the reader's last, is good, and has a stamp above what was reported. Where none waits, nothing was read
-- yet, or the trace ended.
abbrev pub IsWaiting : Option Entry → ReaderState → (upto : ℕ) → Type 0
IsWaiting None reader upto = ((upto ≡ 0) × (reader.stopped ≡ None)) ⊎ (reader.stopped ≡ Some (AtEnd ends.Ended))
IsWaiting (Some e) reader upto = IsEntryTo reader.volumes e × (upto < stamp_of e) × (reader.last ≡ stamp_of e) × (reader.stopped ≡ None)

-- A sidefile that is not halted has such an entry or none.
abbrev pub IsSidefile : Option Halt → Option Entry → ReaderState → (upto : ℕ) → Type 0
IsSidefile None waiting reader upto = IsWaiting waiting reader upto
IsSidefile (Some halt) waiting reader upto = Unit {0}

-- ---- how far it has come

-- whether the next entry is known to lie above a limit, or none to be left
abbrev pub is_next_above : (limit : ℕ) → Option Entry → ReaderState → Bool
is_next_above limit None reader = is_some reader.stopped
is_next_above limit (Some e) reader = nat_lt limit (stamp_of e)

-- A sidefile is past a limit where it takes no further entry up to it, and asks its source for none.
abbrev pub is_past : (limit : ℕ) → SidefileState → Bool
is_past limit s = is_some s.halted || is_next_above limit s.waiting s.reader

-- ---- what is true of each hand, also where the source tells no bytes

-- No more writes than a run may have, to tracks of these volumes, all with one stamp, which is above what was reported before. What
-- is reported with them lies from their stamp to the limit.
pub record IsRunOf (volumes : List VolumeHead) (control before limit : ℕ) (batch : Batch) : Type 0 where
  pub from : batch.control ≡ control
  pub kept : All (IsWriteTo volumes) batch.writes
  pub room : length batch.writes ≤ WRITES_OF_RUN
  pub stamp : ℕ
  pub stamps : All (λ w. w.stamp.0 ≡ stamp) batch.writes
  pub above : before < stamp
  pub there : stamp ≤ batch.upto.0
  pub within : batch.upto.0 ≤ limit

abbrev pub HoldsRun : (volumes : List VolumeHead) (control before limit : ℕ) → Hand → Type 0
HoldsRun volumes control before limit (hands.Batch batch) = IsRunOf volumes control before limit batch
HoldsRun volumes control before limit hands.AtLimit = Unit {0}
HoldsRun volumes control before limit (hands.Broken cause upto) = Unit {0}
HoldsRun volumes control before limit hands.NoMemory = Unit {0}

-- The count of the source's faults rose only where the controller broke by one.
abbrev pub HasFault : (faults risen : ℕ) → Hand → Type 0
HasFault faults risen (hands.Batch batch) = risen ≡ faults
HasFault faults risen hands.AtLimit = risen ≡ faults
HasFault faults risen (hands.Broken ReadFault upto) = Rose faults risen
HasFault faults risen (hands.Broken cause upto) = risen ≡ faults
HasFault faults risen hands.NoMemory = risen ≡ faults
