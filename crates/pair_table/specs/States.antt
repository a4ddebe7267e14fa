-- What a pair's state tells: whether its copy is done, what suspended it, and what its volume owes from one state to the next.
use Rattle.std.specs.Prelude.{ℕ, ◌&&◌, ◌||◌, not, if◌then◌else◌, List, Bool, true, false, Option, Some, None, codes}
use Rattle.pair_table.specs.declared.row.PairState.{PairState}
use Rattle.pair_table.specs.declared.row.PairState.TheVariants.{Pending, Copy, Duplex, Suspended}
use Rattle.pair_table.specs.declared.row.SuspendCause.{SuspendCause}
use Rattle.pair_table.specs.declared.row.SuspendCause.TheVariants.{Command, Device, Session, Control, Group}

-- ---- causes

-- the word of a cause in reports
abbrev pub cause_word : SuspendCause → List ℕ
cause_word Command = codes "COMMAND"
cause_word Device = codes "DEVICE"
cause_word Session = codes "SESSION"
cause_word Control = codes "CONTROL"
cause_word Group = codes "GROUP"

abbrev pub is_by_device : SuspendCause → Bool
is_by_device Device = true
is_by_device Command = false
is_by_device Session = false
is_by_device Control = false
is_by_device Group = false

abbrev pub is_by_group : SuspendCause → Bool
is_by_group Group = true
is_by_group Command = false
is_by_group Device = false
is_by_group Session = false
is_by_group Control = false

-- ---- states

-- whether a row in this state is suspended by its own device
abbrev pub is_device_suspended : PairState → Bool
is_device_suspended Pending = false
is_device_suspended Copy = false
is_device_suspended Duplex = false
is_device_suspended (Suspended cause since) = is_by_device cause

-- whether a row in this state is suspended by the fault of another pair of its group
abbrev pub is_group_suspended : PairState → Bool
is_group_suspended Pending = false
is_group_suspended Copy = false
is_group_suspended Duplex = false
is_group_suspended (Suspended cause since) = is_by_group cause

-- A row that neither waits for its copy nor is copied.
abbrev pub is_settled : PairState → Bool
is_settled Pending = false
is_settled Copy = false
is_settled Duplex = true
is_settled (Suspended cause since) = true

abbrev pub is_duplex : PairState → Bool
is_duplex Pending = false
is_duplex Copy = false
is_duplex Duplex = true
is_duplex (Suspended cause since) = false

-- ---- what a volume owes

-- What the volume of a row owes more once the row is suspended, by its own device or not: all its tracks, or those that change from then
-- on. A row that stood duplex owes only the latter, unless its own device suspends it. Any other owes all its tracks. A row that was suspended
-- owes more only if its own device suspends it now and did not before.
abbrev pub owes_suspended : (was : PairState) → (stood by_device : Bool) → Option Bool
owes_suspended Pending stood by_device = Some (not stood || by_device)
owes_suspended Copy stood by_device = Some (not stood || by_device)
owes_suspended Duplex stood by_device = Some (not stood || by_device)
owes_suspended (Suspended cause since) stood by_device = if by_device && not (is_by_device cause) then Some true else None

-- Whether the volume of a row that went from one state to another owes more than it did, and if so, whether all its tracks. `stood` says
-- whether the row stood duplex meanwhile. A row that isn't suspended owes no more.
abbrev pub owes_through : (was is : PairState) → (stood : Bool) → Option Bool
owes_through was Pending stood = None
owes_through was Copy stood = None
owes_through was Duplex stood = None
owes_through was (Suspended cause since) stood = owes_suspended was stood (is_by_device cause)

-- the same of a row that goes from one state to another at once
abbrev pub owes : (was is : PairState) → Option Bool
owes was is = owes_through was is (is_duplex was)
