-- After what a sidefile hands over no more, and up to when its controller has reported.
use Rattle.std.specs.Prelude.{ℕ, Option, Some, None}
use Rattle.tod_stamp.specs.declared.stamp.Stamp.{Stamp}
use Rattle.ckd_track.specs.declared.write.Cause.{Cause}
use Rattle.sidefile.specs.declared.hand.Hand.{Hand}
use Rattle.sidefile.specs.declared.hand.Hand.TheVariants.{Batch, AtLimit, Broken, NoMemory}
use Rattle.sidefile.specs.declared.hand.Halt.{Halt}
use Rattle.sidefile.specs.declared.hand.Halt.TheVariants as halts

-- what is answered again
abbrev pub hand_of : Halt → Hand
hand_of (halts.Broken cause upto) = Broken cause upto
hand_of halts.NoMemory = NoMemory

abbrev pub halt_of : Hand → Option Halt
halt_of (Batch batch) = None
halt_of AtLimit = None
halt_of (Broken cause upto) = Some (halts.Broken cause upto)
halt_of NoMemory = Some halts.NoMemory

-- the `upto` and the cause of the break that was answered
abbrev pub broken_in : Option Halt → Option (Stamp × Cause)
broken_in None = None
broken_in (Some (halts.Broken cause upto)) = Some (upto, cause)
broken_in (Some halts.NoMemory) = None

-- The time up to which a controller has reported: a batch's `upto`, the limit, a break's `upto`, or the time before.
abbrev pub reached : (before limit : ℕ) → Hand → ℕ
reached before limit (Batch batch) = batch.upto.0
reached before limit AtLimit = limit
reached before limit (Broken cause upto) = upto.0
reached before limit NoMemory = before
