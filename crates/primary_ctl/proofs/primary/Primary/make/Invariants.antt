use Rattle.std.proofs.Common.{◌≡◌, ℕ, []}
use Rattle.primary_ctl.specs.States.{track_in}
use Rattle.primary_ctl.proofs.Bases.{after_puts}
use Rattle.primary_ctl.proofs.primary.Primary.make.Given as goal

abbrev pub invariant-loop-volume : goal.invariant-loop-volume
invariant-loop-volume l = (v t : ℕ) → track_in l.held v t ≡ after_puts v t [] l.yielded
