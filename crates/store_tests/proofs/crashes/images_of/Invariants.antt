use Rattle.std.proofs.Common.{◌≡◌}
use Rattle.store_tests.proofs.crashes.images_of.Given as goal

abbrev pub invariant-loop-volume : goal.invariant-loop-volume
invariant-loop-volume g l = l.formed.controls ≡ 1
