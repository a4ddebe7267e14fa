use Rattle.std.proofs.Common.{◌≡◌}
use Rattle.store_tests.proofs.ring.images.Given as goal

abbrev pub invariant-loop-track : goal.invariant-loop-track
invariant-loop-track g l = l.formed.controls ≡ 1
