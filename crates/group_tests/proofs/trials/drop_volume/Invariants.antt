use Rattle.std.proofs.Common.{◌≡◌, length}
use Rattle.group_tests.proofs.trials.drop_volume.Given as goal

abbrev pub invariant-loop-track : goal.invariant-loop-track
invariant-loop-track g l = length l.map ≡ 4
