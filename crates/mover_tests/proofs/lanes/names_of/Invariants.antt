use Rattle.std.proofs.Common.{◌≡◌, [], take}
use Rattle.mover_tests.proofs.lanes.names_of.Given as goal

abbrev pub invariant-loop-place : goal.invariant-loop-place
invariant-loop-place g l = record {
  primaries : l.names.primaries ≡ take l.place l.named;
  labels : l.names.labels ≡ [];
}
