use Rattle.std.proofs.Common.{◌≡◌}
use Rattle.site_store.specs.Commands.{LabelsFit}
use Rattle.mover_tests.proofs.courses.label_volumes.Given as goal

abbrev pub invariant-loop-device : goal.invariant-loop-device
invariant-loop-device g l = record {
  primaries : l.names.primaries ≡ l.initial.names.primaries;
  labels : LabelsFit (g.P.Plant.state l.plant) l.names;
}
