use Rattle.std.specs.Prelude.{◌≡◌, length}
use Rattle.mover_tests.specs.Steps.{HaveControlsReported}
use Rattle.mover_tests.proofs.steps.Shared.copy.Given as goal

abbrev pub invariant-loop-copied : goal.invariant-loop-copied
invariant-loop-copied g l = record {
  told : HaveControlsReported l.self.told.items l.self.last l.self.group;
  same : length l.self.group.controls ≡ length l.initial.self.group.controls;
}
