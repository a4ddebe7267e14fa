-- The controllers before the index are as the form leaves them, and the others as before.
use Rattle.std.proofs.Common.{◌≡◌, ◌++◌, map, take, drop}
use Rattle.cut_core.specs.Floors.{reported_after_form}
use Rattle.cut_core.proofs.floors.Floors.form.Given as goal

abbrev pub invariant-loop-k : goal.invariant-loop-k
invariant-loop-k l = record {
  controls : l.self-inside.controls ≡ l.fn.self.controls;
  told : l.self-inside.told ≡ map (reported_after_form l.fn.cut.0) (take l.k l.fn.self.told) ++ drop l.k l.fn.self.told;
}
