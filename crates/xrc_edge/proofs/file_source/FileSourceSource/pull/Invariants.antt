use Rattle.std.proofs.Common.{◌≡◌}
use Rattle.xrc_edge.proofs.file_source.FileSourceSource.pull.Given as goal

abbrev pub invariant-loop : goal.invariant-loop
invariant-loop g l = l.self-inside.faults ≡ l.initial.self-inside.faults
