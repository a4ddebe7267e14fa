use Rattle.std.proofs.Common.{◌⊎◌}
use Rattle.std.specs.List.{Contains}
use Rattle.pair_table.specs.declared.names.NamedVolume.{NamedVolume}
use Rattle.mover_tests.specs.Courses.{IsInHeader}
use Rattle.mover_tests.proofs.lanes.note_volumes.Given as goal

abbrev pub invariant-loop-volume : goal.invariant-loop-volume
invariant-loop-volume g l = (v : NamedVolume) → Contains l.named.items v → Contains l.initial.named.items v ⊎ IsInHeader l.control l.header.volumes v
