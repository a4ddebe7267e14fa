use Rattle.std.proofs.Common.{◌≡◌, take}
use Rattle.std.specs.Prelude.{IsTrue}
use Rattle.group_state.specs.Volumes.{with_writes}
use Rattle.group_state.specs.SoundStates.{are_within}
use Rattle.group_state.proofs.volumes.note_writes.Given as goal

abbrev pub invariant-loop-write : goal.invariant-loop-write
invariant-loop-write l = record {
  noted : l.volumes ≡ with_writes l.initial.volumes (take l.write-index l.writes);
  within : IsTrue (are_within l.volumes l.writes);
}
