use Rattle.std.proofs.Common.{◌≡◌, ◌≤◌, ◌*◌, ◌++◌, length, map, take, drop}
use Rattle.std.specs.List.{flat_map}
use Rattle.ckd_track.specs.declared.layout.TheConstants.{WRITES_OF_RUN}
use Rattle.pending_queue.specs.Groups.{with_entries}
use Rattle.group_state.specs.Controls.{formed, due_of}
use Rattle.group_state.proofs.forming.take_due.Given as goal

abbrev pub invariant-loop-k : goal.invariant-loop-k
invariant-loop-k l = record {
  controls : l.controls ≡ map (formed l.cut) (take l.k l.initial.controls) ++ drop l.k l.initial.controls;
  group : l.out ≡ with_entries l.initial.out (flat_map (due_of l.cut) (take l.k l.initial.controls));
  few : length l.out.entries ≤ WRITES_OF_RUN * l.k;
}
