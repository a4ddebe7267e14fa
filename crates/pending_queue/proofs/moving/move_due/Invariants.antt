use Rattle.std.proofs.Common.{◌≡◌, ◌≤◌, ◌+◌, ◌*◌, ◌++◌, length, IsTrue}
use Rattle.ckd_track.specs.declared.layout.TheConstants.{WRITES_OF_RUN}
use Rattle.pending_queue.specs.Entries.{entries_never_fall, due, left, stands_before}
use Rattle.pending_queue.specs.Waitings.{SameMemory}
use Rattle.xrc_edge.specs.Order.{in_order, is_in_order}
use Rattle.pending_queue.proofs.moving.move_due.Given as goal

abbrev pub invariant-loop-cut : goal.invariant-loop-cut
invariant-loop-cut l = record {
  rising : IsTrue (entries_never_fall 0 l.waiting.entries);
  ordered : IsTrue (is_in_order stands_before l.entries.entries);
  room : length l.entries.entries + length (due l.cut l.waiting.entries) ≤ WRITES_OF_RUN * l.entries.controls;
  controls : l.entries.controls ≡ l.initial.entries.controls;
  same : SameMemory l.initial.waiting l.waiting;
  stays : left l.cut l.waiting.entries ≡ left l.cut l.initial.waiting.entries;
  moves : in_order stands_before (l.entries.entries ++ due l.cut l.waiting.entries) ≡ in_order stands_before (l.initial.entries.entries ++ due l.cut l.initial.waiting.entries);
}

abbrev pub decreases-loop-cut : goal.decreases-loop-cut
decreases-loop-cut l = length l.waiting.entries
