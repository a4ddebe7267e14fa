use Rattle.std.proofs.Common.{◌≡◌, ◌+◌, ◌++◌, take, length}
use Rattle.std.specs.Prelude.{filter}
use Rattle.block_region.specs.Regions.{free_blocks}
use Rattle.pending_queue.specs.Entries.{entries_of}
use Rattle.pending_queue.specs.Rooms.{blocks_needed}
use Rattle.pending_queue.specs.Waitings.{SameMemory}
use Rattle.pending_queue.proofs.pushing.push_entries.Given as goal

abbrev pub invariant-loop-write : goal.invariant-loop-write
invariant-loop-write g l = record {
  pushed : l.waiting.entries ≡ l.initial.waiting.entries ++ entries_of l.control (filter (g.C.Carrier.carries l.carrier) (take l.write-index l.writes));
  free : free_blocks l.waiting.region + blocks_needed (filter (g.C.Carrier.carries l.carrier) (take l.write-index l.writes)) ≡ free_blocks l.initial.waiting.region;
  same : SameMemory l.initial.waiting l.waiting;
  buffer : length l.form ≡ length l.initial.form;
}
