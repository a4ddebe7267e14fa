use Rattle.std.proofs.Common.{◌≡◌, ◌≤◌, ◌*◌, length, take}
use Rattle.std.specs.Prelude.{filter}
use Rattle.ckd_track.specs.declared.layout.TheConstants.{BLOCKS_OF_ENTRY}
use Rattle.pending_queue.specs.Rooms.{blocks_needed}
use Rattle.pending_queue.proofs.pushing.blocks_needed.Given as goal

abbrev pub invariant-loop-write : goal.invariant-loop-write
invariant-loop-write g l = record {
  counted : l.blocks ≡ blocks_needed (filter (g.C.Carrier.carries l.carrier) (take l.write-index l.writes));
  few : l.blocks ≤ BLOCKS_OF_ENTRY * length (filter (g.C.Carrier.carries l.carrier) (take l.write-index l.writes));
}
