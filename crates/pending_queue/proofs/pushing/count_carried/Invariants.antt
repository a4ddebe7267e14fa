use Rattle.std.proofs.Common.{◌≡◌, ◌≤◌, length, take}
use Rattle.std.specs.Prelude.{filter}
use Rattle.pending_queue.proofs.pushing.count_carried.Given as goal

abbrev pub invariant-loop-write : goal.invariant-loop-write
invariant-loop-write g l = (l.count ≡ length (filter (g.C.Carrier.carries l.carrier) (take l.write-index l.writes))) × (l.count ≤ l.write-index)
