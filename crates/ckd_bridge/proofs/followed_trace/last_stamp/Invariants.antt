use Rattle.std.proofs.Common.{◌-◌}
use Rattle.write_trace.specs.WholeTraces.{most_bytes}
use Rattle.ckd_bridge.proofs.FollowedTraces.{ReadTo}
use Rattle.ckd_bridge.proofs.followed_trace.last_stamp.Given as goal

-- the entries that were read so far, of which the last has this stamp
abbrev pub invariant-loop-write : goal.invariant-loop-write
invariant-loop-write g l = ReadTo (g.S.Source.left l.fn.source) (g.S.Source.left l.source) (g.S.Source.faults l.fn.source) (g.S.Source.faults l.source) l.fn.reader l.reader l.last.0

abbrev pub decreases-loop-write : goal.decreases-loop-write
decreases-loop-write g l = most_bytes - l.reader.left.place
