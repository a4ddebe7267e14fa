use Rattle.std.proofs.Common.{◌-◌}
use Rattle.write_trace.specs.WholeTraces.{most_bytes}
use Rattle.sidefile.proofs.Collects.{Collected}
use Rattle.sidefile.proofs.run.take_run.Given as goal

abbrev pub invariant-loop-entry : goal.invariant-loop-entry
invariant-loop-entry g l = Collected (g.S.Source.left l.initial.source) (g.S.Source.left l.source) (g.S.Source.faults l.initial.source) (g.S.Source.faults l.source)
    l.initial.reader l.reader l.stamp.0 l.initial.writes l.writes

abbrev pub decreases-loop-entry : goal.decreases-loop-entry
decreases-loop-entry g l = most_bytes - l.reader.left.place
