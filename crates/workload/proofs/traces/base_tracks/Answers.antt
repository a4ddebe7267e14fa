use Rattle.std.proofs.Common.{arith}
use Rattle.workload.specs.Traces.{generated_base}
use Rattle.workload.proofs.Ranges.{item_more}
use Rattle.workload.proofs.traces.base_tracks.Goals as goal

pub loop-number-preserved : goal.loop-number-preserved
loop-number-preserved c =
    item_more generated_base 0 c.loop-number.number c.loop-number.number c.loop-number.base c.push.new.self c.in_ok-base_track.field-0 (omega arith) c.loop-number.invariant c.in_ok-base_track.ensures c.in_ok-push.ensures.ok
