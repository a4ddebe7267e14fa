use Rattle.std.proofs.Common.{◌≡◌, ◌∙◌, ℕ, map, ap, arith}
use Rattle.std.specs.List.{range_with_len}
use Rattle.workload.specs.Traces.{generated_source}
use Rattle.workload.proofs.Ranges.{item_more}
use Rattle.workload.proofs.traces.sources.Goals as goal

pub loop-control-preserved : goal.loop-control-preserved
loop-control-preserved c =
    item_more (generated_source c.args.number) 0 c.loop-control.control c.loop-control.control c.loop-control.sources.items c.push.new.self.items c.in_ok-source.field-0 (omega arith) c.loop-control.invariant c.in_ok-source.ensures c.in_ok-push.ensures.items

pub returns : goal.returns
returns c =
    let at : c.loop-control.control ≡ 4 = omega (arith, c.loop-control-test.false, c.loop-control.auto.control-end) in
    c.loop-control.invariant ∙ ap (λ (n : ℕ). map (generated_source c.args.number) (range_with_len 0 n)) at
