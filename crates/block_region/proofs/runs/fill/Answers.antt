use Rattle.std.proofs.Common.{◌≡◌, ◌+◌, suc, get_or, sym, ap, ◌∙◌, arith}
use Rattle.block_region.specs.Runs.{hop}
use Rattle.block_region.proofs.Copying.{fill_step}
use Rattle.block_region.proofs.runs.fill.Goals as goal

pub loop-place-preserved : goal.loop-place-preserved
loop-place-preserved c =
    let next = c.args.next.now in
    let bytes = c.args.bytes.now in
    let first = c.args.first in
    let n = c.loop-place.place in
    let kept = c.loop-place.invariant in
    let more : n + 1 ≡ suc n = omega arith in
    let step = fill_step c.loop-place.blocks c.put_block.new.blocks next bytes first n (n + 1) c.loop-place.block c.min-end.result more (kept.len ∙ c.requires.size) c.requires.run (omega arith) kept.at c.min-end.ensures c.put_block.ensures kept.filled in
    record {
      at = ap (λ b. get_or next b 0) kept.at ∙ ap (λ m. hop next m first) (sym more);
      len = step.len ∙ kept.len;
      filled = step.filled;
      others = λ other apart. step.others other (apart n (omega arith)) ∙ kept.others other (λ k lt. apart k (omega arith));
    }
