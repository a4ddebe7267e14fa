use Rattle.std.proofs.Common.{◌≡◌, ◌*◌, ◌+◌, suc, ◌-◌, length, take, drop, get_or, sym, ap, ◌∙◌, arith}
use Rattle.block_region.specs.Runs.{hop}
use Rattle.block_region.proofs.Copying.{read_step}
use Rattle.block_region.proofs.runs.gather.Goals as goal

pub loop-place-preserved : goal.loop-place-preserved
loop-place-preserved c =
    let blocks = c.args.blocks.now in
    let next = c.args.next.now in
    let first = c.args.first in
    let n = c.loop-place.place in
    let kept = c.loop-place.invariant in
    let more : n + 1 ≡ suc n = omega arith in
    let end = c.min-end.result in
    let size : 512 * c.loop-place.block + (end - 512 * n) - 512 * c.loop-place.block ≡ end - 512 * n = omega arith in
    let read = read_step blocks next c.loop-place.out c.copy_from_slice.new.self first n (n + 1) c.loop-place.block end (length c.args.out.now) more (sym c.loop-place.auto.out) (omega arith) c.min-end.ensures c.requires.size c.requires.run kept.at (c.copy_from_slice.ensures.after ∙ ap (λ k. take k (drop (512 * c.loop-place.block) blocks)) size) kept.read in
    record {
      at = ap (λ b. get_or next b 0) kept.at ∙ ap (λ m. hop next m first) (sym more);
      read = read;
    }
