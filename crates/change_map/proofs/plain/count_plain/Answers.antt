use Rattle.std.proofs.Common.{◌≤◌, length, get_or, ap, ◌∙◌, arith}
use Rattle.std.specs.Prelude.{count_ones}
use Rattle.std.specs.List.{sum_by}
use Rattle.std.proofs.lemmas.List.{take_all}
use Rattle.std.proofs.lemmas.List.Sums.{sum_by_more}
use Rattle.change_map.proofs.Counts.{ones_few}
use Rattle.change_map.proofs.plain.count_plain.Goals as goal

pub loop-word-preserved : goal.loop-word-preserved
loop-word-preserved c = record {
  counted = omega (arith, c.from-count.ensures, c.loop-word.invariant.counted, sum_by_more count_ones c.args.words.now c.loop-word.word-index 0 c.loop-word-test.true);
  few = omega (arith, c.from-count.ensures, c.loop-word.invariant.few, ones_few (get_or c.args.words.now c.loop-word.word-index 0) (c.type_inv.words c.loop-word.word-index).fits);
}

pub returns : goal.returns
returns c =
    let whole : length c.args.words.now ≤ c.loop-word.word-index = c.loop-word-test.false in
    c.loop-word.invariant.counted ∙ ap (sum_by count_ones) (take_all c.loop-word.word-index c.args.words.now whole)
