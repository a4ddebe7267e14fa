use Rattle.std.proofs.Common.{length, sym, ap, ◌∙◌, arith}
use Rattle.std.specs.Prelude.{count_ones}
use Rattle.std.specs.List.{sum_by}
use Rattle.std.proofs.lemmas.List.{take_all}
use Rattle.change_map.proofs.Counts.{size_of_words}
use Rattle.change_map.proofs.words.count_words.Goals as goal

pub returns : goal.returns
returns c =
    let words = c.args.words.now in
    c.count_lanes.ensures
    ∙ sym (size_of_words words (λ k. (c.type_inv.words k).fits) (length words) (omega arith) ∙ ap (sum_by count_ones) (take_all (length words) words (omega arith)))
