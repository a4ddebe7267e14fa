use Rattle.std.proofs.Common.{arith, rules}
use Rattle.change_map.proofs.InWords.{none_in, none_keeps}
use Rattle.change_map.proofs.map.ChangeMap.make.Goals as goal

pub invariant_of-result : goal.invariant_of-result
invariant_of-result c =
    none_keeps c.args.tracks c.div_ceil-words.result c.in_ok-vec.field-0.items (omega (arith, c.ranges.tracks.fits)) (omega (arith, c.div_ceil-words.ensures)) (c.in_ok-vec.ensures.items_if_clones_equal (search rules))

pub returns : goal.returns
returns c =
    none_in c.args.tracks c.div_ceil-words.result c.in_ok-vec.field-0.items (c.in_ok-vec.ensures.items_if_clones_equal (search rules))
