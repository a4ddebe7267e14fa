use Rattle.change_map.proofs.Bits.{or_bits}
use Rattle.change_map.proofs.Lanes8.{length_or, get_or-or}
use Rattle.change_map.proofs.words.or_words.Goals as goal

pub returns : goal.returns
returns c = record {
  len = length_or c.args.into.now c.args.from.now c.or_lanes.new.into c.requires c.or_lanes.ensures;
  bits = λ x. or_bits c.args.into.now c.args.from.now c.or_lanes.new.into x c.requires (length_or c.args.into.now c.args.from.now c.or_lanes.new.into c.requires c.or_lanes.ensures) (get_or-or c.args.into.now c.args.from.now c.or_lanes.new.into c.requires c.or_lanes.ensures);
}
