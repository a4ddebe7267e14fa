use Rattle.block_region.proofs.ChainLaws.{none_out, taken_out, given_rest, add_up}
use Rattle.block_region.proofs.laws.takes_keep_chains.Goals as goal

pub returns : goal.returns
returns c = record {
  none = none_out;
  taken = taken_out;
  given = given_rest;
  blocks = add_up;
}
