use Rattle.cut_core.proofs.Least.{floors_are_above, least_is_legal, least_is_greatest}
use Rattle.cut_core.proofs.laws.least_floors_are_cuts.Goals as goal

pub returns : goal.returns
returns c = record {
  above = floors_are_above;
  legal = least_is_legal;
  greatest = least_is_greatest;
}
