use Rattle.state_set.proofs.Again.{states_back, versions_back}
use Rattle.state_set.proofs.SpelledSo.{states_spelled}
use Rattle.state_set.proofs.laws.states_read_back.Goals as goal

pub returns : goal.returns
returns c = record {
  back = states_back;
  versions = versions_back;
  spelled = states_spelled;
}
