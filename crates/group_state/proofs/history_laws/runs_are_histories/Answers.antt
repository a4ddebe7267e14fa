use Rattle.group_state.proofs.RunLaws.{runs_are_histories}
use Rattle.group_state.proofs.history_laws.runs_are_histories.Goals as goal

pub returns : goal.returns
returns c = runs_are_histories
