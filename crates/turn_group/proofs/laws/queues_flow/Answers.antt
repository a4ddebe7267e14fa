use Rattle.turn_group.proofs.Flow.{queues_flow as all_flow}
use Rattle.turn_group.proofs.laws.queues_flow.Goals as goal

pub returns : goal.returns
returns c = all_flow
