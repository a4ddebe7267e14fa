use Rattle.mover.proofs.TurningOut.{lanes_read_in_turn, traces_turn_out}
use Rattle.mover.proofs.laws.traces_turn_out_in_turn.Goals as goal

pub returns-clause-lanes : goal.returns-clause-lanes
returns-clause-lanes g c = lanes_read_in_turn g.S.Source.left

pub returns-clause-traces : goal.returns-clause-traces
returns-clause-traces g c = traces_turn_out g.S.Source.left
