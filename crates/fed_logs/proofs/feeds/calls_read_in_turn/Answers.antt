use Rattle.fed_logs.proofs.InTurn.{reads_nothing, reads_in_turn}
use Rattle.fed_logs.proofs.feeds.calls_read_in_turn.Goals as goal

pub returns-clause-none : goal.returns-clause-none
returns-clause-none c = reads_nothing

pub returns-clause-then : goal.returns-clause-then
returns-clause-then c = reads_in_turn
