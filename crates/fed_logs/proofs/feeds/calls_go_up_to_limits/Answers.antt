use Rattle.fed_logs.proofs.UpToLimit.{nothing_up_to, reports_up_to_in_turn, copies_go_up_to}
use Rattle.fed_logs.proofs.feeds.calls_go_up_to_limits.Goals as goal

pub returns-clause-none : goal.returns-clause-none
returns-clause-none c = nothing_up_to

pub returns-clause-then : goal.returns-clause-then
returns-clause-then c = reports_up_to_in_turn

pub returns-clause-copied : goal.returns-clause-copied
returns-clause-copied c = copies_go_up_to
