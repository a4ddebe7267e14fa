use Rattle.fed_logs.proofs.Below.{nothing_breaks, below_in_turn, copies_report_no_break}
use Rattle.fed_logs.proofs.feeds.calls_break_below.Goals as goal

pub returns-clause-none : goal.returns-clause-none
returns-clause-none c = nothing_breaks

pub returns-clause-then : goal.returns-clause-then
returns-clause-then c = below_in_turn

pub returns-clause-copied : goal.returns-clause-copied
returns-clause-copied c = copies_report_no_break
