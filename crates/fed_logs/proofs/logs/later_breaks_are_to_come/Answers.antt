use Rattle.fed_logs.proofs.BreaksToCome.{breaks_to_come_are_awaited, all_breaks_are_to_come, later_breaks_are_to_come, other_calls_await_breaks}
use Rattle.fed_logs.proofs.logs.later_breaks_are_to_come.Goals as goal

pub returns-clause-awaited : goal.returns-clause-awaited
returns-clause-awaited c = breaks_to_come_are_awaited

pub returns-clause-first : goal.returns-clause-first
returns-clause-first c = all_breaks_are_to_come

pub returns-clause-logs : goal.returns-clause-logs
returns-clause-logs c = later_breaks_are_to_come

pub returns-clause-others : goal.returns-clause-others
returns-clause-others c = other_calls_await_breaks
