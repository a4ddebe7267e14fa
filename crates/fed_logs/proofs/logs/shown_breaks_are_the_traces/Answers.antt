use Rattle.fed_logs.proofs.ShownBreaks.{shown_breaks_are_the_traces, groups_break_at_cuts, logs_break_as_traces, new_groups_are_unbroken, other_calls_keep_breaks}
use Rattle.fed_logs.proofs.logs.shown_breaks_are_the_traces.Goals as goal

pub returns-clause-shown : goal.returns-clause-shown
returns-clause-shown c = shown_breaks_are_the_traces

pub returns-clause-groups : goal.returns-clause-groups
returns-clause-groups c = groups_break_at_cuts

pub returns-clause-first : goal.returns-clause-first
returns-clause-first c = new_groups_are_unbroken

pub returns-clause-logs : goal.returns-clause-logs
returns-clause-logs c = logs_break_as_traces

pub returns-clause-others : goal.returns-clause-others
returns-clause-others c = other_calls_keep_breaks
