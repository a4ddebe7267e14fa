use Rattle.fed_logs.proofs.ToldControls.{floors_are_by_calls, reporting_is_by_calls}
use Rattle.fed_logs.proofs.feeds.calls_report_controls.Goals as goal

pub returns-clause-floors : goal.returns-clause-floors
returns-clause-floors c = floors_are_by_calls

pub returns-clause-reporting : goal.returns-clause-reporting
returns-clause-reporting c = reporting_is_by_calls
