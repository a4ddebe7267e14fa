use Rattle.fed_logs.proofs.Writes.{fed_report_truth}
use Rattle.fed_logs.proofs.Bearing.{logs_bear, reached_holds}
use Rattle.fed_logs.proofs.logs.logs_bear.Goals as goal

pub returns-clause-fed : goal.returns-clause-fed
returns-clause-fed c = fed_report_truth

pub returns-clause-bear : goal.returns-clause-bear
returns-clause-bear c = logs_bear

pub returns-clause-reached : goal.returns-clause-reached
returns-clause-reached c = reached_holds
