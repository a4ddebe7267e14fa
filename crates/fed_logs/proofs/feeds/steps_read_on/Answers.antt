use Rattle.fed_logs.proofs.Stepping.{steps_read_on}
use Rattle.fed_logs.proofs.feeds.steps_read_on.Goals as goal

pub returns : goal.returns
returns c = steps_read_on
