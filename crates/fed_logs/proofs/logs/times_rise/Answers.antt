use Rattle.fed_logs.proofs.Rising.{times_rise}
use Rattle.fed_logs.proofs.logs.times_rise.Goals as goal

pub returns : goal.returns
returns c = times_rise
