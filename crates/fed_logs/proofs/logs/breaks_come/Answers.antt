use Rattle.fed_logs.proofs.Breaking.{breaks_come}
use Rattle.fed_logs.proofs.logs.breaks_come.Goals as goal

pub returns : goal.returns
returns c = breaks_come
