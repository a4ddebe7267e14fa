use Rattle.fed_logs.proofs.Keeping.{done_is_told}
use Rattle.fed_logs.proofs.told.done_is_told.Goals as goal

pub returns : goal.returns
returns c = done_is_told
