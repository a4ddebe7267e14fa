use Rattle.fed_logs.proofs.Keeping.{steps_keep}
use Rattle.fed_logs.proofs.told.steps_keep_told.Goals as goal

pub returns : goal.returns
returns c = steps_keep
