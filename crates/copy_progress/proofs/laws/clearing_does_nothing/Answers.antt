use Rattle.copy_progress.proofs.Telling.{clearing}
use Rattle.copy_progress.proofs.laws.clearing_does_nothing.Goals as goal

pub returns : goal.returns
returns c = clearing
