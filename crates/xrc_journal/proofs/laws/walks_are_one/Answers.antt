use Rattle.xrc_journal.proofs.Walking.{walks_one}
use Rattle.xrc_journal.proofs.laws.walks_are_one.Goals as goal

pub returns : goal.returns
returns c = walks_one
