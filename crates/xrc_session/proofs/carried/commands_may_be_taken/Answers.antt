use Rattle.xrc_session.proofs.Commanded.{commands_may_be_taken}
use Rattle.xrc_session.proofs.carried.commands_may_be_taken.Goals as goal

pub returns : goal.returns
returns c = commands_may_be_taken
