use Rattle.xrc_command.proofs.LineReading.{told_apart}
use Rattle.xrc_command.proofs.laws.lines_are_told_apart.Goals as goal

pub returns : goal.returns
returns c = told_apart
