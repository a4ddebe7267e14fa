use Rattle.xrc_command.proofs.LineReading.{lines_read}
use Rattle.xrc_command.proofs.laws.lines_are_read.Goals as goal

pub returns : goal.returns
returns c = lines_read
