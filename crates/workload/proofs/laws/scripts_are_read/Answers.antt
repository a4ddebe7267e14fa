use Rattle.std.proofs.Common.{refl}
use Rattle.workload.proofs.Lines.{lines_are_read}
use Rattle.workload.proofs.laws.scripts_are_read.Goals as goal

pub returns : goal.returns
returns c = (lines_are_read, refl)
