use Rattle.sidefile.proofs.HandLaws.{breaks_are}
use Rattle.sidefile.proofs.laws.breaks_are_the_break.Goals as goal

pub returns : goal.returns
returns c = breaks_are
