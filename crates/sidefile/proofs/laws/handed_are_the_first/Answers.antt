use Rattle.sidefile.proofs.HandLaws.{handed_first}
use Rattle.sidefile.proofs.laws.handed_are_the_first.Goals as goal

pub returns : goal.returns
returns c = handed_first
