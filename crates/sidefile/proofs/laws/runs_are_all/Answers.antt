use Rattle.sidefile.proofs.RunLaws.{runs_are_all}
use Rattle.sidefile.proofs.laws.runs_are_all.Goals as goal

pub returns : goal.returns
returns c = runs_are_all
