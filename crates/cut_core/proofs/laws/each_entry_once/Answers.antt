use Rattle.cut_core.proofs.Once.{each_once as proof}
use Rattle.cut_core.proofs.laws.each_entry_once.Goals as goal

pub returns : goal.returns
returns c = proof
