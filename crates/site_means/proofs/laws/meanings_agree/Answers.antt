use Rattle.site_means.proofs.Agreeing.{meanings_agree}
use Rattle.site_means.proofs.laws.meanings_agree.Goals as goal

pub returns : goal.returns
returns c = meanings_agree
