use Rattle.primary_ctl.proofs.Batches.{batches_make}
use Rattle.primary_ctl.proofs.laws.batches_make_the_primary.Goals as goal

pub returns : goal.returns
returns c = batches_make
