use Rattle.site_store.proofs.Timing.{never_fall}
use Rattle.site_store.proofs.deeds.times_never_fall.Goals as goal

pub returns : goal.returns
returns c = never_fall
