use Rattle.site_store.proofs.DeedChanges.{are_changes}
use Rattle.site_store.proofs.deeds.deeds_are_changes.Goals as goal

pub returns : goal.returns
returns c = are_changes
