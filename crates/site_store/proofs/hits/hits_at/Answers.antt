use Rattle.std.proofs.Common.{[]}
use Rattle.site_store.proofs.hits.hits_at.Goals as goal

pub returns-clause-hits : goal.returns-clause-hits
returns-clause-hits g c = c.hits_after_mark.ensures.hits [] c.no_devices-none.ensures
