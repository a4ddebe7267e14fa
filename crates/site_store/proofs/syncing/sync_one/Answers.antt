use Rattle.std.proofs.Common.{refl}
use Rattle.crash_plant.specs.declared.device.Device.TheVariants.{Volume}
use Rattle.site_store.proofs.Syncs.{syncs_one}
use Rattle.site_store.proofs.syncing.sync_one.Goals as goal

pub returns-then-not-job-clause-syncs : goal.returns-then-not-job-clause-syncs
returns-then-not-job-clause-syncs g c = syncs_one g.P.Plant.tells _ (Volume c.args.job.now.device) _ _ (refl, c.if-is_written.true) c.sync.ensures.same c.sync.ensures.moments c.sync.ensures.only
