use Rattle.std.proofs.Common.{◌<◌, ◌∙◌, length, get_or, sym, ap, arith}
use Rattle.std.proofs.lemmas.List.{length-map}
use Rattle.site_store.specs.Jobs.{has_job_failed}
use Rattle.xrc_journal.specs.declared.job.VolumeJob.{VolumeJob}
use Rattle.site_store.proofs.HomeJobs.{job_at}
use Rattle.site_store.proofs.Syncs.{one_sync, synced_job, synced_none}
use Rattle.site_store.proofs.syncing.sync_in_turn.Goals as goal

pub loop-place-init : goal.loop-place-init
loop-place-init g c = synced_none g.P.Plant.tells c.args.written.now c.args.jobs.now (g.P.Plant.state c.args.plant.now) c.requires.jobs

pub loop-place-preserved : goal.loop-place-preserved
loop-place-preserved g c =
    let jobs = c.loop-place.jobs in
    let i = c.loop-place.place in
    let was = get_or jobs i c.index-jobs-place.result in
    let lt : i < length jobs = omega (arith, c.loop-place-test.true, c.loop-place.auto.jobs) in
    let own = (job_at 0 jobs i c.index-jobs-place.result c.loop-place.invariant.home lt).0 in
    let one = one_sync g.P.Plant.tells c.args.written.now i was c.sync_one.new.job (g.P.Plant.state c.loop-place.plant) (g.P.Plant.state c.sync_one.new.plant) (omega (arith, own)) c.sync_one.ensures.job c.sync_one.ensures.syncs c.sync_one.ensures.durable c.sync_one.ensures.cause in
    synced_job g.P.Plant.tells c.args.written.now c.args.jobs.now jobs i (g.P.Plant.state c.args.plant.now) (g.P.Plant.state c.loop-place.plant) (g.P.Plant.state c.sync_one.new.plant) c.loop-place.invariant was c.sync_one.new.job
    (ap (λ (j : VolumeJob _). get_or jobs i j) (sym c.index-jobs-place.is)) lt one

pub sync_one-requires-after_bounds : goal.sync_one-requires-after_bounds
sync_one-requires-after_bounds g c κs within =
    let jobs = c.loop-place.jobs in
    let i = c.loop-place.place in
    let inv = c.loop-place.invariant in
    let d = (get_or jobs i c.index-jobs-place.result).device in
    let own = (job_at 0 jobs i c.index-jobs-place.result inv.home (omega (arith, c.loop-place-test.true, c.loop-place.auto.jobs))).0 in
    let low : d < (g.P.Plant.state c.args.plant.now).volumes = omega (arith, own, c.loop-place-test.true, c.requires.volumes) in
    (omega (arith, low, inv.syncs.only.site.volumes), (inv.syncs.only.loans d).is_lent ∙ c.requires.home d low)

pub returns-clause-failed : goal.returns-clause-failed
returns-clause-failed g c =
    let inv = c.loop-place.invariant in
    let first = c.args.jobs.now in
    let size = length-map first has_job_failed in
    record {
      size = omega (arith, length-map c.loop-place.jobs has_job_failed, size, inv.size);
      alone = λ d lt is. (inv.done d (omega (arith, lt, size, c.loop-place-test.false, inv.size))).alone is;
      by_count = λ d lt is. (inv.done d (omega (arith, lt, size, c.loop-place-test.false, inv.size))).by_count is;
    }
