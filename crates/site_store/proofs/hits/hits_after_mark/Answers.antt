use Rattle.std.proofs.Common.{length, map, refl}
use Rattle.record_rows.specs.Hits.{hit_now}
use Rattle.site_store.specs.Jobs.{has_job_failed}
use Rattle.site_store.proofs.Below.{below_more}
use Rattle.site_store.proofs.hits.hits_after_mark.Goals as goal

pub reached_devices-reached-requires : goal.reached_devices-reached-requires
reached_devices-reached-requires g c = below_more (length c.args.jobs.now) 64 c.args.table.now.rows c.requires.few c.requires.below

pub returns-clause-hits : goal.returns-clause-hits
returns-clause-hits g c was marked =
    let hit = hit_now (map has_job_failed c.args.jobs.now) c.args.table.now.rows in
    record {
      devices = c.hit_devices-hit.ensures.hit.flags;
      reached = c.reached_devices-reached.ensures was hit marked c.hit_devices-hit.ensures.hit;
      cause_is = c.reach_cause-cause.ensures c.args.table.now.rows;
      time_is = refl;
    }
