use Rattle.std.proofs.Common.{ℕ, ◌<◌, false, List, length, map, get_or, sym, ap, subst, ◌∙◌, arith}
use Rattle.xrc_journal.specs.declared.job.VolumeJob.{VolumeJob}
use Rattle.applier.proofs.Moving.{worked_on}
use Rattle.applier.proofs.Worked.{synced_worked}
use Rattle.site_store.specs.Causes.{FailByCounts}
use Rattle.site_store.specs.Jobs.{are_home_from, has_job_failed}
use Rattle.site_store.proofs.LentJobs.{home_at}
use Rattle.site_store.proofs.LentSides.{Sides, flag_there, home_again, only_wanted, syncs_durable, syncs_fail, syncs_read}
use Rattle.site_store.proofs.syncing.sync_written.Goals as goal

pub lend_all-requires-clause-there : goal.lend_all-requires-clause-there
lend_all-requires-clause-there g c κs within k d lt = omega (arith, (home_at 0 c.args.jobs.now c.requires.jobs k d lt).device, c.requires.volumes)

pub lend_all-requires-clause-apart : goal.lend_all-requires-clause-apart
lend_all-requires-clause-apart g c κs within i j d less lt same = omega (arith, (home_at 0 c.args.jobs.now c.requires.jobs i d (omega (arith, less, lt))).device, (home_at 0 c.args.jobs.now c.requires.jobs j d lt).device, same, less)

pub lend_all-requires-clause-idle : goal.lend_all-requires-clause-idle
lend_all-requires-clause-idle g c κs within k d lt = (home_at 0 c.args.jobs.now c.requires.jobs k d lt).idle

pub give_back_all-requires-clause-out : goal.give_back_all-requires-clause-out
give_back_all-requires-clause-out g c κs within =
    let tells = g.P.Plant.tells in
    let own = g.P.Volume.Disk.tells in
    let state = g.P.Volume.Disk.state in
    let start = g.P.Plant.state c.args.plant.now in
    let mid = g.P.Plant.state c.lend_all.new.plant in
    let old = c.args.jobs.now in
    let lent = c.lend_all.new.jobs in
    let given = c.sync_some.new.jobs in
    (c.args.plant.now, lent, worked_on tells own state start mid lent lent given c.lend_all.ensures.out (synced_worked state own lent given c.sync_some.ensures.same c.sync_some.ensures.each))

pub returns : goal.returns
returns g c =
    let tells = g.P.Plant.tells in
    let own = g.P.Volume.Disk.tells in
    let state = g.P.Volume.Disk.state in
    let start = g.P.Plant.state c.args.plant.now in
    let mid = g.P.Plant.state c.lend_all.new.plant in
    let old = c.args.jobs.now in
    let lent = c.lend_all.new.jobs in
    let given = c.sync_some.new.jobs in
    let end = g.P.Plant.state c.give_back_all.new.plant in
    let wanted = c.args.written.now in
    let each = λ (i : ℕ) (d : VolumeJob _) (lt : i < length lent). c.sync_some.ensures.each i d lt in
    let worked = synced_worked state own lent given c.sync_some.ensures.same each in
    let out = worked_on tells own state start mid lent lent given c.lend_all.ensures.out worked in
    let is = c.give_back_all.ensures.jobs in
    let s : Sides tells own state start mid end old lent given wanted = record {
      lent_first = record { home = c.requires.jobs; same = c.lend_all.ensures.same; lends = c.lend_all.ensures.jobs; out = c.lend_all.ensures.out };
      worked = worked;
      back = c.give_back_all.ensures.back c.args.plant.now lent out;
    } in
    record {
      jobs = ap (λ (l : List (VolumeJob _)). are_home_from 0 l) is ∙ home_again tells own state start mid end old lent given wanted s;
      syncs = c.give_back_all.ensures.read c.args.plant.now lent out (syncs_read tells own state start mid end old lent given wanted s each);
      durable = λ told d marked fine.
          syncs_durable tells own state start mid end old lent given wanted s each told d (omega (arith, flag_there wanted d marked, c.requires.flags, c.lend_all.ensures.same)) marked
          (ap (λ (l : List (VolumeJob _)). get_or (map has_job_failed l) d false) (sym is) ∙ fine);
      failed = subst (λ (l : List (VolumeJob _)). FailByCounts (map has_job_failed old) (map has_job_failed l) start.faults end.faults) (sym is) (syncs_fail tells own state start mid end old lent given wanted s each);
      home = c.give_back_all.ensures.home;
      only = only_wanted tells own state start mid end old lent given wanted s;
    }
