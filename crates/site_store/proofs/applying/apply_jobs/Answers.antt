use Rattle.std.proofs.Common.{ℕ, ◌<◌, ◌&&◌, not, false, List, length, map, get_or, sym, ap, subst, ◌∙◌, arith}
use Rattle.xrc_journal.specs.declared.job.VolumeJob.{VolumeJob}
use Rattle.applier.proofs.Moving.{worked_on}
use Rattle.applier.proofs.Worked.{applied_worked}
use Rattle.site_store.specs.Applying.{AppliesToVolume}
use Rattle.site_store.specs.Jobs.{are_home_from, has_job_failed}
use Rattle.site_store.proofs.ItemTracks.{room_of}
use Rattle.site_store.proofs.LentJobs.{home_at}
use Rattle.site_store.proofs.LentSides.{Sides, applied_sides, count_again, have_slots, home_again, only_wanted}
use Rattle.site_store.proofs.applying.apply_jobs.Goals as goal

pub lend_all-requires-clause-there : goal.lend_all-requires-clause-there
lend_all-requires-clause-there g c κs within k d lt = omega (arith, (home_at 0 c.args.jobs.now c.requires.jobs k d lt).device, c.requires.volumes)

pub lend_all-requires-clause-apart : goal.lend_all-requires-clause-apart
lend_all-requires-clause-apart g c κs within i j d less lt same = omega (arith, (home_at 0 c.args.jobs.now c.requires.jobs i d (omega (arith, less, lt))).device, (home_at 0 c.args.jobs.now c.requires.jobs j d lt).device, same, less)

pub lend_all-requires-clause-idle : goal.lend_all-requires-clause-idle
lend_all-requires-clause-idle g c κs within k d lt = (home_at 0 c.args.jobs.now c.requires.jobs k d lt).idle

pub apply_body-requires-after_bounds : goal.apply_body-requires-after_bounds
apply_body-requires-after_bounds g c κs within =
    let tells = g.P.Plant.tells in
    let own = g.P.Volume.Disk.tells in
    let state = g.P.Volume.Disk.state in
    let start = g.P.Plant.state c.args.plant.now in
    let mid = g.P.Plant.state c.lend_all.new.plant in
    have_slots tells own state start mid c.args.jobs.now c.lend_all.new.jobs c.args.due.now (record { home = c.requires.jobs; same = c.lend_all.ensures.same; lends = c.lend_all.ensures.jobs; out = c.lend_all.ensures.out })
    c.args.body.now.items (λ d x has. room_of start d x c.args.body.now.items c.requires.items has) c.requires.due

pub give_back_all-requires-clause-out : goal.give_back_all-requires-clause-out
give_back_all-requires-clause-out g c κs within =
    let tells = g.P.Plant.tells in
    let own = g.P.Volume.Disk.tells in
    let state = g.P.Volume.Disk.state in
    let start = g.P.Plant.state c.args.plant.now in
    let mid = g.P.Plant.state c.lend_all.new.plant in
    let old = c.args.jobs.now in
    let lent = c.lend_all.new.jobs in
    let given = c.apply_body.new.jobs in
    (c.args.plant.now, lent, worked_on tells own state start mid lent lent given c.lend_all.ensures.out (applied_worked state own c.args.body.now.items lent given c.apply_body.ensures.same c.apply_body.ensures.each))

pub returns : goal.returns
returns g c =
    let tells = g.P.Plant.tells in
    let own = g.P.Volume.Disk.tells in
    let state = g.P.Volume.Disk.state in
    let start = g.P.Plant.state c.args.plant.now in
    let mid = g.P.Plant.state c.lend_all.new.plant in
    let old = c.args.jobs.now in
    let lent = c.lend_all.new.jobs in
    let given = c.apply_body.new.jobs in
    let end = g.P.Plant.state c.give_back_all.new.plant in
    let wanted = c.args.due.now in
    let items = c.args.body.now.items in
    let each = λ (i : ℕ) (d : VolumeJob _) (lt : i < length lent). c.apply_body.ensures.each i d lt in
    let worked = applied_worked state own items lent given c.apply_body.ensures.same each in
    let out = worked_on tells own state start mid lent lent given c.lend_all.ensures.out worked in
    let is = c.give_back_all.ensures.jobs in
    let s : Sides tells own state start mid end old lent given wanted = record {
      lent_first = record { home = c.requires.jobs; same = c.lend_all.ensures.same; lends = c.lend_all.ensures.jobs; out = c.lend_all.ensures.out };
      worked = worked;
      back = c.give_back_all.ensures.back c.args.plant.now lent out;
    } in
    record {
      jobs = ap (λ (l : List (VolumeJob _)). are_home_from 0 l) is ∙ home_again tells own state start mid end old lent given wanted s;
      applies = λ d lt.
          subst (λ (l : List (VolumeJob _)). let was = get_or (map has_job_failed old) d false in AppliesToVolume tells items (not was && get_or wanted d false) was (get_or (map has_job_failed l) d false) d start end) (sym is)
          (applied_sides tells own state start mid end old lent given wanted s items each d lt);
      same = ap length is ∙ count_again tells own state start mid end old lent given wanted s;
      home = c.give_back_all.ensures.home;
      only = only_wanted tells own state start mid end old lent given wanted s;
    }
