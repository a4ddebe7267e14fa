use Rattle.std.proofs.Common.{List, sym, ap, subst, ◌∙◌, arith}
use Rattle.xrc_journal.specs.declared.job.VolumeJob.{VolumeJob}
use Rattle.xrc_journal.specs.Items.{none_earlier}
use Rattle.applier.proofs.Moving.{worked_on}
use Rattle.applier.proofs.Worked.{applied_worked}
use Rattle.xrecover.specs.SideVolumes.{AppliesSides, AreHome, is_left}
use Rattle.xrecover.proofs.LentSides.{Lent, Sides, applies_sides, counts_stay, have_slots, home_again, left_before, live_content}
use Rattle.xrecover.proofs.Relations.{items_within}
use Rattle.xrecover.proofs.sides.apply_record.Goals as goal

pub lend_all-requires-clause-there : goal.lend_all-requires-clause-there
lend_all-requires-clause-there g c κs within k d lt = omega (arith, c.requires.jobs.device k d lt, lt, c.requires.jobs.count)

pub lend_all-requires-clause-apart : goal.lend_all-requires-clause-apart
lend_all-requires-clause-apart g c κs within i j d less lt same = omega (arith, c.requires.jobs.device i d (omega (arith, less, lt)), c.requires.jobs.device j d lt, same, less)

pub lend_all-requires-clause-idle : goal.lend_all-requires-clause-idle
lend_all-requires-clause-idle g c κs within k d lt = c.requires.jobs.idle k d lt

pub apply_body-requires-after_bounds : goal.apply_body-requires-after_bounds
apply_body-requires-after_bounds g c κs within =
    let start = g.P.Plant.state c.args.plant.now in
    let l : Lent g.P.Plant.tells g.P.Volume.Disk.tells g.P.Volume.Disk.state start (g.P.Plant.state c.lend_all.new.plant) c.args.jobs.now c.lend_all.new.jobs c.args.lent.now =
    record { home = c.requires.jobs; set = c.requires.lent; same = c.lend_all.ensures.same; lends = c.lend_all.ensures.jobs; out = c.lend_all.ensures.out } in
    have_slots g.P.Plant.tells g.P.Volume.Disk.tells g.P.Volume.Disk.state start (g.P.Plant.state c.lend_all.new.plant) c.args.jobs.now c.lend_all.new.jobs c.args.lent.now l
    c.args.body.now.items (λ d x has. items_within start d x none_earlier c.args.body.now.items c.requires.items has)

pub give_back_all-requires-clause-out : goal.give_back_all-requires-clause-out
give_back_all-requires-clause-out g c κs within =
    let own = g.P.Volume.Disk.tells in
    let state = g.P.Volume.Disk.state in
    let lent = c.lend_all.new.jobs in
    let given = c.apply_body.new.jobs in
    (c.args.plant.now, lent, worked_on g.P.Plant.tells own state (g.P.Plant.state c.args.plant.now) (g.P.Plant.state c.lend_all.new.plant) lent lent given c.lend_all.ensures.out (applied_worked state own c.args.body.now.items lent given c.apply_body.ensures.same c.apply_body.ensures.each))

pub returns : goal.returns
returns g c =
    let tells = g.P.Plant.tells in
    let own = g.P.Volume.Disk.tells in
    let state = g.P.Volume.Disk.state in
    let start = g.P.Plant.state c.args.plant.now in
    let mid = g.P.Plant.state c.lend_all.new.plant in
    let end = g.P.Plant.state c.give_back_all.new.plant in
    let old = c.args.jobs.now in
    let lent = c.lend_all.new.jobs in
    let given = c.apply_body.new.jobs in
    let flags = c.args.lent.now in
    let items = c.args.body.now.items in
    let worked = applied_worked state own items lent given c.apply_body.ensures.same c.apply_body.ensures.each in
    let out = worked_on tells own state start mid lent lent given c.lend_all.ensures.out worked in
    let is = c.give_back_all.ensures.jobs in
    let s : Sides tells own state start mid end old lent given flags items = record {
      first = record { home = c.requires.jobs; set = c.requires.lent; same = c.lend_all.ensures.same; lends = c.lend_all.ensures.jobs; out = c.lend_all.ensures.out };
      worked = worked;
      back = c.give_back_all.ensures.back c.args.plant.now lent out;
      each = λ i d lt. c.apply_body.ensures.each i d lt;
    } in
    record {
      jobs = subst (λ (l : List (VolumeJob _)). AreHome end.volumes l) (sym is) (home_again tells own state start mid end old lent given flags items s);
      applies = subst (λ (l : List (VolumeJob _)). AppliesSides tells items (is_left old) (is_left l) start end) (sym is) (applies_sides tells own state start mid end old lent given flags items s (λ none. c.give_back_all.ensures.home));
      content = λ told v fine.
          let now = ap (λ (l : List (VolumeJob _)). is_left l v) (sym is) ∙ fine in
          live_content tells own state start mid end old lent given flags items s v (left_before tells own state start mid end old lent given flags items s v now) told now;
      counts = counts_stay tells own state start mid end old lent given flags items s;
    }
