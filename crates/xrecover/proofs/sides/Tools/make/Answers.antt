use Rattle.std.proofs.Common.{◌≡◌, ◌<◌, ℕ, not, arith, rules, subst}
use Rattle.std.specs.List.{list_any}
use Rattle.xrecover.specs.Pairs.{is_duplex_of}
use Rattle.xrecover.specs.SideVolumes.{AreHome, is_left}
use Rattle.xrecover.proofs.LentSides.{are_set, duplex_live, others_left}
use Rattle.xrecover.proofs.sides.Tools.make.Goals as goal

pub returns : goal.returns
returns g c =
    let plant = g.P.Plant.state c.args.plant.now in
    let rows = c.args.table.now.rows in
    let jobs = c.in_ok-jobs.jobs.items in
    let volumes = c.volumes.ensures in
    let home : AreHome plant.volumes jobs = subst (λ (n : ℕ). AreHome n jobs) volumes c.in_ok-jobs.ensures.home in
    let left : (v : ℕ) → v < plant.volumes → is_left jobs v ≡ not (list_any (is_duplex_of v) rows) = λ v lt. c.in_ok-jobs.ensures.left c.len.ensures.rules v (omega (arith, lt, volumes)) in
    record {
      room = λ j lt. let held : c.in_ok-body.body.room ≡ c.longest_body.result = search rules in omega (arith, c.longest_body.ensures.room j lt, held);
      jobs = home;
      lent = are_set plant.volumes c.in_ok-lent.lent.items (search rules);
      duplex = duplex_live plant.volumes rows jobs home left c.requires.below;
      others = others_left plant.volumes rows jobs home left;
      empty = c.in_ok-failed.ensures.items;
      places = omega (arith, c.in_ok-failed.ensures.capacity, c.len.ensures.count, c.from-2.ensures);
    }
