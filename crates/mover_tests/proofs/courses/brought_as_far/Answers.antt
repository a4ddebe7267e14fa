use Rattle.std.proofs.Common.{List, sym, subst, arith}
use Rattle.applier.proofs.Works.{none_lent_lent}
use Rattle.mover.specs.declared.lane.Lane.{Lane}
use Rattle.mover.specs.Rounds.{AreLanesOf}
use Rattle.xrc_session.proofs.JoinsLanes.{lanes_later}
use Rattle.mover_tests.specs.Courses.{AreAtLimit, MayGoTo}
use Rattle.mover_tests.proofs.Bringing.{goes_then}
use Rattle.mover_tests.proofs.Going.{taken_back}
use Rattle.mover_tests.proofs.courses.brought_as_far.Goals as goal

pub epoch-requires-clause-lanes : goal.epoch-requires-clause-lanes
epoch-requires-clause-lanes g c κs within =
    let course = c.args.course in
    subst (λ (lanes : List (Lane g.row.S.Denot)). AreLanesOf course.group c.args.limits.1.0 lanes) (sym c.as_mut_slice-all.ensures.value) (lanes_later course.lanes.items course.group c.args.limits.0.0 c.args.limits.1.0 c.requires.later c.requires.may.are)

pub returns-in-Reached-clause-there : goal.returns-in-Reached-clause-there
returns-in-Reached-clause-there g c =
    let r = c.in-Reached.ensures.reached in
    subst (λ (lanes : List (Lane g.row.S.Denot)). AreAtLimit c.args.limits.1.0 lanes c.in-Reached.group c.epoch.new.site)
    (sym (taken_back c.args.course.lanes.len c.args.course.lanes.items c.epoch.new.lanes (omega (arith, c.epoch.auto.lanes, c.as_mut_slice-all.ensures.len)))) (record { cut = r.cut; time = r.time.time; each = r.at_limit })

pub returns-in-Reached-clause-may : goal.returns-in-Reached-clause-may
returns-in-Reached-clause-may g c =
    let course = c.args.course in
    let is = c.in-Reached.ensures in
    subst (λ (lanes : List (Lane g.row.S.Denot)). MayGoTo g.P.Plant.tells c.args.limits.1.0 course.names lanes c.in-Reached.group c.epoch.new.site (g.P.Plant.state c.epoch.new.plant))
    (sym (taken_back course.lanes.len course.lanes.items c.epoch.new.lanes (omega (arith, c.epoch.auto.lanes, c.as_mut_slice-all.ensures.len))))
    (goes_then g.P.Plant.tells g.S.Source.left g.S.Source.faults c.args.limits.0.0 c.args.limits.1.0 course.names course.group c.in-Reached.group c.as_mut_slice-all.result.now c.epoch.new.lanes course.site c.epoch.new.site (g.P.Plant.state c.args.plant.now) (g.P.Plant.state c.epoch.new.plant)
    (subst (λ (lanes : List (Lane g.row.S.Denot)). MayGoTo g.P.Plant.tells c.args.limits.0.0 course.names lanes course.group course.site (g.P.Plant.state c.args.plant.now)) (sym c.as_mut_slice-all.ensures.value) c.requires.may) is.goes.ran is.reached is.works c.look_at_table.ensures)

pub returns-in-Store : goal.returns-in-Store
returns-in-Store g c = record { home = none_lent_lent g.P.Plant.tells _ _ _ c.epoch.ensures.works.others c.requires.may.may.rests.fast.fits.home; there = tt; may = tt; same = tt }
