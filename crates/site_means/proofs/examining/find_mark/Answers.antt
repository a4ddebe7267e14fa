use Rattle.std.proofs.Common.{Option, IfSome, subst}
use Rattle.control_set.specs.declared.value.Mark.{Mark}
use Rattle.control_set.specs.Marks.{IsMark}
use Rattle.control_set.specs.Slots.{lengths_of}
use Rattle.site_means.proofs.Meanings.{has_spot}
use Rattle.crash_plant.specs.declared.device.Device.TheVariants.{Control}
use Rattle.site_means.proofs.ReadAll.{reads_one}
use Rattle.site_means.proofs.examining.find_mark.Goals as goal

pub returns-in-Ok-Some-clause-others : goal.returns-in-Ok-Some-clause-others
returns-in-Ok-Some-clause-others g c = reads_one g.P.Plant.tells Control _ _ tt c.choose.ensures.same c.choose.ensures.moments c.choose.ensures.others

pub returns-in-Ok-None-clause-others : goal.returns-in-Ok-None-clause-others
returns-in-Ok-None-clause-others g c = reads_one g.P.Plant.tells Control _ _ tt c.choose.ensures.same c.choose.ensures.moments c.choose.ensures.others

pub returns-in-Err-Damaged-clause-others : goal.returns-in-Err-Damaged-clause-others
returns-in-Err-Damaged-clause-others g c = reads_one g.P.Plant.tells Control _ _ tt c.choose.ensures.same c.choose.ensures.moments c.choose.ensures.others

pub returns-in-Err-Fault-clause-others : goal.returns-in-Err-Fault-clause-others
returns-in-Err-Fault-clause-others g c = reads_one g.P.Plant.tells Control _ _ tt c.choose.ensures.same c.choose.ensures.moments c.choose.ensures.others

pub returns-in-Ok-Some-clause-spot : goal.returns-in-Ok-Some-clause-spot
returns-in-Ok-Some-clause-spot g c =
    let old = g.P.Plant.state c.args.plant.now in
    has_spot old c.in-Ok-Some.mark (subst (λ (o : Option Mark). IfSome o (IsMark (lengths_of old))) c.in-Ok-Some.field-0-is c.in-Ok-Some.ensures.keeps)
