use Rattle.std.proofs.Common.{◌∙◌, Option, sym, ap}
use Rattle.crash_plant.specs.declared.device.Device.TheVariants.{Volume}
use Rattle.volume_label.specs.declared.label.Label.{Label}
use Rattle.third_copy.specs.Targets.{by_label}
use Rattle.third_copy.proofs.Labels.{long_found, works_reading}
use Rattle.third_copy.proofs.targets.read_target.Goals as goal

pub returns-in-Ok-clause-works : goal.returns-in-Ok-clause-works
returns-in-Ok-clause-works g c = works_reading g.P.Plant.tells c.args.device (g.P.Plant.state c.args.plant.now) (g.P.Plant.state c.read_label.new.plant) c.read_label.ensures.only c.read_label.ensures.same c.read_label.ensures.moments

pub returns-in-Err-clause-works : goal.returns-in-Err-clause-works
returns-in-Err-clause-works g c = works_reading g.P.Plant.tells c.args.device (g.P.Plant.state c.args.plant.now) (g.P.Plant.state c.read_label.new.plant) c.read_label.ensures.only c.read_label.ensures.same c.read_label.ensures.moments

pub returns-in-Ok-clause-found : goal.returns-in-Ok-clause-found
returns-in-Ok-clause-found g c is = long_found ((g.P.Plant.state c.args.plant.now).lengths (Volume c.args.device)) c.args.cylinders c.in-Ok.label c.in-Ok.ensures.room (sym c.by_label.ensures ∙ is)

pub returns-in-Ok-clause-told : goal.returns-in-Ok-clause-told
returns-in-Ok-clause-told g c told read = c.by_label.ensures ∙ ap (λ (l : Option Label). by_label l c.args.cylinders) (c.in-Ok.ensures.label told)
