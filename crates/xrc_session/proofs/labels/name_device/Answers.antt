use Rattle.std.proofs.Common.{rules, ◌∙◌, sym}
use Rattle.xrc_session.proofs.Labelled.{labels_fit_more, names_its, names_none, stay_by_read}
use Rattle.xrc_session.proofs.labels.name_device.Goals as goal

pub returns-in-Ok-Some-clause-label : goal.returns-in-Ok-Some-clause-label
returns-in-Ok-Some-clause-label g c told =
    names_its c.label.result (g.P.Plant.state c.args.plant.now) (g.P.Plant.state c.read_label.new.plant) c.args.device c.args.names.now c.label.new.self c.in-Ok-Some.label (sym (c.in-Ok-Some.ensures.label told) ∙ c.in-Ok-Some.field-0-is) c.in-Ok-Some.ensures.cause.ok c.label.ensures.ok

pub returns-in-Ok-Some-clause-fit : goal.returns-in-Ok-Some-clause-fit
returns-in-Ok-Some-clause-fit g c =
    let old = g.P.Plant.state c.args.plant.now in
    let new = g.P.Plant.state c.read_label.new.plant in
    let l = c.in-Ok-Some.label in
    labels_fit_more c.label.result old new c.args.names.now c.label.new.self (record { device = c.args.device; serial = l.serial; cylinders = l.cylinders }) c.read_label.ensures.only.site c.requires.there (rw c.in-Ok-Some.field-0-is at c.in-Ok-Some.ensures.room) c.requires.fit c.label.ensures.ok c.label.ensures.err

pub returns-in-Ok-Some-clause-stay : goal.returns-in-Ok-Some-clause-stay
returns-in-Ok-Some-clause-stay g c =
    stay_by_read g.P.Plant.tells c.args.device (g.P.Plant.state c.args.plant.now) (g.P.Plant.state c.read_label.new.plant) c.read_label.ensures.same c.read_label.ensures.moments c.read_label.ensures.only

pub returns-in-Ok-None-clause-label : goal.returns-in-Ok-None-clause-label
returns-in-Ok-None-clause-label g c told = names_none (g.P.Plant.state c.args.plant.now) (g.P.Plant.state c.read_label.new.plant) c.args.device c.args.names.now (search rules)

pub returns-in-Ok-None-clause-stay : goal.returns-in-Ok-None-clause-stay
returns-in-Ok-None-clause-stay g c =
    stay_by_read g.P.Plant.tells c.args.device (g.P.Plant.state c.args.plant.now) (g.P.Plant.state c.read_label.new.plant) c.read_label.ensures.same c.read_label.ensures.moments c.read_label.ensures.only

pub returns-in-Ok-None-2-clause-label : goal.returns-in-Ok-None-2-clause-label
returns-in-Ok-None-2-clause-label g c told = names_none (g.P.Plant.state c.args.plant.now) (g.P.Plant.state c.read_label.new.plant) c.args.device c.args.names.now (search rules)

pub returns-in-Ok-None-2-clause-stay : goal.returns-in-Ok-None-2-clause-stay
returns-in-Ok-None-2-clause-stay g c =
    stay_by_read g.P.Plant.tells c.args.device (g.P.Plant.state c.args.plant.now) (g.P.Plant.state c.read_label.new.plant) c.read_label.ensures.same c.read_label.ensures.moments c.read_label.ensures.only
