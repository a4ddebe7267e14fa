use Rattle.std.proofs.Common.{arith}
use Rattle.xrc_session.proofs.Labelled.{labelled_all, labelled_next, labelled_none, stay_next, works_next}
use Rattle.xrc_session.proofs.labels.name_devices.Goals as goal

pub returns-in_err-name_device-clause-stay : goal.returns-in_err-name_device-clause-stay
returns-in_err-name_device-clause-stay g c =
    let before = c.loop-device in
    stay_next g.P.Plant.tells (g.P.Plant.state c.args.plant.now) (g.P.Plant.state before.plant) (g.P.Plant.state c.name_device.new.plant) c.args.names.now before.names before.device before.invariant c.name_device.ensures.stay c.name_device.ensures.only

pub returns-in_err-name_device-clause-only : goal.returns-in_err-name_device-clause-only
returns-in_err-name_device-clause-only g c =
    let before = c.loop-device in
    works_next g.P.Plant.tells (g.P.Plant.state c.args.plant.now) (g.P.Plant.state before.plant) (g.P.Plant.state c.name_device.new.plant) c.args.names.now before.names before.device before.invariant c.name_device.ensures.stay c.name_device.ensures.only

pub loop-device-init : goal.loop-device-init
loop-device-init g c = labelled_none g.P.Plant.tells (g.P.Plant.state c.args.plant.now) c.args.names.now c.requires.none

pub loop-device-preserved : goal.loop-device-preserved
loop-device-preserved g c =
    let before = c.loop-device in
    labelled_next g.P.Plant.tells (g.P.Plant.state c.args.plant.now) (g.P.Plant.state before.plant) (g.P.Plant.state c.name_device.new.plant) c.args.names.now before.names before.device before.invariant c.name_device.ensures.stay c.name_device.ensures.only
    c.name_device.new.names c.name_device.ensures.fit c.in_ok-name_device.ensures.others c.in_ok-name_device.ensures.label

pub returns-clause-labels : goal.returns-clause-labels
returns-clause-labels g c =
    labelled_all g.P.Plant.tells (g.P.Plant.state c.args.plant.now) (g.P.Plant.state c.loop-device.plant) c.args.names.now c.loop-device.names c.loop-device.device (omega (arith, c.loop-device-test.false, c.volumes-device-end.ensures)) c.loop-device.invariant
