use Rattle.xrc_session.proofs.Labelled.{IsLabelled}
use Rattle.xrc_session.proofs.labels.name_devices.Given as goal

-- The volumes below this one were named by their labels.
abbrev pub invariant-loop-device : goal.invariant-loop-device
invariant-loop-device g l = IsLabelled g.P.Plant.tells (g.P.Plant.state l.initial.plant) (g.P.Plant.state l.plant) l.initial.names l.names l.device
