use Rattle.xrc_session.proofs.MapsEpochs.{maps_owed_after_epochs}
use Rattle.xrc_session.proofs.maps.maps_are_owed_after_epochs.Goals as goal

pub returns : goal.returns
returns g c = maps_owed_after_epochs g.P.Plant.tells g.S.Source.left g.S.Source.faults (g.P.Plant.state c.args.old.now) (g.P.Plant.state c.args.new.now)
