use Rattle.xrc_session.proofs.MapsOwed.{maps_owed_after_logs}
use Rattle.xrc_session.proofs.maps.maps_are_owed_after_logs.Goals as goal

pub returns : goal.returns
returns c = maps_owed_after_logs
