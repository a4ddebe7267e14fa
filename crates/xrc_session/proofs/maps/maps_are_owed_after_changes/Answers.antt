use Rattle.xrc_session.proofs.MapsChanges.{maps_owed_after_changes}
use Rattle.xrc_session.proofs.maps.maps_are_owed_after_changes.Goals as goal

pub returns : goal.returns
returns c = maps_owed_after_changes
