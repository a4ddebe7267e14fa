use Rattle.xrc_session.proofs.MapsKeeps.{calls_keep_maps, new_groups_keep_maps}
use Rattle.xrc_session.proofs.maps.calls_keep_maps.Goals as goal

pub returns-clause-first : goal.returns-clause-first
returns-clause-first c = new_groups_keep_maps

pub returns-clause-calls : goal.returns-clause-calls
returns-clause-calls c = calls_keep_maps
