use Rattle.xrc_session.proofs.MapsBegins.{maps_begin}
use Rattle.xrc_session.proofs.MapsLogs.{maps_are_whole, maps_grow}
use Rattle.xrc_session.proofs.maps.maps_follow_traces.Goals as goal

pub returns-clause-grow : goal.returns-clause-grow
returns-clause-grow c = maps_grow

pub returns-clause-whole : goal.returns-clause-whole
returns-clause-whole c = maps_are_whole

pub returns-clause-begin : goal.returns-clause-begin
returns-clause-begin c = maps_begin
