use Rattle.xrc_session.proofs.JoinsLanes.{changes_stay, lanes_after}
use Rattle.xrc_session.proofs.joins.lanes_stand_after_changes.Goals as goal

pub returns-clause-stays : goal.returns-clause-stays
returns-clause-stays g c = changes_stay

pub returns-clause-lanes : goal.returns-clause-lanes
returns-clause-lanes g c = lanes_after c.args.lanes.now
