use Rattle.mover.proofs.Bearing.{seen_deeds_bear, seen_deeds_show_points}
use Rattle.mover.proofs.borne.seen_deeds_bear.Goals as goal

pub returns-clause-shows : goal.returns-clause-shows
returns-clause-shows g c = seen_deeds_show_points (g.P.Plant.state c.args.start.now)

pub returns-clause-bears : goal.returns-clause-bears
returns-clause-bears g c = seen_deeds_bear (g.P.Plant.state c.args.start.now)
