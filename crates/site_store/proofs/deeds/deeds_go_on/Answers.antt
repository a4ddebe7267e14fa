use Rattle.site_store.proofs.Composing.{begin_after, go_on, sights_compose}
use Rattle.site_store.proofs.deeds.deeds_go_on.Goals as goal

pub returns-clause-sights : goal.returns-clause-sights
returns-clause-sights g c = sights_compose (g.P.Plant.state c.args.old.now) (g.P.Plant.state c.args.mid.now)

pub returns-clause-done : goal.returns-clause-done
returns-clause-done g c = go_on (g.P.Plant.state c.args.old.now) (g.P.Plant.state c.args.mid.now) (g.P.Plant.state c.args.new.now)

pub returns-clause-begun : goal.returns-clause-begun
returns-clause-begun g c = begin_after (g.P.Plant.state c.args.old.now) (g.P.Plant.state c.args.mid.now) (g.P.Plant.state c.args.new.now)
