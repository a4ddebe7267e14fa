use Rattle.site_store.proofs.RingPlants.{switch_durable, switch_meant, switch_shown}
use Rattle.site_store.proofs.ring.switches_mean_the_same.Goals as goal

pub returns-clause-shown : goal.returns-clause-shown
returns-clause-shown g c = switch_shown (g.P.Plant.state c.args.old.now) (g.P.Plant.state c.args.new.now)

pub returns-clause-meant : goal.returns-clause-meant
returns-clause-meant g c = switch_meant (g.P.Plant.state c.args.old.now) (g.P.Plant.state c.args.new.now)

pub returns-clause-durable : goal.returns-clause-durable
returns-clause-durable g c = switch_durable g.P.Plant.tells (g.P.Plant.state c.args.old.now) (g.P.Plant.state c.args.new.now)
