use Rattle.site_store.proofs.RingPlants.{group_durable, group_meant, group_shown}
use Rattle.site_store.proofs.ring.groups_are_meant.Goals as goal

pub returns-clause-shown : goal.returns-clause-shown
returns-clause-shown g c = group_shown (g.P.Plant.state c.args.old.now) (g.P.Plant.state c.args.new.now)

pub returns-clause-meant : goal.returns-clause-meant
returns-clause-meant g c = group_meant (g.P.Plant.state c.args.old.now) (g.P.Plant.state c.args.new.now)

pub returns-clause-durable : goal.returns-clause-durable
returns-clause-durable g c = group_durable g.P.Plant.tells (g.P.Plant.state c.args.old.now) (g.P.Plant.state c.args.new.now)
