use Rattle.site_store.proofs.RingPlants.{switched_group_meant, switched_group_shown}
use Rattle.site_store.proofs.ring.switched_groups_are_meant.Goals as goal

pub returns-clause-shown : goal.returns-clause-shown
returns-clause-shown g c = switched_group_shown (g.P.Plant.state c.args.old.now) (g.P.Plant.state c.args.mid.now) (g.P.Plant.state c.args.new.now)

pub returns-clause-meant : goal.returns-clause-meant
returns-clause-meant g c = switched_group_meant (g.P.Plant.state c.args.old.now) (g.P.Plant.state c.args.mid.now) (g.P.Plant.state c.args.new.now)
