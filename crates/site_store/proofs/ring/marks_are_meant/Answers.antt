use Rattle.site_store.proofs.RingPlants.{mark_meant, mark_shown, sets_stay}
use Rattle.site_store.proofs.ring.marks_are_meant.Goals as goal

pub returns-clause-shown : goal.returns-clause-shown
returns-clause-shown g c = mark_shown (g.P.Plant.state c.args.old.now) (g.P.Plant.state c.args.new.now)

pub returns-clause-meant : goal.returns-clause-meant
returns-clause-meant g c = mark_meant (g.P.Plant.state c.args.old.now) (g.P.Plant.state c.args.new.now)

pub returns-clause-durable : goal.returns-clause-durable
returns-clause-durable g c = sets_stay (g.P.Plant.state c.args.old.now) (g.P.Plant.state c.args.new.now)
