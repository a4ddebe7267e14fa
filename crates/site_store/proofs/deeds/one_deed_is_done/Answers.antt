use Rattle.site_store.proofs.Single.{one_begins, one_follows, one_is_done}
use Rattle.site_store.proofs.deeds.one_deed_is_done.Goals as goal

pub returns-clause-begins : goal.returns-clause-begins
returns-clause-begins g c = one_begins (g.P.Plant.state c.args.old.now) (g.P.Plant.state c.args.new.now)

pub returns-clause-done : goal.returns-clause-done
returns-clause-done g c = one_is_done (g.P.Plant.state c.args.old.now) (g.P.Plant.state c.args.new.now)

pub returns-clause-follows : goal.returns-clause-follows
returns-clause-follows g c = one_follows (g.P.Plant.state c.args.old.now) (g.P.Plant.state c.args.new.now)
