use Rattle.site_store.proofs.Now.{are_meant, leave_content}
use Rattle.site_store.proofs.deeds.deeds_are_meant.Goals as goal

pub returns-clause-means : goal.returns-clause-means
returns-clause-means g c = are_meant (g.P.Plant.state c.args.old.now) (g.P.Plant.state c.args.new.now)

pub returns-clause-content : goal.returns-clause-content
returns-clause-content g c = leave_content (g.P.Plant.state c.args.old.now) (g.P.Plant.state c.args.new.now)
