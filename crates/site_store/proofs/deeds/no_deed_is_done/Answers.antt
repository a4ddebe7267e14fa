use Rattle.site_store.proofs.Single.{no_call, reads_and_syncs, same_content, same_sight}
use Rattle.site_store.proofs.deeds.no_deed_is_done.Goals as goal

pub returns-clause-none : goal.returns-clause-none
returns-clause-none g c = no_call (g.P.Plant.state c.args.old.now)

pub returns-clause-same : goal.returns-clause-same
returns-clause-same g c = same_sight (g.P.Plant.state c.args.old.now) (g.P.Plant.state c.args.new.now)

pub returns-clause-reads : goal.returns-clause-reads
returns-clause-reads g c = reads_and_syncs (g.P.Plant.state c.args.old.now) (g.P.Plant.state c.args.new.now)

pub returns-clause-content : goal.returns-clause-content
returns-clause-content g c = same_content (g.P.Plant.state c.args.old.now) (g.P.Plant.state c.args.new.now)
