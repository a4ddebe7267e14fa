use Rattle.site_means.proofs.ReadAll.{reads_one}
use Rattle.site_means.proofs.reading.settle.Goals as goal

pub returns-in-Ok-clause-others : goal.returns-in-Ok-clause-others
returns-in-Ok-clause-others g c = reads_one g.P.Plant.tells c.args.device _ _ c.requires.examined c.sync.ensures.same c.sync.ensures.moments c.sync.ensures.only

pub returns-in-Err-clause-others : goal.returns-in-Err-clause-others
returns-in-Err-clause-others g c = reads_one g.P.Plant.tells c.args.device _ _ c.requires.examined c.sync.ensures.same c.sync.ensures.moments c.sync.ensures.only
