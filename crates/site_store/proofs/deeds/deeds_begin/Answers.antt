use Rattle.site_store.proofs.Moments.{have_begun, more_follow}
use Rattle.site_store.proofs.Widening.{more_excepted}
use Rattle.site_store.proofs.deeds.deeds_begin.Goals as goal

pub returns-clause-begun : goal.returns-clause-begun
returns-clause-begun g c = have_begun (g.P.Plant.state c.args.old.now) (g.P.Plant.state c.args.new.now)

pub returns-clause-more : goal.returns-clause-more
returns-clause-more g c = more_follow (g.P.Plant.state c.args.old.now) (g.P.Plant.state c.args.new.now)

pub returns-clause-excepted : goal.returns-clause-excepted
returns-clause-excepted g c = more_excepted (g.P.Plant.state c.args.old.now) (g.P.Plant.state c.args.new.now)
