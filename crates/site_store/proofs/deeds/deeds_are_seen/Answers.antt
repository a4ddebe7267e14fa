use Rattle.std.proofs.Common.{[]}
use Rattle.site_store.proofs.Moments.{first_seen, has_its_moment, never_back}
use Rattle.site_store.proofs.Points.{are_first}
use Rattle.site_store.proofs.deeds.deeds_are_seen.Goals as goal

pub returns-clause-points : goal.returns-clause-points
returns-clause-points g c moments deeds = are_first [] moments deeds

pub returns-clause-first : goal.returns-clause-first
returns-clause-first g c = first_seen (g.P.Plant.state c.args.old.now) (g.P.Plant.state c.args.new.now)

pub returns-clause-each : goal.returns-clause-each
returns-clause-each g c = has_its_moment (g.P.Plant.state c.args.old.now) (g.P.Plant.state c.args.new.now)

pub returns-clause-never_back : goal.returns-clause-never_back
returns-clause-never_back g c = never_back (g.P.Plant.state c.args.old.now) (g.P.Plant.state c.args.new.now)
