use Rattle.site_store.specs.IdleSites.{IsSiteIdle}
use Rattle.store_tests.proofs.changes.change_until_told.Given as goal

abbrev pub invariant-loop : goal.invariant-loop
invariant-loop g l = IsSiteIdle g.P.Plant.tells l.site (g.P.Plant.state l.plant)
