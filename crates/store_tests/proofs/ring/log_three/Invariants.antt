use Rattle.site_store.specs.IdleSites.{IsSiteIdle}
use Rattle.store_tests.proofs.ring.log_three.Given as goal

abbrev pub invariant-loop-formed : goal.invariant-loop-formed
invariant-loop-formed g l = IsSiteIdle g.P.Plant.tells l.site (g.P.Plant.state l.plant)
