use Rattle.applier.specs.Loans.{AreOut}
use Rattle.applier.proofs.Lending.{LendsSoFar}
use Rattle.applier.proofs.loans.lend_all.Given as goal

abbrev pub invariant-loop-i : goal.invariant-loop-i
invariant-loop-i g l = record {
  out : AreOut g.P.Plant.tells g.P.Volume.Disk.tells g.P.Volume.Disk.state (g.P.Plant.state l.initial.plant) (g.P.Plant.state l.plant) l.jobs l.jobs;
  so_far : LendsSoFar l.i l.wanted l.initial.jobs l.jobs;
}
