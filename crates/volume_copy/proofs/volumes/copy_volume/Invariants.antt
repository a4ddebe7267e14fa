use Rattle.volume_copy.proofs.CopiedCylinders.{CylindersSoFar}
use Rattle.volume_copy.proofs.volumes.copy_volume.Given as goal

-- the cylinders before are done
abbrev pub invariant-loop-cylinder : goal.invariant-loop-cylinder
invariant-loop-cylinder g l = CylindersSoFar g.P.Plant.tells l.job l.cylinder (g.P.Plant.state l.fn.plant) (g.P.Plant.state l.plant)
