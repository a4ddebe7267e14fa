use Rattle.std.proofs.Common.{◌*◌}
use Rattle.volume_copy.proofs.CopiedTracks.{TracksSoFar}
use Rattle.volume_copy.proofs.cylinders.copy_tracks.Given as goal

-- the tracks before are copied
abbrev pub invariant-loop-track : goal.invariant-loop-track
invariant-loop-track g l = TracksSoFar g.P.Plant.tells l.job (15 * l.cylinder) l.track (g.P.Plant.state l.fn.plant) (g.P.Plant.state l.plant)
