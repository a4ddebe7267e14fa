use Rattle.std.proofs.Common.{◌≡◌, ◌++◌, take, drop}
use Rattle.ckd_track.specs.Effects.{fitting}
use Rattle.ckd_track.proofs.recs.fitting_records.Given as goal

-- those before the place fit, and those after it where they fit the room that is left
abbrev pub invariant-loop-place : goal.invariant-loop-place
invariant-loop-place l = fitting l.room l.recs ≡ take l.place l.recs ++ fitting l.left (drop l.place l.recs)
