use Rattle.std.proofs.Common.{◌≡◌, ◌++◌, take, drop}
use Rattle.ckd_track.specs.Effects.{up_to}
use Rattle.ckd_track.proofs.recs.count_up_to.Given as goal

-- those before the place count, and those after it up to the number
abbrev pub invariant-loop-place : goal.invariant-loop-place
invariant-loop-place l = up_to l.after l.recs ≡ take l.place l.recs ++ up_to l.after (drop l.place l.recs)
