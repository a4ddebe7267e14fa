use Rattle.std.proofs.Common.{length}
use Rattle.xrc_journal.proofs.Scans.{Scan}
use Rattle.xrc_journal.proofs.drawn.has_image.Given as goal

-- no item before what is left is an image of the track
abbrev pub invariant-loop-rest : goal.invariant-loop-rest
invariant-loop-rest l = Scan l.body l.rest l.device l.track

abbrev pub decreases-loop-rest : goal.decreases-loop-rest
decreases-loop-rest l = length l.rest
