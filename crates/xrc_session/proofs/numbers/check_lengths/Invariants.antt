use Rattle.std.proofs.Common.{◌≡◌}
use Rattle.xrc_session.specs.Openings.{first_too_short}
use Rattle.xrc_session.proofs.Numbered.{short_from}
use Rattle.xrc_session.proofs.numbers.check_lengths.Given as goal

-- No device before this journal is too short.
abbrev pub invariant-loop-number : goal.invariant-loop-number
invariant-loop-number g l = first_too_short l.controls (g.P.Plant.state l.plant) ≡ short_from l.controls (g.P.Plant.state l.plant) l.number
