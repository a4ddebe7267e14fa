use Rattle.std.proofs.Common.{◌≡◌}
use Rattle.site_means.specs.Answers.{first_short}
use Rattle.site_means.proofs.Shorts.{short_from}
use Rattle.site_means.proofs.lengths.first_short.Given as goal

-- no device before this journal is short
abbrev pub invariant-loop-number : goal.invariant-loop-number
invariant-loop-number g l = first_short (g.P.Plant.state l.plant) ≡ short_from (g.P.Plant.state l.plant) l.number
