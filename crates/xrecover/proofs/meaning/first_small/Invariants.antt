use Rattle.std.proofs.Common.{◌≡◌, drop}
use Rattle.xrecover.specs.Pairs.{first_small}
use Rattle.xrecover.proofs.meaning.first_small.Given as goal

-- none before is small
abbrev pub invariant-loop-place : goal.invariant-loop-place
invariant-loop-place g l = first_small (g.P.Plant.state l.plant) l.table.rows ≡ first_small (g.P.Plant.state l.plant) (drop l.place l.table.rows)
