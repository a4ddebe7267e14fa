-- The cut so far is the least of the limit and the floors of the live controllers before.
use Rattle.std.proofs.Common.{◌≡◌, List}
use Rattle.cut_core.specs.Events.{Event}
use Rattle.cut_core.specs.LegalHistories.{least_floor}
use Rattle.cut_core.specs.Floors.{StandsAfter}
use Rattle.cut_core.proofs.floors.Floors.least.Given as goal

abbrev pub invariant-loop-k : goal.invariant-loop-k
invariant-loop-k l = (past : List Event) → StandsAfter l.self past → l.cut ≡ least_floor l.k l.fn.limit.0 past
