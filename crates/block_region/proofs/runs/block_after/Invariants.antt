use Rattle.std.proofs.Common.{◌≡◌}
use Rattle.block_region.specs.Runs.{hop}
use Rattle.block_region.proofs.runs.block_after.Given as goal

abbrev pub invariant-loop : goal.invariant-loop
invariant-loop l = l.block ≡ hop l.next l.counter l.first
