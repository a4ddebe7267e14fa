use Rattle.std.proofs.Common.{◌≡◌, ◌≤◌, ◌*◌, take}
use Rattle.std.specs.Prelude.{sum}
use Rattle.workload.proofs.tally.sum_of.Given as goal

-- the sum so far
abbrev pub invariant-loop-byte : goal.invariant-loop-byte
invariant-loop-byte l = record { is : l.sum ≡ sum (take l.byte-index l.bytes); short : l.sum ≤ 255 * l.byte-index }
