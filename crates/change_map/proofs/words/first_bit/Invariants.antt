-- no word so far has a bit
use Rattle.std.proofs.Common.{◌≡◌, ℕ, ◌*◌, ◌≤◌, ◌<◌, false}
use Rattle.change_map.specs.Words.{has_bit}
use Rattle.change_map.proofs.words.first_bit.Given as goal

abbrev pub invariant-loop-k : goal.invariant-loop-k
invariant-loop-k l = (x : ℕ) → 64 * l.fn.from ≤ x → x < 64 * l.k → has_bit l.words x ≡ false
