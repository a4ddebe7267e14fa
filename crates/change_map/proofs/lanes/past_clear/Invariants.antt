-- each word passed over is 0
use Rattle.std.proofs.Common.{◌≡◌, ℕ, ◌+◌, ◌*◌, ◌≤◌, ◌<◌, get_or}
use Rattle.change_map.proofs.lanes.past_clear.Given as goal

abbrev pub invariant-loop-k : goal.invariant-loop-k
invariant-loop-k l = (x : ℕ) → l.fn.from ≤ x → x < l.fn.from + l.k * 8 → get_or l.words x 0 ≡ 0
