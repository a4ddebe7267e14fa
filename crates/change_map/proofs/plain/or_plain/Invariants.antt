use Rattle.std.proofs.Common.{◌≡◌, ℕ, ◌≤◌, ◌<◌, length, get_or}
use Rattle.std.specs.Prelude.{bit_or}
use Rattle.change_map.proofs.plain.or_plain.Given as goal

-- the words before k are done
abbrev pub invariant-loop-k : goal.invariant-loop-k
invariant-loop-k l = record {
  len : length l.into ≡ length l.fn.into;
  done : (j : ℕ) → j < l.k → get_or l.into j 0 ≡ bit_or (get_or l.fn.into j 0) (get_or l.from j 0);
  left : (j : ℕ) → l.k ≤ j → get_or l.into j 0 ≡ get_or l.fn.into j 0;
}
