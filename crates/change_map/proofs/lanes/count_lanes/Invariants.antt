use Rattle.std.proofs.Common.{◌≡◌, ◌*◌, length, take}
use Rattle.std.specs.Prelude.{count_ones}
use Rattle.std.specs.List.{sum_by}
use Rattle.std.specs.Simd.Lanes.{sum_l}
use Rattle.change_map.proofs.lanes.count_lanes.Given as goal

-- The lanes together have counted the words before k * 8.
abbrev pub invariant-loop-k : goal.invariant-loop-k
invariant-loop-k l = record {
  lanes : length l.counts ≡ 8;
  counted : sum_l l.counts ≡ sum_by count_ones (take (l.k * 8) l.words);
}
