use Rattle.std.proofs.Common.{◌≡◌, ℕ, ◌*◌, ◌<◌, length, take}
use Rattle.block_region.specs.Blocks.{block_at}
use Rattle.block_region.specs.Runs.{hop, gathered}
use Rattle.block_region.proofs.runs.fill.Given as goal

abbrev pub invariant-loop-place : goal.invariant-loop-place
invariant-loop-place l = record {
  at : l.block ≡ hop l.next l.place l.first;
  len : length l.blocks ≡ length l.initial.blocks;
  filled : gathered l.blocks l.next l.first (length l.bytes) l.place ≡ take (512 * l.place) l.bytes;
  others : (other : ℕ) → ((k : ℕ) → k < l.place → ¬ (other ≡ hop l.next k l.first)) → block_at l.blocks other ≡ block_at l.initial.blocks other;
}
