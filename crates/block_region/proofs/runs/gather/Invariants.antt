use Rattle.std.proofs.Common.{◌≡◌, ◌*◌, length, take}
use Rattle.block_region.specs.Runs.{hop, gathered}
use Rattle.block_region.proofs.runs.gather.Given as goal

abbrev pub invariant-loop-place : goal.invariant-loop-place
invariant-loop-place l = record {
  at : l.block ≡ hop l.next l.place l.first;
  read : take (512 * l.place) l.out ≡ gathered l.blocks l.next l.first (length l.initial.out) l.place;
}
