use Rattle.std.proofs.Common.{◌≡◌, ◌*◌, ◌≤◌, take}
use Rattle.std.specs.Prelude.{sum_by, count_ones}
use Rattle.change_map.proofs.plain.count_plain.Given as goal

abbrev pub invariant-loop-word : goal.invariant-loop-word
invariant-loop-word l = record {
  counted : l.count ≡ sum_by count_ones (take l.word-index l.words);
  few : l.count ≤ 64 * l.word-index;
}
