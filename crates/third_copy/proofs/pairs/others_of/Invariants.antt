use Rattle.std.proofs.Common.{◌≡◌, ◌≤◌, not, length, take, vec_capacity, vec_len}
use Rattle.std.specs.Prelude.{filter}
use Rattle.pair_table.specs.Devices.{is_among}
use Rattle.xrecover.specs.Pairs.{duplex_devices}
use Rattle.third_copy.proofs.pairs.others_of.Given as goal

-- the devices of the pairs before that aren't on the list, and room for the others
abbrev pub invariant-loop-place : goal.invariant-loop-place
invariant-loop-place l = record {
  listed : l.others.items ≡ filter (λ v. not (is_among v l.done)) (duplex_devices (take l.place l.table.rows));
  count : vec_len l.others ≤ l.place;
  places : length l.table.rows ≤ vec_capacity l.others;
}
