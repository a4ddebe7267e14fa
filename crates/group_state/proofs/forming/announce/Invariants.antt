use Rattle.std.proofs.Common.{◌≡◌, ◌-◌, length, take}
use Rattle.group_state.specs.Groups.{with_news, HasRoomForNews}
use Rattle.group_state.proofs.forming.announce.Given as goal

abbrev pub invariant-loop-k : goal.invariant-loop-k
invariant-loop-k l = record {
  news : l.out ≡ with_news l.cut (take l.k l.controls) l.initial.out;
  room : HasRoomForNews l.out (length l.controls - l.k);
}
