use Rattle.std.proofs.Common.{◌≡◌, ◌<◌, length}
use Rattle.std.specs.Prelude.{◌^◌}
use Rattle.group_tests.specs.Trials.{AreTried}
use Rattle.group_tests.proofs.trials.a_queue_keeps_what_a_plain_list_keeps.Given as goal

abbrev pub invariant-loop : goal.invariant-loop
invariant-loop g l = record {
  tried : AreTried l.at 4 l.queue.state.waiting;
  one : l.out.controls ≡ 1;
  tracks : length l.map ≡ 4;
  small : l.at < 2 ^ 64;
}
