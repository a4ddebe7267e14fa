use Rattle.std.proofs.Common.{◌≤◌}
use Rattle.pending_queue.specs.Entries.{last_stamp}
use Rattle.group_tests.proofs.queues.thirty_two_of_the_longest_updates_fill_a_queue.Given as goal

abbrev pub invariant-loop-track : goal.invariant-loop-track
invariant-loop-track g l = last_stamp l.queue.state.waiting ≤ 9
