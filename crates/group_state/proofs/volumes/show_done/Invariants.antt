use Rattle.std.proofs.Common.{◌≡◌, ◌++◌, take}
use Rattle.std.specs.Prelude.{filter}
use Rattle.group_state.specs.Volumes.{is_done_after, numbers_of}
use Rattle.group_state.proofs.volumes.show_done.Given as goal

abbrev pub invariant-loop-place : goal.invariant-loop-place
invariant-loop-place l = l.out ≡ record l.initial.out { done = l.initial.out.done ++ numbers_of l.queue.state.control (filter (is_done_after l.cut l.queue.state.waiting) (take l.place l.volumes)) }
