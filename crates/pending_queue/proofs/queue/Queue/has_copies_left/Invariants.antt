use Rattle.std.proofs.Common.{◌≡◌, take, false}
use Rattle.std.specs.List.{list_any}
use Rattle.pending_queue.specs.Entries.{left, is_copy_of}
use Rattle.pending_queue.proofs.queue.Queue.has_copies_left.Given as goal

abbrev pub invariant-loop-place : goal.invariant-loop-place
invariant-loop-place l = list_any (is_copy_of l.volume) (left l.cut (take l.place l.self-inside.waiting.entries)) ≡ false
