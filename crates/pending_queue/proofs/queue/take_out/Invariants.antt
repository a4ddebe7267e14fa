use Rattle.std.proofs.Common.{◌≡◌, length}
use Rattle.pending_queue.specs.Waitings.{SameMemory}
use Rattle.pending_queue.proofs.VolumeLaws.{round}
use Rattle.pending_queue.proofs.queue.take_out.Given as goal

abbrev pub invariant-loop : goal.invariant-loop
invariant-loop l = record {
  count : l.end ≡ length l.initial.waiting.entries;
  went : l.waiting.entries ≡ round l.volume l.initial.waiting.entries l.counter;
  same : SameMemory l.initial.waiting l.waiting;
}
