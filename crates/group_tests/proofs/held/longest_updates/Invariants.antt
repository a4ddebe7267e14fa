use Rattle.std.specs.Prelude.{IsTrue}
use Rattle.pending_queue.specs.Entries.{all_keep_rules}
use Rattle.group_tests.specs.ReadyStates.{AreFirstAt}
use Rattle.group_tests.proofs.held.longest_updates.Given as goal

abbrev pub invariant-loop : goal.invariant-loop
invariant-loop g l = record {
  rules : IsTrue (all_keep_rules l.writes);
  first : AreFirstAt l.at l.writes;
}
