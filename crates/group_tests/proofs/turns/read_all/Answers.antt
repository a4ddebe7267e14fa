use Rattle.std.proofs.Common.{sym, ◌∙◌}
use Rattle.group_tests.proofs.Sitting.{may_join_next}
use Rattle.group_tests.proofs.turns.read_all.Goals as goal

pub join_batch_ref-joined-requires-clause-may : goal.join_batch_ref-joined-requires-clause-may
join_batch_ref-joined-requires-clause-may g c =
    may_join_next c.args.group.now.table c.loop-before.before c.loop-before.seat c.control-control.result c.one_write-batch.result c.loop-before.invariant.reads (c.control-control.ensures ∙ sym c.loop-before.invariant.own) c.one_write-batch.ensures
