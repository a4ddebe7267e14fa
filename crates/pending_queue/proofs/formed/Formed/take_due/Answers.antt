use Rattle.std.proofs.Common.{◌++◌, ap, ◌∙◌, arith}
use Rattle.pending_queue.specs.Entries.{due, stands_before}
use Rattle.xrc_edge.specs.Order.{is_in_order}
use Rattle.xrc_edge.proofs.OrderLaws.{order_orders}
use Rattle.pending_queue.proofs.EntryLaws.{before_order}
use Rattle.pending_queue.proofs.formed.Formed.take_due.Goals as goal

pub invariant_of-self : goal.invariant_of-self
invariant_of-self c =
    let all = c.self.inside.entries.entries ++ due c.args.cut c.args.waiting.now.entries in
    let controls = c.move_due.ensures.controls in
    record {
      ordered = ap (is_in_order stands_before) c.move_due.ensures.moved ∙ order_orders stands_before before_order all;
      break_room = omega (arith, c.self.invariant.break_room, controls);
      done_room = omega (arith, c.self.invariant.done_room, controls);
    }
