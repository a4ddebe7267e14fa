use Rattle.std.proofs.Common.{arith}
use Rattle.site_store.proofs.Breaks.{break_here, break_none}
use Rattle.site_store.proofs.group_rows.break_time.Goals as goal

pub returns-then-found-control : goal.returns-then-found-control
returns-then-found-control c = break_here c.args.formed.now.breaks c.args.control c.breaks-found-items.result.now c.loop-found.found-index c.breaks-found-items.ensures c.loop-found.invariant _ (omega arith) c.if-found-control.true

pub returns : goal.returns
returns c = break_none c.args.formed.now.breaks c.args.control c.breaks-found-items.result.now c.loop-found.found-index c.breaks-found-items.ensures c.loop-found.invariant (omega arith)
