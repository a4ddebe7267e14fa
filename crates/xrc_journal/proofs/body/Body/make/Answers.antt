use Rattle.xrc_journal.proofs.Bodies.{made_none}
use Rattle.xrc_journal.proofs.body.Body.make.Goals as goal

pub invariant_of-result : goal.invariant_of-result
invariant_of-result c = (made_none c.args.length c.in_ok-buffer.buffer.items.items c.in_ok-buffer.ensures).holds

pub returns : goal.returns
returns c = (made_none c.args.length c.in_ok-buffer.buffer.items.items c.in_ok-buffer.ensures).seen
