use Rattle.std.proofs.Common.{arith}
use Rattle.change_map.proofs.Lanes8.{or_whole}
use Rattle.change_map.proofs.plain.or_plain.Goals as goal

pub returns : goal.returns
returns c = or_whole c.args.into.now c.args.from.now c.loop-k.into c.requires c.loop-k.invariant.len (λ k within. c.loop-k.invariant.done k (omega (arith, c.loop-k-test.false, c.loop-k.invariant.len)))
