use Rattle.std.proofs.Common.{arith}
use Rattle.mover.proofs.Handing.{hands_all}
use Rattle.mover.proofs.seats.hand_out.Goals as goal

pub returns-clause-left : goal.returns-clause-left
returns-clause-left g c = hands_all c.args.lanes.now c.loop-place.lanes c.args.seats.now c.loop-place.seats c.loop-place.place c.loop-place.invariant (omega (arith, c.loop-place-test.false, c.loop-place.auto.place-end))
