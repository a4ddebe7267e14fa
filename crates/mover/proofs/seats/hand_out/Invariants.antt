use Rattle.mover.proofs.Handing.{HandsOut}
use Rattle.mover.proofs.seats.hand_out.Given as goal

abbrev pub invariant-loop-place : goal.invariant-loop-place
invariant-loop-place g l = HandsOut l.initial.lanes l.lanes l.initial.seats l.seats l.place
