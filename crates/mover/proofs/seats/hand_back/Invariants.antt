use Rattle.mover.proofs.Handing.{HandsBack}
use Rattle.mover.proofs.seats.hand_back.Given as goal

abbrev pub invariant-loop-place : goal.invariant-loop-place
invariant-loop-place g l = HandsBack l.initial.lanes l.lanes l.seats l.place
