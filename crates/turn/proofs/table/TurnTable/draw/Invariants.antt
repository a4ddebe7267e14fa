use Rattle.std.proofs.Common.{◌≡◌}
use Rattle.turn.specs.Turn.{IsSameSeat}
use Rattle.turn.proofs.table.TurnTable.draw.Given as goal

abbrev pub invariant-loop : goal.invariant-loop
invariant-loop g l = IsSameSeat l.initial.place l.place × (l.place.me ≡ l.initial.place.me)
