use Rattle.std.proofs.Common.{◌≡◌, length}
use Rattle.std.specs.Prelude.{Ok}
use Rattle.std.specs.List.{All}
use Rattle.mover.specs.Lanes.{MayLaneRead}
use Rattle.mover.specs.Moves.{MayMove}
use Rattle.mover.specs.Rounds.{DoesRounds}
use Rattle.mover.proofs.round.go_on.Given as goal

abbrev pub invariant-loop : goal.invariant-loop
invariant-loop g l = record {
  may_read : All (MayLaneRead l.group l.limit.0) l.lanes;
  table : l.seat.table ≡ l.group.table;
  may : MayMove g.P.Plant.tells l.limit.0 l.seat l.site (g.P.Plant.state l.plant);
  room : l.formed.controls ≡ length l.seat.known;
  does : DoesRounds g.P.Plant.tells g.S.Source.left g.S.Source.faults l.group l.limit.0 l.initial.lanes l.lanes l.initial.seat l.seat l.initial.site l.site (g.P.Plant.state l.initial.plant) (g.P.Plant.state l.plant) (Ok tt);
}
