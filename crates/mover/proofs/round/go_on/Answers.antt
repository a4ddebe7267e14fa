use Rattle.std.proofs.Common.{sym, ◌∙◌}
use Rattle.mover.proofs.LanesOn.{all_again, all_sit}
use Rattle.mover.proofs.InRounds.{rounds_none, rounds_then}
use Rattle.mover.proofs.round.go_on.Goals as goal

pub loop-init : goal.loop-init
loop-init g c = record {
  may_read = c.requires.lanes;
  table = c.requires.table;
  may = c.requires.may;
  room = c.requires.room;
  does = rounds_none g.P.Plant.tells g.S.Source.left g.S.Source.faults c.args.group.now c.args.limit.0 c.args.lanes.now c.args.seat.now c.args.site.now (g.P.Plant.state c.args.plant.now) c.requires.lanes;
}

pub returns-in-Err-clause-does : goal.returns-in-Err-clause-does
returns-in-Err-clause-does g c =
    rounds_then g.P.Plant.tells g.S.Source.left g.S.Source.faults c.args.group.now c.args.limit.0 c.args.lanes.now c.loop.lanes c.round.new.lanes c.args.seat.now c.loop.seat c.round.new.seat c.args.site.now c.loop.site c.round.new.site
    (g.P.Plant.state c.args.plant.now) (g.P.Plant.state c.loop.plant) (g.P.Plant.state c.round.new.plant) _ c.loop.invariant.does c.in-Err.ensures.does

pub is_any_lacking-requires : goal.is_any_lacking-requires
is_any_lacking-requires g c = (c.args.limit.0, c.args.group.now, all_sit g.S.Source.left g.S.Source.faults c.args.group.now c.args.limit.0 c.loop.lanes c.round.new.lanes c.round.ensures.does.read)

pub returns-then-is_any_lacking-clause-does : goal.returns-then-is_any_lacking-clause-does
returns-then-is_any_lacking-clause-does g c =
    rounds_then g.P.Plant.tells g.S.Source.left g.S.Source.faults c.args.group.now c.args.limit.0 c.args.lanes.now c.loop.lanes c.round.new.lanes c.args.seat.now c.loop.seat c.round.new.seat c.args.site.now c.loop.site c.round.new.site
    (g.P.Plant.state c.args.plant.now) (g.P.Plant.state c.loop.plant) (g.P.Plant.state c.round.new.plant) _ c.loop.invariant.does c.in-Ok.ensures.does

pub returns-then-are_done-clause-does : goal.returns-then-are_done-clause-does
returns-then-are_done-clause-does g c =
    rounds_then g.P.Plant.tells g.S.Source.left g.S.Source.faults c.args.group.now c.args.limit.0 c.args.lanes.now c.loop.lanes c.round.new.lanes c.args.seat.now c.loop.seat c.round.new.seat c.args.site.now c.loop.site c.round.new.site
    (g.P.Plant.state c.args.plant.now) (g.P.Plant.state c.loop.plant) (g.P.Plant.state c.round.new.plant) _ c.loop.invariant.does c.in-Ok.ensures.does

pub loop-preserved : goal.loop-preserved
loop-preserved g c =
    let r = c.round.ensures in
    let was = c.loop.invariant in
    record {
      may_read = all_again g.S.Source.left g.S.Source.faults c.args.group.now c.args.limit.0 c.loop.lanes c.round.new.lanes r.does.read (c.is_any_lacking.ensures.0 c.if-is_any_lacking.false);
      table = r.does.still.here ∙ was.table;
      may = c.in-Ok.ensures.may;
      room = r.room ∙ was.room ∙ sym r.does.still.controls;
      does = rounds_then g.P.Plant.tells g.S.Source.left g.S.Source.faults c.args.group.now c.args.limit.0 c.args.lanes.now c.loop.lanes c.round.new.lanes c.args.seat.now c.loop.seat c.round.new.seat c.args.site.now c.loop.site c.round.new.site
          (g.P.Plant.state c.args.plant.now) (g.P.Plant.state c.loop.plant) (g.P.Plant.state c.round.new.plant) _ c.loop.invariant.does c.in-Ok.ensures.does;
    }
