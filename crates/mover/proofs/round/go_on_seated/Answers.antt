use Rattle.std.proofs.Common.{List, Ok, sym, subst}
use Rattle.mover.specs.declared.lane.Lane.{Lane}
use Rattle.mover.specs.Rounds.{DoesRounds}
use Rattle.mover.proofs.InRounds.{rounds_none}
use Rattle.mover.proofs.round.go_on_seated.Goals as goal

pub returns-in_default-clause-does : goal.returns-in_default-clause-does
returns-in_default-clause-does g c =
    let at = c.args.group.now in
    let state = g.P.Plant.state c.args.plant.now in
    subst (λ (l : List (Lane _)). DoesRounds g.P.Plant.tells g.S.Source.left g.S.Source.faults at c.args.limit.0 c.args.lanes.now l c.args.seat.now c.args.seat.now c.args.site.now c.args.site.now state state (Ok tt)) (sym c.take_formed.ensures.same)
    (rounds_none g.P.Plant.tells g.S.Source.left g.S.Source.faults at c.args.limit.0 c.args.lanes.now c.args.seat.now c.args.site.now state c.requires.lanes)
