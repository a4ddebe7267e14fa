use Rattle.std.proofs.Common.{refl, ap, ◌∙◌}
use mathlib.Core.Option.{some}
use Rattle.turn.proofs.Keeps.{ends_as, ends_with, ends_noted}
use Rattle.turn.proofs.table.TurnTable.close.Goals as goal

pub unwrap-state-requires : goal.unwrap-state-requires
unwrap-state-requires g c =
    let m = g.M.Machine in
    let mover = c.args.mover in
    ends_with m.steps m.part m.says _ _ _ _ _ _ mover.is_first mover.idle.0 c.requires.all c.close_with-closed.ensures.values.2 c.take.ensures.value

pub returns-clause-run : goal.returns-clause-run
returns-clause-run g c =
    let m = g.M.Machine in
    let mover = c.args.mover in
    ends_as m.steps m.part m.says _ _ _ _ _ c.unwrap-state.result _ mover.is_first mover.idle.0 c.requires.all refl c.close_with-closed.ensures.values.2 (c.take.ensures.value ∙ ap some c.unwrap-state.ensures)

pub returns-clause-noted : goal.returns-clause-noted
returns-clause-noted g c =
    let m = g.M.Machine in
    let mover = c.args.mover in
    ends_noted m.steps m.part m.says _ _ _ _ _ c.unwrap-state.result mover.is_first mover.idle.0 c.requires.all c.close_with-closed.ensures.values.2 (c.take.ensures.value ∙ ap some c.unwrap-state.ensures)
