use Rattle.std.proofs.Common.{rules, ap, sym, ◌∙◌, ◌∷◌, Some}
use Rattle.atomic_table.specs.Table.{rest}
use Rattle.turn.proofs.table.TurnTable.take_turn.Goals as goal

pub exchange-requires : goal.exchange-requires
exchange-requires g c =
    let turn = c.wait.ensures.turn in
    let held = ap (λ m. m.1) turn.2 in
    (search rules, (Some turn.1, held ∙ ap (λ cs. (0, Some turn.1) ∷ rest cs) (sym held)))
