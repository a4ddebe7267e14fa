use Rattle.std.proofs.Common.{rules, arith}
use Rattle.std.proofs.lemmas.Grind.{common_steps}
use Rattle.turn.proofs.Keeps.{joins_as}
use Rattle.turn.proofs.table.TurnTable.join.Goals as goal

pub join_seat-requires : goal.join_seat-requires
join_seat-requires g c =
    let mover = c.args.mover.now in
    let reader = c.args.reader in
    (search rules, search rules, search rules, first_of (search rules, grind (arith, common_steps)), joins_as g.M.Machine.steps g.M.Machine.part g.M.Machine.says _ _ _ _ _ mover.is_first mover.idle.0 reader.idle.0)
