use Rattle.std.proofs.Common.{rules}
use Rattle.turn.proofs.Keeps.{splits_as}
use Rattle.turn.proofs.table.TurnTable.split.Goals as goal

pub split_seat-requires : goal.split_seat-requires
split_seat-requires g c = let mover = c.args.mover.now in (search rules, search rules, splits_as g.M.Machine.steps g.M.Machine.part g.M.Machine.says _ _ _ mover.is_first mover.idle.0 c.requires.room)
