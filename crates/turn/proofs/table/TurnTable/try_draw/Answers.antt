use Rattle.std.proofs.Common.{rules}
use Rattle.turn.proofs.Keeps.{draws_if}
use Rattle.turn.proofs.table.TurnTable.try_draw.Goals as goal

pub compare_exchange-requires : goal.compare_exchange-requires
compare_exchange-requires g c = (search rules, search rules, draws_if g.M.Machine.steps g.M.Machine.part g.M.Machine.says _ _ _ _ _ c.requires.idle)
