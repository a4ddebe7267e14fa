use Rattle.std.proofs.Common.{rules, ap, ◌∙◌}
use Rattle.turn.proofs.Keeps.{looks}
use Rattle.turn.proofs.table.TurnTable.wait.Goals as goal

pub load-requires : goal.load-requires
load-requires g c = (search rules, search rules, looks g.M.Machine.steps g.M.Machine.part g.M.Machine.says _ _ _ _ c.requires.drew.0 (ap (λ m. m.0.stage) c.loop.invariant.1 ∙ c.requires.drew.2))
