use Rattle.consistency.proofs.Owed.{asks_for_changes, never_duplex_owes_all, others_owe_all}
use Rattle.consistency.proofs.points.rows_owe_all.Goals as goal

pub returns : goal.returns
returns c = record { others = others_owe_all; never_duplex = never_duplex_owes_all; resumed = asks_for_changes }
