use Rattle.std.proofs.Common.{◌≡◌, vec_len, take}
use Rattle.xrc_session.proofs.rows.RowsBefore.copy.Given as goal

-- The rows below the place were copied.
abbrev pub invariant-loop-row : goal.invariant-loop-row
invariant-loop-row l = (l.self.rows.items ≡ take l.row-index l.table.rows) × (vec_len l.self.rows ≡ l.row-index)
