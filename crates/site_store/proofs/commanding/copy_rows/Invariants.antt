use Rattle.std.proofs.Common.{◌≡◌, take}
use Rattle.site_store.proofs.commanding.copy_rows.Given as goal

-- the rows before were put, and the session stays
abbrev pub invariant-loop-row : goal.invariant-loop-row
invariant-loop-row l = (l.to.rows ≡ take l.row-index l.from.rows) × (l.to.session ≡ l.initial.to.session)
