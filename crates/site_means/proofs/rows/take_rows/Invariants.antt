use Rattle.std.proofs.Common.{◌-◌, length}
use Rattle.site_means.proofs.Taking.{Taking}
use Rattle.site_means.proofs.rows.take_rows.Given as goal

-- the items before were taken
abbrev pub invariant-loop-item : goal.invariant-loop-item
invariant-loop-item l = Taking l.volumes l.body.items l.fn.table l.bytes l.at l.table

abbrev pub decreases-loop-item : goal.decreases-loop-item
decreases-loop-item l = length l.bytes - l.at
