use Rattle.std.proofs.Common.{◌≡◌, take}
use Rattle.std.specs.Prelude.{count_by}
use Rattle.workload.specs.Summaries.{is_duplex_pair}
use Rattle.workload.proofs.tracks.count_duplex.Given as goal

-- the duplex pairs so far
abbrev pub invariant-loop-place : goal.invariant-loop-place
invariant-loop-place l = l.count ≡ count_by is_duplex_pair (take l.place l.table.rows)
