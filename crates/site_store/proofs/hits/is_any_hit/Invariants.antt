use Rattle.std.proofs.Common.{◌≡◌, take, map, false}
use Rattle.std.specs.List.{list_any}
use Rattle.record_rows.specs.Hits.{is_hit_now}
use Rattle.site_store.specs.Jobs.{has_job_failed}
use Rattle.site_store.proofs.hits.is_any_hit.Given as goal

-- no row before is hit
abbrev pub invariant-loop-row : goal.invariant-loop-row
invariant-loop-row g l = list_any (is_hit_now (map has_job_failed l.jobs)) (take l.row-index l.table.rows) ≡ false
