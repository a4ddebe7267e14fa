use Rattle.std.specs.Prelude.{◌≡◌, ℕ, ◌<◌, false, length, map, take, slice_index_or}
use Rattle.std.specs.List.{list_any}
use Rattle.site_store.specs.Jobs.{has_job_failed}
use Rattle.site_store.proofs.HitRows.{hits_device}
use Rattle.site_store.proofs.hits.hit_flags.Given as goal

-- the devices of the rows before that are hit are noted
abbrev pub invariant-loop-row : goal.invariant-loop-row
invariant-loop-row g l = record {
  long : length l.devices ≡ 64;
  are : (d : ℕ) → d < 64 → slice_index_or l.devices d false ≡ list_any (hits_device (map has_job_failed l.jobs) d) (take l.row-index l.table.rows);
}
