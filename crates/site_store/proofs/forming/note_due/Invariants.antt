use Rattle.std.specs.Prelude.{◌≡◌, ℕ, ◌<◌, ◌&&◌, not, false, length, map, slice_index_or}
use Rattle.site_store.specs.Jobs.{has_job_failed}
use Rattle.site_store.proofs.forming.note_due.Given as goal

-- the volumes before are noted
abbrev pub invariant-loop-place : goal.invariant-loop-place
invariant-loop-place g l = record {
  same : length l.due ≡ length l.fn.due;
  done : (d : ℕ) → d < l.place → slice_index_or l.due d false ≡ (slice_index_or l.wanted d false && not (slice_index_or (map has_job_failed l.jobs) d false));
}
