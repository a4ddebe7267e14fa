use Rattle.std.specs.Prelude.{◌≡◌, ℕ, ◌<◌, ◌≤◌, ◌&&◌, ◌||◌, not, false, length, map, slice_index_or}
use Rattle.site_store.specs.Jobs.{has_job_failed}
use Rattle.site_store.proofs.applying.note_written.Given as goal

-- the volumes before are noted, and those after it are as they were
abbrev pub invariant-loop-place : goal.invariant-loop-place
invariant-loop-place g l = record {
  same : length l.written ≡ length l.fn.written;
  done : (d : ℕ) → d < l.place → slice_index_or l.written d false ≡ (slice_index_or l.fn.written d false || (not (slice_index_or (map has_job_failed l.jobs) d false) && slice_index_or l.due d false));
  later : (d : ℕ) → l.place ≤ d → slice_index_or l.written d false ≡ slice_index_or l.fn.written d false;
}
