use Rattle.std.specs.Prelude.{◌≡◌, ℕ, ◌<◌, false, length, take, slice_index_or}
use Rattle.std.specs.List.{list_any}
use Rattle.pending_queue.specs.Entries.{IsOfWrite, WaitingEntry}
use Rattle.site_store.specs.Logging.{is_entry_of_device}
use Rattle.site_store.proofs.forming.wanted_volumes.Given as goal

-- the devices of the entries before are wanted, and these are of writes
abbrev pub invariant-loop-place : goal.invariant-loop-place
invariant-loop-place l = record {
  long : length l.wanted ≡ 64;
  are : (d : ℕ) → d < 64 → slice_index_or l.wanted d false ≡ list_any (is_entry_of_device l.table.rows d) (take l.place l.formed.entries);
  written : (k : ℕ) (e : WaitingEntry) → k < l.place → IsOfWrite (slice_index_or l.formed.entries k e);
}
