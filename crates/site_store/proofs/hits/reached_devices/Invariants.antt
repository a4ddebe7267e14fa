use Rattle.std.specs.Prelude.{◌≡◌, ◌<◌, ◌||◌, ℕ, Some, false, length, slice_get, slice_index_or}
use Rattle.pair_table.specs.declared.row.PairRow.{PairRow}
use Rattle.site_store.proofs.Reached.{reaches_by}
use Rattle.site_store.proofs.hits.reached_devices.Given as goal

-- of the rows before it is said whether they are reached
abbrev pub invariant-loop-row : goal.invariant-loop-row
invariant-loop-row l = record {
  long : length l.reached ≡ 64;
  are : (n : ℕ) (r : PairRow) → n < l.row-index → slice_get l.table.rows n ≡ Some r → slice_index_or l.reached r.device false ≡ (reaches_by l.level l.table.rows l.marked r || reaches_by l.level l.table.rows l.hit r);
}
