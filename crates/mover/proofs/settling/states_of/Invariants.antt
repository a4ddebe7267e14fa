use Rattle.std.proofs.Common.{◌≡◌, ℕ, ◌<◌, Some, None, length}
use Rattle.std.specs.Prelude.{slice_get, slice_index_or}
use Rattle.pair_table.specs.declared.row.PairRow.{PairRow}
use Rattle.mover.proofs.settling.states_of.Given as goal

-- the states of the rows before are there
abbrev pub invariant-loop-place : goal.invariant-loop-place
invariant-loop-place l = record {
  long : length l.states ≡ 64;
  are : (i : ℕ) (r : PairRow) → i < l.place → slice_get l.table.rows i ≡ Some r → slice_index_or l.states i None ≡ Some r.state;
}
