-- The rows of a table, one after another.
use Rattle.std.proofs.Common.{◌≡◌, ◌<◌, ◌+◌, inl, inr, ℕ, zero, suc, ◌∷◌, [], List, Some, slice_index_or, sym, subst, arith}
use Rattle.std.specs.Prelude.{slice_get}
use Rattle.std.proofs.lemmas.Bool.{cases_lt}
use Rattle.crash_plant.specs.Moments.{PlantState}
use Rattle.pair_table.specs.declared.row.PairRow.{PairRow}
use Rattle.workload.specs.Summaries.{HasTracks}

index_of : (rows : List PairRow) (k : ℕ) (d row : PairRow) → slice_get rows k ≡ Some row → slice_index_or rows k d ≡ row
index_of [] k d row is = absurd cc
index_of (r ∷ rows) zero d row is = let same : r ≡ row = cc in same
index_of (r ∷ rows) (suc k) d row is = index_of rows k d row is

-- One row more whose volume is long enough.
pub has_one_more : (plant : PlantState) (rows : List PairRow) (i : ℕ) (row : PairRow) → ((k : ℕ) (d : PairRow) → k < i → HasTracks plant (slice_index_or rows k d)) → slice_get rows i ≡ Some row → HasTracks plant row
    → (k : ℕ) (d : PairRow) → k < i + 1 → HasTracks plant (slice_index_or rows k d)
has_one_more plant rows i row so_far is has k d lt = elim (cases_lt k i) [
  | inl before ↦ so_far k d before
  | inr after ↦
      let here : i ≡ k = omega (arith, after, lt) in
      subst (λ (n : ℕ). HasTracks plant (slice_index_or rows n d)) here (subst (λ (r : PairRow). HasTracks plant r) (sym (index_of rows i d row is)) has)
]
