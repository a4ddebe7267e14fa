-- What each deed keeps of the row in a place, deeds in turn keep.
use Rattle.std.proofs.Common.{◌≡◌, ℕ, zero, suc, List, [], ◌∷◌, ◌++◌, Some, refl, sym, subst, ◌∙◌, slice_get}
use Rattle.std.proofs.lemmas.Option.{same_Some}
use Rattle.pair_table.specs.declared.row.PairRow.{PairRow}
use Rattle.record_rows.specs.Deeds.{Deed, rows_after_deeds, rows_by_deed}
use Rattle.record_rows.specs.ToldRows.{InPlaces}
use Rattle.mover.specs.Moves.{InPlacesByDeeds, KeepPairs, KeepsPair}
use Rattle.mover.proofs.SamePairs.{each_more, still_self, still_then}

module _ (R : PairRow → PairRow → Type 0) where
  -- the row that one becomes
  pub record After (next : List PairRow) (i : ℕ) (r : PairRow) : Type 0 where
    pub row : PairRow
    pub at : slice_get next i ≡ Some row
    pub is : R r row

  pub after : (rows next : List PairRow) (i : ℕ) (r : PairRow) → InPlaces R rows next → slice_get rows i ≡ Some r → After next i r
  after [] next i r are at = absurd cc
  after (s ∷ rows) [] i r are at = absurd are
  after (s ∷ rows) (t ∷ next) zero r are at = record { row = t; at = refl; is = subst (λ (x : PairRow). R x t) (same_Some s r at) are.0 }
  after (s ∷ rows) (t ∷ next) (suc i) r are at = let b = after rows next i r are.1 at in record { row = b.row; at = b.at; is = b.is }

  pub in_place : (rows next : List PairRow) (i : ℕ) (r s : PairRow) → InPlaces R rows next → slice_get rows i ≡ Some r → slice_get next i ≡ Some s → R r s
  in_place rows next i r s are at there = let b = after rows next i r are at in subst (R r) (same_Some b.row s (sym b.at ∙ there)) b.is

  pub by_deeds_then : (a b : List Deed) (rows : List PairRow) → InPlacesByDeeds R rows a → InPlacesByDeeds R (rows_after_deeds a rows) b → InPlacesByDeeds R rows (a ++ b)
  by_deeds_then [] b rows first then = then
  by_deeds_then (deed ∷ a) b rows first then = (first.0, by_deeds_then a b (rows_by_deed deed) first.1 then)

module _ (R S : PairRow → PairRow → Type 0) (more : (r s : PairRow) → R r s → S r s) where
  pub by_deeds_more : (rows : List PairRow) (deeds : List Deed) → InPlacesByDeeds R rows deeds → InPlacesByDeeds S rows deeds
  by_deeds_more rows [] are = tt
  by_deeds_more rows (deed ∷ deeds) are = (each_more R S more rows (rows_by_deed deed) are.0, by_deeds_more (rows_by_deed deed) deeds are.1)

pub pairs_after : (rows : List PairRow) (deeds : List Deed) → InPlacesByDeeds KeepsPair rows deeds → KeepPairs rows (rows_after_deeds deeds rows)
pairs_after rows [] keep = still_self rows
pairs_after rows (deed ∷ deeds) keep = still_then rows (rows_by_deed deed) (rows_after_deeds deeds (rows_by_deed deed)) keep.0 (pairs_after (rows_by_deed deed) deeds keep.1)
