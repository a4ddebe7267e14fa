-- The devices that the rows of a group's record keep.
use Rattle.std.proofs.Common.{◌≡◌, inl, inr, ℕ, ◌&&◌, Bool, true, false, List, [], ◌∷◌, refl, sym, ap, ◌∙◌, eqb-true}
use Rattle.std.specs.Prelude.{not}
use Rattle.std.proofs.lemmas.Bool.{and_parts, or_cases}
use Rattle.pair_table.specs.declared.row.PairRow.{PairRow}
use Rattle.pair_table.specs.declared.row.PairState.{PairState}
use Rattle.pair_table.specs.States.{is_device_suspended}
use Rattle.pair_table.specs.Tables.{is_of}
use Rattle.record_rows.specs.Hits.{is_down}
use Rattle.record_rows.specs.ToldRows.{AreTold, IsTold}
use Rattle.site_store.specs.Exceptions.{is_kept}

kept_here : (failed : List Bool) (time d : ℕ) (r s : PairRow) → IsTold failed time r s → is_of d s ≡ true → not (is_device_suspended s.state) ≡ true → is_down failed d ≡ false
kept_here failed time d r s told of good = by_flag (is_down failed d) refl
  where
    same : d ≡ r.device
    same = eqb-true d s.device of ∙ ap (λ (t : PairRow). t.device) told.same

    by_state : (b : Bool) → is_device_suspended r.state ≡ b → is_down failed d ≡ true → is_down failed d ≡ false
    by_state true was down = let still = ap (λ (t : PairState). not (is_device_suspended t)) (told.stays was) in let also = ap not was in absurd (cc (still, also, good))
    by_state false was down = let hit = ap (λ (t : PairState). not (is_device_suspended t)) (told.hit (ap (is_down failed) (sym same) ∙ down) was) in absurd (cc (hit, good))

    by_flag : (b : Bool) → is_down failed d ≡ b → is_down failed d ≡ false
    by_flag true down = by_state (is_device_suspended r.state) refl down
    by_flag false up = up

-- A device that is kept by rows which tell the failed jobs hasn't failed.
pub kept_good : (failed : List Bool) (time d : ℕ) (rows next : List PairRow) → AreTold failed time rows next → is_kept d next ≡ true → is_down failed d ≡ false
kept_good failed time d [] [] told kept = absurd cc
kept_good failed time d [] (s ∷ next) told kept = absurd told
kept_good failed time d (r ∷ rows) [] told kept = absurd told
kept_good failed time d (r ∷ rows) (s ∷ next) told kept = elim (or_cases (is_of d s && not (is_device_suspended s.state)) (is_kept d next) kept) [
  | inl here ↦ let parts = and_parts (is_of d s) (not (is_device_suspended s.state)) here in kept_here failed time d r s told.0 parts.0 parts.1
  | inr later ↦ kept_good failed time d rows next told.1 later
]
