-- The devices of rows that were read are below the volumes, whatever the bytes are.
use Rattle.std.proofs.Common.{◌≡◌, ℕ, Bool, true, false, cond, List, drop, slice_index, option_map, Option, Some, None, refl, sym, ap, ◌∙◌}
use Rattle.std.specs.Prelude.{slice_range}
use Rattle.std.specs.Int.{w16, from_be_bytes}
use Rattle.std.proofs.lemmas.Option.{same_Some}
use Rattle.pair_table.specs.declared.level.Level.{Level}
use Rattle.pair_table.specs.declared.row.PairRow.{PairRow}
use Rattle.pair_table.specs.Tables.{Table, are_below}
use Rattle.state_set.specs.Slots.{Stored, level_of_number, are_rows, rows_at, kept, rows_in, has_title, slot_fields, state_at, with_table}
use Rattle.state_set.proofs.After.{rows_parts}
use Rattle.tod_stamp.specs.Options.{◌>>=◌}

kept_rows : (volumes : ℕ) (o : Option (List PairRow)) (rows : List PairRow) → kept volumes o ≡ Some rows → are_rows volumes rows ≡ true
kept_rows volumes None rows e = absurd cc
kept_rows volumes (Some found) rows e = by_rule (are_rows volumes found) refl e
  where
    by_rule : (b : Bool) → are_rows volumes found ≡ b → cond b (Some found) None ≡ Some rows → are_rows volumes rows ≡ true
    by_rule true is e = ap (are_rows volumes) (sym (same_Some found rows e)) ∙ is
    by_rule false is e = absurd cc

-- the rows of a slot keep the rules over several rows and over the plant
slot_rows : (version volumes : ℕ) (bytes : List ℕ) (s : Stored) → slot_fields version volumes bytes ≡ Some s → are_rows volumes s.rows ≡ true
slot_rows version volumes bytes s e = by_level (level_of_number version (slice_index bytes 12)) e
  where
    count : ℕ
    count = from_be_bytes w16 (slice_range bytes 13 15)

    by_rows : (level : Level) (o : Option (List PairRow)) → rows_in version volumes count (drop 15 bytes) ≡ o → (o >>= (λ rows. Some (record { level = level; rows = rows }))) ≡ Some s → are_rows volumes s.rows ≡ true
    by_rows level None is e = absurd cc
    by_rows level (Some rows) is e =
        let same = same_Some (record { level = level; rows = rows }) s e in
        ap (λ (k : Stored). are_rows volumes k.rows) (sym same) ∙ kept_rows volumes (rows_at version count (drop 15 bytes)) rows is

    by_level : (o : Option Level) → (o >>= (λ level. rows_in version volumes count (drop 15 bytes) >>= (λ rows. Some (record { level = level; rows = rows })))) ≡ Some s → are_rows volumes s.rows ≡ true
    by_level None e = absurd cc
    by_level (Some level) e = by_rows level (rows_in version volumes count (drop 15 bytes)) refl e

pub state_rows : (volumes : ℕ) (session bytes : List ℕ) (s : Stored) → state_at volumes session bytes ≡ Some s → are_rows volumes s.rows ≡ true
state_rows volumes session bytes s e = by_titles (has_title 2 session bytes) (has_title 1 session bytes) e
  where
    by_titles : (second first : Bool) → cond second (slot_fields 2 volumes bytes) (cond first (slot_fields 1 volumes bytes) None) ≡ Some s → are_rows volumes s.rows ≡ true
    by_titles true first e = slot_rows 2 volumes bytes s e
    by_titles false true e = slot_rows 1 volumes bytes s e
    by_titles false false e = absurd cc

-- those of a table that was read are below
pub found_below : (volumes : ℕ) (session bytes : List ℕ) (found : Level × Table) → Some found ≡ option_map (with_table session) (state_at volumes session bytes) → are_below volumes found.1.rows ≡ true
found_below volumes session bytes found e = by_state (state_at volumes session bytes) refl e
  where
    by_state : (o : Option Stored) → state_at volumes session bytes ≡ o → Some found ≡ option_map (with_table session) o → are_below volumes found.1.rows ≡ true
    by_state None is e = absurd cc
    by_state (Some s) is e =
        ap (λ (f : Level × Table). are_below volumes f.1.rows) (same_Some found (with_table session s) e)
        ∙ (rows_parts volumes s.rows (state_rows volumes session bytes s is)).below
