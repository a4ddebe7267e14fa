-- What a slot's bytes hold, from their fields.
use Rattle.std.proofs.Common.{◌≡◌, ℕ, ◌≤◌, ◌<◌, true, false, List, length, take, drop, slice_index, option_map, Option, Some, None, refl, ap, arith}
use Rattle.std.specs.Prelude.{slice_range, bytes_eq}
use Rattle.std.specs.Int.{w16, from_be_bytes}
use Rattle.std.proofs.lemmas.Bool.{le-leb}
use Rattle.std.proofs.lemmas.Option.{same_Some}
use Rattle.pair_table.specs.declared.level.Level.{Level}
use Rattle.pair_table.specs.declared.row.PairRow.{PairRow}
use Rattle.pair_table.specs.Tables.{Table}
use Rattle.state_set.specs.Slots.{Stored, title, level_of_number, are_rows, rows_at, kept, rows_in, slot_fields, state_at, started_table, with_table}
use Rattle.state_set.proofs.After.{not_then, rows_parts}
use Rattle.state_set.proofs.RowsAt.{rows_count}
use Rattle.tod_stamp.specs.Options.{◌>>=◌}

-- the level, with rows if there are any
abbrev pub with_level : Level → Option (List PairRow) → Option Stored
with_level level None = None
with_level level (Some rows) = Some (record { level = level; rows = rows })

-- more than 64 rows are none
pub too_many : (version volumes count : ℕ) (bytes : List ℕ) → 64 < count → rows_in version volumes count bytes ≡ None
too_many version volumes count bytes many = by_rows (rows_at version count bytes) refl
  where
    by_rows : (o : Option (List PairRow)) → rows_at version count bytes ≡ o → kept volumes o ≡ None
    by_rows None e = refl
    by_rows (Some rows) e =
        let long = rows_count version count bytes rows e in
        rw (not_then (are_rows volumes rows) false (λ are. absurd (omega (arith, (rows_parts volumes rows are).few, long, many))) refl) refl

module _ (version volumes : ℕ) (bytes : List ℕ) where
  pub no_level : level_of_number version (slice_index bytes 12) ≡ None → slot_fields version volumes bytes ≡ None
  no_level e = rw e refl

  pub of_level : (level : Level) → level_of_number version (slice_index bytes 12) ≡ Some level → slot_fields version volumes bytes ≡ with_level level (rows_in version volumes (from_be_bytes w16 (slice_range bytes 13 15)) (drop 15 bytes))
  of_level level e = rw e (by_rows (rows_in version volumes (from_be_bytes w16 (slice_range bytes 13 15)) (drop 15 bytes)))
    where
      by_rows : (o : Option (List PairRow)) → (o >>= (λ rows. Some (record { level = level; rows = rows }))) ≡ with_level level o
      by_rows None = refl
      by_rows (Some rows) = refl

-- ---- the versions

module _ (volumes : ℕ) (session bytes : List ℕ) (long : 15 ≤ length bytes) where
  pub is_second : bytes_eq (title 2 session) (take 12 bytes) ≡ true → state_at volumes session bytes ≡ slot_fields 2 volumes bytes
  is_second two = rw (le-leb 15 (length bytes) long, two) refl

  pub is_first : bytes_eq (title 2 session) (take 12 bytes) ≡ false → bytes_eq (title 1 session) (take 12 bytes) ≡ true → state_at volumes session bytes ≡ slot_fields 1 volumes bytes
  is_first two one = rw (le-leb 15 (length bytes) long, two, one) refl

  pub is_none : bytes_eq (title 2 session) (take 12 bytes) ≡ false → bytes_eq (title 1 session) (take 12 bytes) ≡ false → state_at volumes session bytes ≡ None
  is_none two one = rw (le-leb 15 (length bytes) long, two, one) refl

-- ---- tables

-- a table that is the rows'
pub table_is : (session : List ℕ) (level : Level) (rows : Option (List PairRow)) (table : Table) → Some table ≡ option_map (started_table session) rows → Some (level, table) ≡ option_map (with_table session) (with_level level rows)
table_is session level None table e = absurd cc
table_is session level (Some rows) table e = ap (λ (t : Table). Some (level, t)) (same_Some table (started_table session rows) e)

pub no_table : (session : List ℕ) (level : Level) (rows : Option (List PairRow)) → None ≡ option_map (started_table session) rows → None ≡ option_map (with_table session) (with_level level rows)
no_table session level None e = refl
no_table session level (Some rows) e = absurd cc
