-- What is read as a state was spelled so, and keeps the rules.
use Rattle.std.proofs.Common.{◌≡◌, ℕ, zero, suc, ◌+◌, ◌*◌, ◌≤◌, Bool, true, false, cond, nat_eq, nat_le, ◌&&◌, List, [], ◌∷◌, ◌++◌, length, take, drop, slice_index, Option, Some, None, refl, sym, ap, subst, ◌∙◌, arith, append_assoc}
use Rattle.std.specs.Prelude.{bytes_eq, slice_range}
use Rattle.std.specs.List.{list_all}
use Rattle.std.specs.Int.{w16, to_be_bytes, from_be_bytes}
use Rattle.std.proofs.Math.Nat.{mul-suc}
use Rattle.std.proofs.lemmas.Bool.{and_parts, and_from, leb-true, eqb-true}
use Rattle.std.proofs.lemmas.List.{take-append-drop, drop-drop, drop_more}
use Rattle.std.proofs.lemmas.Option.{cond_some, same_Some}
use Rattle.std.proofs.lemmas.Slice.Eq.{bytes_eq-Decides}
use Rattle.tod_stamp.specs.Fields.{IsBytes, is_version}
use Rattle.tod_stamp.proofs.FieldLaws.{IsBytes-drop, IsBytes-take}
use Rattle.pair_table.specs.declared.level.Level.{Level}
use Rattle.pair_table.specs.declared.level.Level.TheVariants.{Volume, Session, Group}
use Rattle.pair_table.specs.declared.row.PairRow.{PairRow}
use Rattle.pair_table.specs.Rows.{is_row, is_version_row, row_by, row_length, row_text}
use Rattle.pair_table.specs.Tables.{AreRowsSound, are_below}
use Rattle.pair_table.proofs.FieldPlaces.{field_and_rest, number_spelled}
use Rattle.pair_table.proofs.Versions.{version_keeps, version_row, version_spelled}
use Rattle.state_set.specs.Slots.{Stored, title, is_level, level_number, rows_spelling, slot_text, slot_length, are_rows, level_of_number, rows_at, kept, rows_in, has_title, slot_fields}
use Rattle.state_set.specs.Laws.{IsOfVersion, StatesAreSpelled}
use Rattle.state_set.proofs.After.{rows_parts}
use Rattle.state_set.proofs.RowsAt.{bind_some, rows_count}
use Rattle.tod_stamp.specs.Options.{◌>>=◌}

-- ---- rows

pub record RowsRead (version count : ℕ) (bytes : List ℕ) (rows : List PairRow) : Type 0 where
  pub spelled : bytes ≡ rows_spelling version rows ++ drop (row_length version * count) bytes
  pub each : list_all (is_version_row version) rows ≡ true

none_drops : (long : ℕ) (bytes : List ℕ) → bytes ≡ drop (long * 0) bytes
none_drops long bytes = let none : 0 ≡ long * 0 = omega arith in ap (λ (k : ℕ). drop k bytes) none

rows_read : (version count : ℕ) (bytes : List ℕ) (rows : List PairRow) → IsBytes bytes → rows_at version count bytes ≡ Some rows → RowsRead version count bytes rows
rows_read version zero bytes rows fits e = subst (RowsRead version 0 bytes) (same_Some [] rows e) (record { spelled = none_drops (row_length version) bytes; each = refl })
rows_read version (suc count) bytes rows fits e =
    let long = row_length version in
    let one = bind_some (row_by version (take long bytes)) (λ first. rows_at version count (drop long bytes) >>= (λ others. Some (first ∷ others))) rows e in
    let two = bind_some (rows_at version count (drop long bytes)) (λ others. Some (one.0 ∷ others)) rows one.2 in
    let first = version_spelled version (take long bytes) one.0 (IsBytes-take long bytes fits) one.1 in
    let others = rows_read version count (drop long bytes) two.0 (IsBytes-drop long bytes fits) two.1 in
    let further : drop (long * count) (drop long bytes) ≡ drop (long * suc count) bytes = drop-drop (long * count) long bytes ∙ ap (λ (k : ℕ). drop k bytes) (swapped long (long * count) ∙ sym (mul-suc long count)) in
    subst (RowsRead version (suc count) bytes) (same_Some (one.0 ∷ two.0) rows two.2) (record {
      spelled = sym (take-append-drop long bytes)
          ∙ ap (λ (t : List ℕ). t ++ drop long bytes) first
          ∙ ap (λ (t : List ℕ). row_text version one.0 ++ t) (others.spelled ∙ ap (λ (t : List ℕ). rows_spelling version two.0 ++ t) further)
          ∙ sym (append_assoc (row_text version one.0) (rows_spelling version two.0) (drop (long * suc count) bytes));
      each = and_from (is_version_row version one.0) (list_all (is_version_row version) two.0) (version_keeps version (take long bytes) one.0 (IsBytes-take long bytes fits) one.1) others.each;
    })
  where
    swapped : (a b : ℕ) → a + b ≡ b + a
    swapped a b = omega arith

-- ---- the fields before them

-- the level of a number that a version has
record LevelRead (version n : ℕ) (level : Level) : Type 0 where
  number : level_number level ≡ n
  has : is_level version level ≡ true

level_read : (version n : ℕ) (level : Level) → level_of_number version n ≡ Some level → LevelRead version n level
level_read version n level e = first (nat_eq n 0) refl e
  where
    third : (b : Bool) → (nat_eq n 2 && nat_eq version 2) ≡ b → cond b (Some Group) None ≡ Some level → LevelRead version n level
    third true at e =
        let both = and_parts (nat_eq n 2) (nat_eq version 2) at in
        subst (LevelRead version n) (same_Some Group level e) (record { number = sym (eqb-true n 2 both.0); has = both.1 })
    third false at e = absurd cc

    second : (b : Bool) → nat_eq n 1 ≡ b → cond b (Some Session) (cond (nat_eq n 2 && nat_eq version 2) (Some Group) None) ≡ Some level → LevelRead version n level
    second true at e = subst (LevelRead version n) (same_Some Session level e) (record { number = sym (eqb-true n 1 at); has = refl })
    second false at e = third (nat_eq n 2 && nat_eq version 2) refl e

    first : (b : Bool) → nat_eq n 0 ≡ b → cond b (Some Volume) (cond (nat_eq n 1) (Some Session) (cond (nat_eq n 2 && nat_eq version 2) (Some Group) None)) ≡ Some level → LevelRead version n level
    first true at e = subst (LevelRead version n) (same_Some Volume level e) (record { number = sym (eqb-true n 0 at); has = refl })
    first false at e = second (nat_eq n 1) refl e

kept_is : (volumes : ℕ) (o : Option (List PairRow)) (rows : List PairRow) → kept volumes o ≡ Some rows → (o ≡ Some rows) × (are_rows volumes rows ≡ true)
kept_is volumes None rows e = absurd cc
kept_is volumes (Some found) rows e =
    let parts = cond_some (are_rows volumes found) found rows e in
    (ap Some parts.1, subst (λ (t : List PairRow). are_rows volumes t ≡ true) parts.1 parts.0)

titled_then : (version : ℕ) (session bytes : List ℕ) → 15 ≤ length bytes → IsBytes bytes → title version session ≡ take 12 bytes → (level : Level) → level_number level ≡ slice_index bytes 12 → (count : ℕ) → count ≡ from_be_bytes w16 (slice_range bytes 13 15)
    → (rows : List PairRow) (rest : List ℕ) → length rows ≡ count → drop 15 bytes ≡ rows_spelling version rows ++ rest → bytes ≡ slot_text version session level rows ++ rest
titled_then version session bytes long fits titled level level_is count count_is rows rest many spelled =
    let number : to_be_bytes w16 (length rows) ≡ slice_range bytes 13 15 = ap (to_be_bytes w16) (many ∙ count_is) ∙ number_spelled bytes 13 15 (omega arith) long refl fits in
    let after : drop 12 bytes ≡ level_number level ∷ to_be_bytes w16 (length rows) ++ (rows_spelling version rows ++ rest) =
    drop_more bytes 12 0 (omega (arith, long)) ∙ ap (λ (n : ℕ). n ∷ drop 13 bytes) (sym level_is)
    ∙ ap (λ (t : List ℕ). level_number level ∷ t) (field_and_rest bytes 13 15 (omega arith) ∙ ap (λ (t : List ℕ). t ++ drop 15 bytes) (sym number) ∙ ap (λ (t : List ℕ). to_be_bytes w16 (length rows) ++ t) spelled) in
    sym (take-append-drop 12 bytes)
    ∙ ap (λ (t : List ℕ). t ++ drop 12 bytes) (sym titled)
    ∙ ap (λ (t : List ℕ). title version session ++ t) after
    ∙ sym (append_assoc (title version session ++ (level_number level ∷ to_be_bytes w16 (length rows))) (rows_spelling version rows) rest
    ∙ append_assoc (title version session) (level_number level ∷ to_be_bytes w16 (length rows)) (rows_spelling version rows ++ rest))

-- ---- a slot

-- A row of either version is a row.
are_all_rows : (version : ℕ) (rows : List PairRow) → list_all (is_version_row version) rows ≡ true → list_all is_row rows ≡ true
are_all_rows version [] e = refl
are_all_rows version (r ∷ rows) e =
    let parts = and_parts (is_version_row version r) (list_all (is_version_row version) rows) e in
    and_from (is_row r) (list_all is_row rows) (version_row version r parts.0) (are_all_rows version rows parts.1)

-- what was read of a slot of a version
record SlotRead (version volumes : ℕ) (session bytes : List ℕ) (s : Stored) : Type 0 where
  of : IsOfVersion version s
  spelled : bytes ≡ slot_text version session s.level s.rows ++ drop (slot_length version s.rows) bytes
  rules : AreRowsSound s.rows
  below : are_below volumes s.rows ≡ true

slot_read : (version volumes : ℕ) (session bytes : List ℕ) (s : Stored) → IsBytes bytes → is_version version ≡ true → has_title version session bytes ≡ true → slot_fields version volumes bytes ≡ Some s → SlotRead version volumes session bytes s
slot_read version volumes session bytes s fits known titled e =
    let count = from_be_bytes w16 (slice_range bytes 13 15) in
    let front = and_parts (nat_le 15 (length bytes)) (bytes_eq (title version session) (take 12 bytes)) titled in
    let one = bind_some (level_of_number version (slice_index bytes 12)) (λ level. rows_in version volumes count (drop 15 bytes) >>= (λ rows. Some (record { level = level; rows = rows }))) s e in
    let two = bind_some (rows_in version volumes count (drop 15 bytes)) (λ rows. Some (record { level = one.0; rows = rows })) s one.2 in
    let kept = kept_is volumes (rows_at version count (drop 15 bytes)) two.0 two.1 in
    let many = rows_count version count (drop 15 bytes) two.0 kept.0 in
    let read = rows_read version count (drop 15 bytes) two.0 (IsBytes-drop 15 bytes fits) kept.0 in
    let are = rows_parts volumes two.0 kept.1 in
    let level = level_read version (slice_index bytes 12) one.0 one.1 in
    let end : drop (row_length version * count) (drop 15 bytes) ≡ drop (slot_length version two.0) bytes =
    drop-drop (row_length version * count) 15 bytes ∙ ap (λ (k : ℕ). drop (15 + row_length version * k) bytes) (sym many) in
    let spelled = titled_then version session bytes (leb-true 15 (length bytes) front.0) fits ((bytes_eq-Decides (title version session) (take 12 bytes)).0 front.1) one.0 level.number count refl two.0
    (drop (slot_length version two.0) bytes) many (read.spelled ∙ ap (λ (t : List ℕ). rows_spelling version two.0 ++ t) end) in
    subst (SlotRead version volumes session bytes) (same_Some (record { level = one.0; rows = two.0 }) s two.2) (record {
      of = record { known = known; level = level.has; rows = read.each };
      spelled = spelled;
      rules = record { each = are_all_rows version two.0 read.each; apart = are.apart; few = are.few };
      below = are.below;
    })

pub states_spelled : StatesAreSpelled
states_spelled volumes session bytes s fits e = by_titles (has_title 2 session bytes) (has_title 1 session bytes) refl refl e
  where
    Spelled : Type 0
    Spelled = ((version : ℕ) × IsOfVersion version s × (bytes ≡ slot_text version session s.level s.rows ++ drop (slot_length version s.rows) bytes)) × AreRowsSound s.rows × (are_below volumes s.rows ≡ true)

    from_slot : (version : ℕ) → SlotRead version volumes session bytes s → Spelled
    from_slot version read = ((version, read.of, read.spelled), read.rules, read.below)

    by_titles : (second first : Bool) → has_title 2 session bytes ≡ second → has_title 1 session bytes ≡ first → cond second (slot_fields 2 volumes bytes) (cond first (slot_fields 1 volumes bytes) None) ≡ Some s → Spelled
    by_titles true first two one e = from_slot 2 (slot_read 2 volumes session bytes s fits refl two e)
    by_titles false true two one e = from_slot 1 (slot_read 1 volumes session bytes s fits refl one e)
    by_titles false false two one e = absurd cc
