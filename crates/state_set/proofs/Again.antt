-- A state that is spelled is read again.
use Rattle.std.proofs.Common.{◌≡◌, inl, inr, ℕ, ◌+◌, ◌≤◌, true, List, [], ◌∷◌, ◌++◌, length, take, drop, slice_index, Some, refl, sym, ap, ◌∙◌, arith, append_assoc, length-append}
use Rattle.std.specs.Prelude.{bytes_eq, codes, slice_range}
use Rattle.std.specs.List.{list_all}
use Rattle.std.specs.Int.{w16, to_be_bytes, from_be_bytes}
use Rattle.std.proofs.lemmas.Bool.{and_parts, false_from_ne_true}
use Rattle.std.proofs.lemmas.List.{take_at, drop_at}
use Rattle.std.proofs.lemmas.Slice.Eq.{bytes_eq-Decides}
use Rattle.tod_stamp.specs.Fields.{is_version}
use Rattle.tod_stamp.specs.Names.{session_field, is_session}
use Rattle.tod_stamp.proofs.FieldLaws.{wide16}
use Rattle.tod_stamp.proofs.NameLaws.{length-name_field}
use Rattle.tod_stamp.proofs.Versions.{one_or_two}
use Rattle.pair_table.specs.declared.level.Level.{Level}
use Rattle.pair_table.specs.declared.level.Level.TheVariants.{Volume, Session, Group}
use Rattle.pair_table.specs.declared.row.PairRow.{PairRow}
use Rattle.pair_table.specs.Rows.{is_version_row, row_length, row_text}
use Rattle.pair_table.proofs.FieldPlaces.{drop_past, index_past}
use Rattle.pair_table.proofs.Versions.{text_length, version_back}
use Rattle.state_set.specs.Slots.{title, is_level, level_number, rows_spelling, slot_text, level_of_number, slot_fields, rows_at, kept, rows_in, state_at}
use Rattle.state_set.specs.Laws.{StatesReadBack, VersionsReadBack}
use Rattle.state_set.proofs.After.{rows_from}
use Rattle.state_set.proofs.Fields.{with_level, of_level, is_first, is_second}

-- ---- rows

pub rows_again : (version : ℕ) (rows : List PairRow) (rest : List ℕ) → list_all (is_version_row version) rows ≡ true → rows_at version (length rows) (rows_spelling version rows ++ rest) ≡ Some rows
rows_again version [] rest e = refl
rows_again version (r ∷ rows) rest e =
    let parts = and_parts (is_version_row version r) (list_all (is_version_row version) rows) e in
    let one = row_text version r in
    let others = rows_spelling version rows ++ rest in
    let whole : rows_spelling version (r ∷ rows) ++ rest ≡ one ++ others = append_assoc one (rows_spelling version rows) rest in
    let long = text_length version r parts.0 in
    rw (whole, take_at one others (row_length version) long, drop_at one others (row_length version) long, version_back version r parts.0, rows_again version rows rest parts.1) refl

-- ---- the fields before them

pub length-title : (version : ℕ) (session : List ℕ) → is_session session ≡ true → length (title version session) ≡ 12
length-title version session is = omega (arith, length-append (codes "XST") ((48 + version) ∷ session_field session), length-name_field 8 session is)

level_again : (version : ℕ) (level : Level) → is_level version level ≡ true → level_of_number version (level_number level) ≡ Some level
level_again version Volume is = refl
level_again version Session is = refl
level_again version Group is = rw is refl

-- what stands after the title
abbrev after_title : (version : ℕ) → Level → List PairRow → List ℕ → List ℕ
after_title version level rows rest = level_number level ∷ to_be_bytes w16 (length rows) ++ (rows_spelling version rows ++ rest)

pub titled_is : (version : ℕ) (session : List ℕ) (level : Level) (rows : List PairRow) (rest : List ℕ) → slot_text version session level rows ++ rest ≡ title version session ++ after_title version level rows rest
titled_is version session level rows rest =
    append_assoc (title version session ++ (level_number level ∷ to_be_bytes w16 (length rows))) (rows_spelling version rows) rest
    ∙ append_assoc (title version session) (level_number level ∷ to_be_bytes w16 (length rows)) (rows_spelling version rows ++ rest)

-- ---- the version

-- No title is that of both versions.
titles_differ : (session : List ℕ) → title 2 session ≡ title 1 session → ⊥
titles_differ session same = omega (arith, ap (λ (t : List ℕ). slice_index t 3) same)

-- Bytes with the title of a version are read as that version's.
of_title : (version volumes : ℕ) (session bytes : List ℕ) → is_version version ≡ true → 15 ≤ length bytes → take 12 bytes ≡ title version session → state_at volumes session bytes ≡ slot_fields version volumes bytes
of_title version volumes session bytes known long titled = elim (one_or_two version known) [
  | inl one ↦
      let at : take 12 bytes ≡ title 1 session = titled ∙ ap (λ v. title v session) one in
      let first = (bytes_eq-Decides (title 1 session) (take 12 bytes)).1 (sym at) in
      let second = false_from_ne_true (bytes_eq (title 2 session) (take 12 bytes)) (λ e. titles_differ session ((bytes_eq-Decides (title 2 session) (take 12 bytes)).0 e ∙ at)) in
      is_first volumes session bytes long second first ∙ ap (λ v. slot_fields v volumes bytes) (sym one)
  | inr two ↦
      let at : take 12 bytes ≡ title 2 session = titled ∙ ap (λ v. title v session) two in
      is_second volumes session bytes long ((bytes_eq-Decides (title 2 session) (take 12 bytes)).1 (sym at)) ∙ ap (λ v. slot_fields v volumes bytes) (sym two)
]

module _ (version : ℕ) (session : List ℕ) (is : is_session session ≡ true) (level : Level) (rows : List PairRow) (rest : List ℕ) where
  title_again : take 12 (title version session ++ after_title version level rows rest) ≡ title version session
  title_again = take_at (title version session) (after_title version level rows rest) 12 (length-title version session is)

  long_enough : 15 ≤ length (title version session ++ after_title version level rows rest)
  long_enough = omega (arith, length-title version session is, length-append (title version session) (after_title version level rows rest))

  level_there : slice_index (title version session ++ after_title version level rows rest) 12 ≡ level_number level
  level_there = index_past (title version session) (after_title version level rows rest) 12 0 12 (length-title version session is) refl

  count_there : length rows ≤ 64 → from_be_bytes w16 (slice_range (title version session ++ after_title version level rows rest) 13 15) ≡ length rows
  count_there few = ap (λ (t : List ℕ). from_be_bytes w16 (take 2 t)) (drop_past (title version session) (after_title version level rows rest) 12 1 13 (length-title version session is) refl) ∙ wide16.again (length rows) (omega (arith, few))

  rows_there : drop 15 (title version session ++ after_title version level rows rest) ≡ rows_spelling version rows ++ rest
  rows_there = drop_past (title version session) (after_title version level rows rest) 12 3 15 (length-title version session is) refl

pub versions_back : VersionsReadBack
versions_back version volumes session s rest of is keeps below =
    let level = s.level in
    let rows = s.rows in
    let bytes = title version session ++ after_title version level rows rest in
    let titled = of_title version volumes session bytes of.known (long_enough version session is level rows rest) (title_again version session is level rows rest) in
    let fields = of_level version volumes bytes level (ap (level_of_number version) (level_there version session is level rows rest) ∙ level_again version level of.level) in
    let are = rows_from volumes rows (record { few = keeps.few; apart = keeps.apart; below = below }) in
    let read : rows_in version volumes (from_be_bytes w16 (slice_range bytes 13 15)) (drop 15 bytes) ≡ Some rows =
    ap (λ (n : ℕ). rows_in version volumes n (drop 15 bytes)) (count_there version session is level rows rest keeps.few)
    ∙ ap (λ (t : List ℕ). rows_in version volumes (length rows) t) (rows_there version session is level rows rest)
    ∙ ap (kept volumes) (rows_again version rows rest of.rows)
    ∙ rw are refl in
    ap (state_at volumes session) (titled_is version session level rows rest) ∙ titled ∙ fields ∙ ap (with_level level) read

any_level : (level : Level) → is_level 2 level ≡ true
any_level Volume = refl
any_level Session = refl
any_level Group = refl

pub states_back : StatesReadBack
states_back volumes session level rows rest is keeps below =
    versions_back 2 volumes session (record { level = level; rows = rows }) rest (record { known = refl; level = any_level level; rows = keeps.each }) is keeps below
