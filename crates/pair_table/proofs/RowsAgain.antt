-- What a row spells is read again.
use Rattle.std.proofs.Common.{◌≡◌, ℕ, ◌^◌, ◌<◌, Bool, true, false, cond, List, [], ◌++◌, length, take, drop, Option, Some, None, refl, sym, ap, ◌∙◌, append_assoc, append-nil, arith, length-append}
use Rattle.std.specs.Prelude.{bytes_eq, slice_range, slice_index}
use Rattle.std.specs.Int.{w16, w32, w64, from_be_bytes}
use Rattle.std.proofs.lemmas.Bool.{eq-eqb, ltb-true}
use Rattle.std.proofs.lemmas.List.{take_at, drop_at}
use Rattle.std.proofs.lemmas.Slice.Eq.{bytes_eq-Decides}
use Rattle.tod_stamp.specs.Names.{serial_field, name_in}
use Rattle.tod_stamp.proofs.FieldLaws.{wide16, wide32, wide64}
use Rattle.tod_stamp.proofs.NameLaws.{length-name_field, names_back}
use Rattle.pair_table.specs.declared.row.SuspendCause.TheVariants.{Command, Device, Session, Control, Group}
use Rattle.pair_table.specs.declared.row.PairState.{PairState}
use Rattle.pair_table.specs.declared.row.PairState.TheVariants.{Pending, Copy, Duplex, Suspended}
use Rattle.pair_table.specs.declared.row.PairRow.{PairRow}
use Rattle.pair_table.specs.Rows.{keeps_row_rules, is_group, is_state, state_numbers, state_spelling, numbers_spelling, no_group, group_field, row_spelling, state_of_numbers, group_of_field, allowed, row_with, row_at}
use Rattle.pair_table.specs.Laws.{RowsReadBack}
use Rattle.pair_table.proofs.RowRules.{row_keeps, row_rules}
use Rattle.pair_table.proofs.FieldPlaces.{drop_past, index_past}
use Rattle.tod_stamp.specs.Options.{◌>>=◌}

-- 38 bytes whose names, state and group are read
pub read_row : (bytes primary secondary : List ℕ) (state : PairState) (group : Option (List ℕ)) → length bytes ≡ 38 → name_in 6 (slice_range bytes 0 6) ≡ Some primary → name_in 6 (slice_range bytes 6 12) ≡ Some secondary
    → state_of_numbers (slice_index bytes 22) (slice_index bytes 23) (from_be_bytes w64 (slice_range bytes 24 32)) ≡ Some state → group_of_field (slice_range bytes 32 38) ≡ Some group
    → row_at bytes ≡ allowed (row_with bytes primary secondary state group)
read_row bytes primary secondary state group len p s t g = rw (eq-eqb (length bytes) 38 len, p, s, t, g) refl

pub allowed_row : (r : PairRow) → keeps_row_rules r ≡ true → allowed r ≡ Some r
allowed_row r keeps = rw keeps refl

state_again : (state : PairState) → state_of_numbers (state_numbers state).0 (state_numbers state).1 (state_numbers state).2 ≡ Some state
state_again Pending = refl
state_again Copy = refl
state_again Duplex = refl
state_again (Suspended Command since) = refl
state_again (Suspended Device since) = refl
state_again (Suspended Session since) = refl
state_again (Suspended Control since) = refl
state_again (Suspended Group since) = refl

pub length-group : (group : Option (List ℕ)) → is_group group ≡ true → length (group_field group) ≡ 6
length-group None ok = refl
length-group (Some name) ok = length-name_field 6 name ok

-- no name's field has spaces alone
group_again : (group : Option (List ℕ)) → is_group group ≡ true → group_of_field (group_field group) ≡ Some group
group_again None ok = refl
group_again (Some name) ok = choose (bytes_eq (serial_field name) no_group) refl
  where
    named : name_in 6 (serial_field name) ≡ Some name
    named = names_back 6 name ok

    none : name_in 6 no_group ≡ None
    none = refl

    choose : (b : Bool) → bytes_eq (serial_field name) no_group ≡ b → cond b (Some None) (name_in 6 (serial_field name) >>= (λ n. Some (Some n))) ≡ Some (Some name)
    choose true same =
        let both : Some name ≡ None = sym named ∙ ap (name_in 6) ((bytes_eq-Decides (serial_field name) no_group).0 same) ∙ none in
        absurd cc
    choose false same = rw named refl

time_fits : (state : PairState) → is_state state ≡ true → (state_numbers state).2 < 2 ^ 64
time_fits Pending ok = omega arith
time_fits Copy ok = omega arith
time_fits Duplex ok = omega arith
time_fits (Suspended cause since) ok = ltb-true since.0 (2 ^ 64) ok

pub rows_back : RowsReadBack
rows_back r is =
    let rules = row_rules r is in
    let a = serial_field r.primary in
    let b = serial_field r.secondary in
    let g = group_field r.group in
    let rest = numbers_spelling r ++ (state_spelling r.state ++ g) in
    let a_len : length a ≡ 6 = length-name_field 6 r.primary rules.primary in
    let b_len : length b ≡ 6 = length-name_field 6 r.secondary rules.secondary in
    let front_len : length (a ++ b) ≡ 12 = omega (arith, a_len, b_len, length-append a b) in
    let bytes = (a ++ b) ++ rest in
    let g_len : length g ≡ 6 = length-group r.group rules.group in
    let whole : row_spelling r ≡ bytes =
    append_assoc (a ++ b ++ numbers_spelling r) (state_spelling r.state) g ∙ append_assoc (a ++ b) (numbers_spelling r) (state_spelling r.state ++ g) in
    let len : length bytes ≡ 38 = omega (arith, front_len, g_len, length-append (a ++ b) rest) in
    let first : slice_range bytes 0 6 ≡ a = ap (take 6) (append_assoc a b rest) ∙ take_at a (b ++ rest) 6 a_len in
    let second : slice_range bytes 6 12 ≡ b = ap (λ (t : List ℕ). take 6 (drop 6 t)) (append_assoc a b rest) ∙ ap (take 6) (drop_at a (b ++ rest) 6 a_len) ∙ take_at b rest 6 b_len in
    let name = ap (name_in 6) first ∙ names_back 6 r.primary rules.primary in
    let other = ap (name_in 6) second ∙ names_back 6 r.secondary rules.secondary in
    let state_byte : slice_index bytes 22 ≡ (state_numbers r.state).0 = index_past (a ++ b) rest 12 10 22 front_len refl in
    let cause_byte : slice_index bytes 23 ≡ (state_numbers r.state).1 = index_past (a ++ b) rest 12 11 23 front_len refl in
    let time : from_be_bytes w64 (slice_range bytes 24 32) ≡ (state_numbers r.state).2 =
    ap (λ (t : List ℕ). from_be_bytes w64 (take 8 t)) (drop_past (a ++ b) rest 12 12 24 front_len refl) ∙ wide64.again (state_numbers r.state).2 (time_fits r.state rules.state) in
    let last : slice_range bytes 32 38 ≡ g = ap (take 6) (drop_past (a ++ b) rest 12 20 32 front_len refl ∙ sym (append-nil g)) ∙ take_at g [] 6 g_len in
    let group = ap group_of_field last ∙ group_again r.group rules.group in
    let state : state_of_numbers (slice_index bytes 22) (slice_index bytes 23) (from_be_bytes w64 (slice_range bytes 24 32)) ≡ Some r.state = rw (state_byte, cause_byte, time) (state_again r.state) in
    let control : from_be_bytes w16 (slice_range bytes 12 14) ≡ r.control =
    ap (λ (t : List ℕ). from_be_bytes w16 (take 2 t)) (drop_past (a ++ b) rest 12 0 12 front_len refl) ∙ wide16.again r.control (omega (arith, rules.control)) in
    let volume : from_be_bytes w16 (slice_range bytes 14 16) ≡ r.volume =
    ap (λ (t : List ℕ). from_be_bytes w16 (take 2 t)) (drop_past (a ++ b) rest 12 2 14 front_len refl) ∙ wide16.again r.volume (omega (arith, rules.volume)) in
    let device : from_be_bytes w16 (slice_range bytes 16 18) ≡ r.device =
    ap (λ (t : List ℕ). from_be_bytes w16 (take 2 t)) (drop_past (a ++ b) rest 12 4 16 front_len refl) ∙ wide16.again r.device rules.device in
    let cylinders : from_be_bytes w32 (slice_range bytes 18 22) ≡ r.cylinders =
    ap (λ (t : List ℕ). from_be_bytes w32 (take 4 t)) (drop_past (a ++ b) rest 12 6 18 front_len refl) ∙ wide32.again r.cylinders (omega (arith, rules.few)) in
    let row : row_with bytes r.primary r.secondary r.state r.group ≡ r = rw (control, volume, device, cylinders) refl in
    ap row_at whole ∙ read_row bytes r.primary r.secondary r.state r.group len name other state group ∙ ap allowed row ∙ allowed_row r (row_keeps r is)
