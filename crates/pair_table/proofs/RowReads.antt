-- What is read as a row was spelled so, and keeps the rules.
use Rattle.std.proofs.Common.{◌≡◌, ℕ, ◌^◌, ◌<◌, ◌≤◌, Bool, true, false, cond, nat_eq, nat_lt, ◌&&◌, List, ◌∷◌, ◌++◌, length, drop, Option, Some, None, refl, sym, ap, subst, ◌∙◌, append_assoc, append-nil, arith}
use Rattle.std.specs.Prelude.{bytes_eq, slice_range, slice_index}
use Rattle.std.specs.Int.{w64, to_be_bytes, from_be_bytes}
use Rattle.std.proofs.lemmas.Bool.{eqb-true, lt-ltb}
use Rattle.std.proofs.lemmas.List.{drop_more, at_drop_all}
use Rattle.std.proofs.lemmas.Slice.Eq.{bytes_eq-Decides}
use Rattle.tod_stamp.specs.Fields.{IsBytes}
use Rattle.tod_stamp.specs.Names.{is_serial, serial_field, is_field, before_spaces, name_in}
use Rattle.tod_stamp.proofs.FieldLaws.{wide16, wide64}
use Rattle.tod_stamp.proofs.NameLaws.{fields_spelled}
use Rattle.pair_table.specs.declared.row.SuspendCause.{SuspendCause}
use Rattle.pair_table.specs.declared.row.SuspendCause.TheVariants.{Command, Device, Session, Control, Group}
use Rattle.pair_table.specs.declared.row.PairState.{PairState}
use Rattle.pair_table.specs.declared.row.PairState.TheVariants.{Pending, Copy, Duplex, Suspended}
use Rattle.pair_table.specs.declared.row.PairRow.{PairRow}
use Rattle.pair_table.specs.Rows.{keeps_row_rules, is_group, is_state, is_row, cause_number, state_numbers, state_spelling, no_group, group_field, row_spelling, cause_of_number, causeless_state, state_of_numbers, group_of_field, allowed, row_with, fields_of, row_at}
use Rattle.pair_table.specs.Laws.{RowsAreSpelled, RowsKeepRules}
use Rattle.pair_table.proofs.RowRules.{both_true, is_row_by}
use Rattle.pair_table.proofs.FieldPlaces.{field_and_rest, IsBytes-field, long_spelled, number_spelled, time_spelled}
use Rattle.tod_stamp.specs.Options.{◌>>=◌}

-- ---- steps that gave a value

pub some_is : {A : Type 0} (a b : A) → (let x : Option A = Some a in let y : Option A = Some b in x ≡ y) → a ≡ b
some_is a b e = cc

pub bind_some : {A B : Type 0} (o : Option A) (f : A → Option B) (y : B) → (o >>= f) ≡ Some y → (x : A) × (o ≡ Some x) × (f x ≡ Some y)
bind_some (Some x) f y e = (x, refl, e)
bind_some None f y e = absurd cc

pub where_true : {A : Type 0} (b : Bool) (o : Option A) (y : A) → cond b o None ≡ Some y → (b ≡ true) × (o ≡ Some y)
where_true true o y e = (refl, e)
where_true false o y e = absurd cc

-- ---- names

name_read : (bytes name : List ℕ) → name_in 6 bytes ≡ Some name → (serial_field name ≡ bytes) × (is_serial name ≡ true)
name_read bytes name e =
    let one = where_true (nat_eq (length bytes) 6 && is_field 6 bytes) (Some (before_spaces bytes)) name e in
    let test = both_true (nat_eq (length bytes) 6) (is_field 6 bytes) one.0 in
    let spelled = fields_spelled 6 bytes (eqb-true (length bytes) 6 test.0) test.1 in
    let valid = both_true (is_serial (before_spaces bytes)) _ test.1 in
    subst (λ (n : List ℕ). (serial_field n ≡ bytes) × (is_serial n ≡ true)) (some_is (before_spaces bytes) name one.1) (spelled, valid.0)

-- ---- states

cause_read : (n : ℕ) (cause : SuspendCause) → cause_of_number n ≡ Some cause → cause_number cause ≡ n
cause_read n cause e = first (nat_eq n 1) refl e
  where
    is : (k : ℕ) (x : SuspendCause) → nat_eq n k ≡ true → cause_number x ≡ k → x ≡ cause → cause_number cause ≡ n
    is k x at number same = sym (ap cause_number same) ∙ number ∙ sym (eqb-true n k at)

    fifth : (b : Bool) → nat_eq n 5 ≡ b → cond b (Some Group) None ≡ Some cause → cause_number cause ≡ n
    fifth true at e = is 5 Group at refl (some_is Group cause e)
    fifth false at e = absurd cc

    fourth : (b : Bool) → nat_eq n 4 ≡ b → cond b (Some Control) (cond (nat_eq n 5) (Some Group) None) ≡ Some cause → cause_number cause ≡ n
    fourth true at e = is 4 Control at refl (some_is Control cause e)
    fourth false at e = fifth (nat_eq n 5) refl e

    third : (b : Bool) → nat_eq n 3 ≡ b → cond b (Some Session) (cond (nat_eq n 4) (Some Control) (cond (nat_eq n 5) (Some Group) None)) ≡ Some cause → cause_number cause ≡ n
    third true at e = is 3 Session at refl (some_is Session cause e)
    third false at e = fourth (nat_eq n 4) refl e

    second : (b : Bool) → nat_eq n 2 ≡ b → cond b (Some Device) (cond (nat_eq n 3) (Some Session) (cond (nat_eq n 4) (Some Control) (cond (nat_eq n 5) (Some Group) None))) ≡ Some cause → cause_number cause ≡ n
    second true at e = is 2 Device at refl (some_is Device cause e)
    second false at e = third (nat_eq n 3) refl e

    first : (b : Bool) → nat_eq n 1 ≡ b → cond b (Some Command) (cond (nat_eq n 2) (Some Device) (cond (nat_eq n 3) (Some Session) (cond (nat_eq n 4) (Some Control) (cond (nat_eq n 5) (Some Group) None)))) ≡ Some cause → cause_number cause ≡ n
    first true at e = is 1 Command at refl (some_is Command cause e)
    first false at e = second (nat_eq n 2) refl e

plain_read : (n : ℕ) (state : PairState) → causeless_state n ≡ Some state → (state_numbers state ≡ (n, 0, 0)) × (is_state state ≡ true)
plain_read n state e = first (nat_eq n 0) refl e
  where
    Is : PairState → Type 0
    Is s = (state_numbers s ≡ (n, 0, 0)) × (is_state s ≡ true)

    third : (b : Bool) → nat_eq n 2 ≡ b → cond b (Some Duplex) None ≡ Some state → Is state
    third true at e = subst Is (some_is Duplex state e) (ap (λ (k : ℕ). (k, 0, 0)) (sym (eqb-true n 2 at)), refl)
    third false at e = absurd cc

    second : (b : Bool) → nat_eq n 1 ≡ b → cond b (Some Copy) (cond (nat_eq n 2) (Some Duplex) None) ≡ Some state → Is state
    second true at e = subst Is (some_is Copy state e) (ap (λ (k : ℕ). (k, 0, 0)) (sym (eqb-true n 1 at)), refl)
    second false at e = third (nat_eq n 2) refl e

    first : (b : Bool) → nat_eq n 0 ≡ b → cond b (Some Pending) (cond (nat_eq n 1) (Some Copy) (cond (nat_eq n 2) (Some Duplex) None)) ≡ Some state → Is state
    first true at e = subst Is (some_is Pending state e) (ap (λ (k : ℕ). (k, 0, 0)) (sym (eqb-true n 0 at)), refl)
    first false at e = second (nat_eq n 1) refl e

-- the numbers of a state that was read
record StateRead (n c t : ℕ) (state : PairState) : Type 0 where
  numbers : state_numbers state ≡ (n, c, t)
  valid : is_state state ≡ true

state_read : (n c t : ℕ) (state : PairState) → t < 2 ^ 64 → state_of_numbers n c t ≡ Some state → StateRead n c t state
state_read n c t state fits e = choose (nat_eq n 3) refl e
  where
    named : SuspendCause → Option PairState
    named cause = Some (Suspended cause (record { 0 = t }))

    choose : (b : Bool) → nat_eq n 3 ≡ b → cond b (cause_of_number c >>= named) (cond (nat_eq c 0 && nat_eq t 0) (causeless_state n) None) ≡ Some state → StateRead n c t state
    choose true at e =
        let one = bind_some (cause_of_number c) named state e in
        let cause = cause_read c one.0 one.1 in
        subst (StateRead n c t) (some_is (Suspended one.0 (record { 0 = t })) state one.2)
        (record { numbers = ap (λ (k : ℕ). (k, cause_number one.0, t)) (sym (eqb-true n 3 at)) ∙ ap (λ (k : ℕ). (n, k, t)) cause; valid = lt-ltb t (2 ^ 64) fits })
    choose false at e =
        let one = where_true (nat_eq c 0 && nat_eq t 0) (causeless_state n) state e in
        let zeros = both_true (nat_eq c 0) (nat_eq t 0) one.0 in
        let plain = plain_read n state one.1 in
        record { numbers = plain.0 ∙ ap (λ (k : ℕ). (n, k, 0)) (sym (eqb-true c 0 zeros.0)) ∙ ap (λ (k : ℕ). (n, c, k)) (sym (eqb-true t 0 zeros.1)); valid = plain.1 }

-- ---- groups

group_read : (field : List ℕ) (group : Option (List ℕ)) → group_of_field field ≡ Some group → (group_field group ≡ field) × (is_group group ≡ true)
group_read field group e = choose (bytes_eq field no_group) refl e
  where
    Is : Option (List ℕ) → Type 0
    Is g = (group_field g ≡ field) × (is_group g ≡ true)

    choose : (b : Bool) → bytes_eq field no_group ≡ b → cond b (Some None) (name_in 6 field >>= (λ n. Some (Some n))) ≡ Some group → Is group
    choose true same e =
        let none : (let x : Option (List ℕ) = None in x ≡ group) = some_is None group e in
        subst Is none (sym ((bytes_eq-Decides field no_group).0 same), refl)
    choose false same e =
        let one = bind_some (name_in 6 field) (λ n. Some (Some n)) group e in
        subst Is (some_is (Some one.0) group one.2) (name_read field one.0 one.1)

-- ---- rows

-- the parts of 38 bytes that were read as a row
record RowRead (bytes : List ℕ) (r : PairRow) : Type 0 where
  primary : List ℕ
  secondary : List ℕ
  state : PairState
  group : Option (List ℕ)
  long : length bytes ≡ 38
  name : name_in 6 (slice_range bytes 0 6) ≡ Some primary
  other : name_in 6 (slice_range bytes 6 12) ≡ Some secondary
  states : state_of_numbers (slice_index bytes 22) (slice_index bytes 23) (from_be_bytes w64 (slice_range bytes 24 32)) ≡ Some state
  groups : group_of_field (slice_range bytes 32 38) ≡ Some group
  rules : keeps_row_rules r ≡ true
  is : row_with bytes primary secondary state group ≡ r

row_read : (bytes : List ℕ) (r : PairRow) → row_at bytes ≡ Some r → RowRead bytes r
row_read bytes r e =
    let numbers = state_of_numbers (slice_index bytes 22) (slice_index bytes 23) (from_be_bytes w64 (slice_range bytes 24 32)) in
    let last_field = group_of_field (slice_range bytes 32 38) in
    let zero = where_true (nat_eq (length bytes) 38) (fields_of bytes) r e in
    let one = bind_some (name_in 6 (slice_range bytes 0 6)) (λ p. name_in 6 (slice_range bytes 6 12) >>= (λ s. numbers >>= (λ t. last_field >>= (λ g. allowed (row_with bytes p s t g))))) r zero.1 in
    let two = bind_some (name_in 6 (slice_range bytes 6 12)) (λ s. numbers >>= (λ t. last_field >>= (λ g. allowed (row_with bytes one.0 s t g)))) r one.2 in
    let three = bind_some numbers (λ t. last_field >>= (λ g. allowed (row_with bytes one.0 two.0 t g))) r two.2 in
    let four = bind_some last_field (λ g. allowed (row_with bytes one.0 two.0 three.0 g)) r three.2 in
    let row = row_with bytes one.0 two.0 three.0 four.0 in
    let last = where_true (keeps_row_rules row) (Some row) r four.2 in
    let is : row ≡ r = some_is row r last.1 in
    record {
      primary = one.0;
      secondary = two.0;
      state = three.0;
      group = four.0;
      long = eqb-true (length bytes) 38 zero.0;
      name = one.1;
      other = two.1;
      states = three.1;
      groups = four.1;
      rules = subst (λ (x : PairRow). keeps_row_rules x ≡ true) is last.0;
      is = is;
    }

time_below : (bytes : List ℕ) → IsBytes bytes → from_be_bytes w64 (slice_range bytes 24 32) < 2 ^ 64
time_below bytes fits = wide64.below (slice_range bytes 24 32) (IsBytes-field bytes 24 32 fits)

pub rows_keep : RowsKeepRules
rows_keep bytes r fits e =
    let read = row_read bytes r e in
    let row = row_with bytes read.primary read.secondary read.state read.group in
    let state = state_read (slice_index bytes 22) (slice_index bytes 23) (from_be_bytes w64 (slice_range bytes 24 32)) read.state (time_below bytes fits) read.states in
    let device : nat_lt row.device (2 ^ 16) ≡ true = lt-ltb row.device (2 ^ 16) (wide16.below (slice_range bytes 16 18) (IsBytes-field bytes 16 18 fits)) in
    let rules : keeps_row_rules row ≡ true = subst (λ (x : PairRow). keeps_row_rules x ≡ true) (sym read.is) read.rules in
    subst (λ (x : PairRow). is_row x ≡ true) read.is
    (is_row_by row (name_read (slice_range bytes 0 6) read.primary read.name).1 (name_read (slice_range bytes 6 12) read.secondary read.other).1 rules device state.valid (group_read (slice_range bytes 32 38) read.group read.groups).1)

regrouped : (a b c d e f g h : List ℕ) → a ++ b ++ (c ++ d ++ e ++ f) ++ g ++ h ≡ a ++ (b ++ (c ++ (d ++ (e ++ (f ++ (g ++ h))))))
regrouped a b c d e f g h = simp append_assoc refl

-- 38 bytes are their fields one after the other
parts : (bytes : List ℕ) → length bytes ≡ 38 → bytes ≡ slice_range bytes 0 6 ++ slice_range bytes 6 12 ++ (slice_range bytes 12 14 ++ slice_range bytes 14 16 ++ slice_range bytes 16 18 ++ slice_range bytes 18 22)
    ++ (slice_index bytes 22 ∷ slice_index bytes 23 ∷ slice_range bytes 24 32) ++ slice_range bytes 32 38
parts bytes len =
    let x1 = slice_range bytes 0 6 in
    let x2 = slice_range bytes 6 12 in
    let x3 = slice_range bytes 12 14 in
    let x4 = slice_range bytes 14 16 in
    let x5 = slice_range bytes 16 18 in
    let x6 = slice_range bytes 18 22 in
    let x8 = slice_range bytes 32 38 in
    let end : drop 32 bytes ≡ x8 =
    field_and_rest bytes 32 38 (omega arith) ∙ ap (λ (t : List ℕ). x8 ++ t) (at_drop_all (λ t. t) bytes 38 (omega (arith, len))) ∙ append-nil x8 in
    let time : drop 24 bytes ≡ slice_range bytes 24 32 ++ x8 = field_and_rest bytes 24 32 (omega arith) ∙ ap (λ (t : List ℕ). slice_range bytes 24 32 ++ t) end in
    let tail : drop 22 bytes ≡ slice_index bytes 22 ∷ slice_index bytes 23 ∷ (slice_range bytes 24 32 ++ x8) =
    drop_more bytes 22 0 (omega (arith, len)) ∙ ap (λ (t : List ℕ). slice_index bytes 22 ∷ t) (drop_more bytes 23 0 (omega (arith, len)))
    ∙ ap (λ (t : List ℕ). slice_index bytes 22 ∷ slice_index bytes 23 ∷ t) time in
    field_and_rest bytes 0 6 (omega arith)
    ∙ ap (λ (t : List ℕ). x1 ++ t) (field_and_rest bytes 6 12 (omega arith))
    ∙ ap (λ (t : List ℕ). x1 ++ (x2 ++ t)) (field_and_rest bytes 12 14 (omega arith))
    ∙ ap (λ (t : List ℕ). x1 ++ (x2 ++ (x3 ++ t))) (field_and_rest bytes 14 16 (omega arith))
    ∙ ap (λ (t : List ℕ). x1 ++ (x2 ++ (x3 ++ (x4 ++ t)))) (field_and_rest bytes 16 18 (omega arith))
    ∙ ap (λ (t : List ℕ). x1 ++ (x2 ++ (x3 ++ (x4 ++ (x5 ++ t))))) (field_and_rest bytes 18 22 (omega arith))
    ∙ ap (λ (t : List ℕ). x1 ++ (x2 ++ (x3 ++ (x4 ++ (x5 ++ (x6 ++ t)))))) tail
    ∙ sym (regrouped x1 x2 x3 x4 x5 x6 (slice_index bytes 22 ∷ slice_index bytes 23 ∷ slice_range bytes 24 32) x8)

pub rows_spelled : RowsAreSpelled
rows_spelled bytes r fits e =
    let read = row_read bytes r e in
    let row = row_with bytes read.primary read.secondary read.state read.group in
    let primary = (name_read (slice_range bytes 0 6) read.primary read.name).0 in
    let secondary = (name_read (slice_range bytes 6 12) read.secondary read.other).0 in
    let state = state_read (slice_index bytes 22) (slice_index bytes 23) (from_be_bytes w64 (slice_range bytes 24 32)) read.state (time_below bytes fits) read.states in
    let group = (group_read (slice_range bytes 32 38) read.group read.groups).0 in
    let within : (to : ℕ) → to ≤ 38 → to ≤ length bytes = λ to le. omega (arith, le, read.long) in
    let control = number_spelled bytes 12 14 (omega arith) (within 14 (omega arith)) refl fits in
    let volume = number_spelled bytes 14 16 (omega arith) (within 16 (omega arith)) refl fits in
    let device = number_spelled bytes 16 18 (omega arith) (within 18 (omega arith)) refl fits in
    let cylinders = long_spelled bytes 18 22 (omega arith) (within 22 (omega arith)) refl fits in
    let time = time_spelled bytes 24 32 (omega arith) (within 32 (omega arith)) refl fits in
    let states : state_spelling read.state ≡ slice_index bytes 22 ∷ slice_index bytes 23 ∷ slice_range bytes 24 32 =
    ap (λ (n : ℕ × ℕ × ℕ). n.0 ∷ n.1 ∷ to_be_bytes w64 n.2) state.numbers ∙ ap (λ (t : List ℕ). slice_index bytes 22 ∷ slice_index bytes 23 ∷ t) time in
    let spelled : row_spelling row ≡ slice_range bytes 0 6 ++ slice_range bytes 6 12 ++ (slice_range bytes 12 14 ++ slice_range bytes 14 16 ++ slice_range bytes 16 18 ++ slice_range bytes 18 22)
    ++ (slice_index bytes 22 ∷ slice_index bytes 23 ∷ slice_range bytes 24 32) ++ slice_range bytes 32 38 =
    λ i. primary i ++ secondary i ++ (control i ++ volume i ++ device i ++ cylinders i) ++ states i ++ group i in
    parts bytes read.long ∙ sym spelled ∙ ap row_spelling read.is
