-- Rows of version 1, by the rows of version 2 that their widened bytes are.
use Rattle.std.proofs.Common.{◌≡◌, ℕ, zero, suc, ◌≤◌, true, not, nat_eq, nat_le, ◌&&◌, List, [], ◌∷◌, ◌++◌, length, take, drop, Option, Some, None, refl, sym, ap, subst, ◌∙◌, append_assoc, append-nil, arith, length-append, length-take}
use Rattle.std.specs.Prelude.{slice_range, slice_index, is_none}
use Rattle.std.proofs.lemmas.Bool.{eq-eqb, eqb-true, leb-true}
use Rattle.std.proofs.lemmas.List.{take_at, drop_at, drop_more, at_drop_all}
use Rattle.tod_stamp.specs.Fields.{IsBytes}
use Rattle.tod_stamp.specs.Names.{name_in, serial_field}
use Rattle.tod_stamp.specs.Options.{◌>>=◌}
use Rattle.tod_stamp.proofs.FieldLaws.{IsBytes-take}
use Rattle.tod_stamp.proofs.NameLaws.{length-name_field, names_back}
use Rattle.pair_table.specs.declared.row.PairRow.{PairRow}
use Rattle.pair_table.specs.Rows.{if_narrow, is_group, is_narrow, is_narrow_row, is_row, narrow_row_at, narrow_spelling, no_group, numbers_spelling, group_field, state_spelling, row_at, row_spelling, widened}
use Rattle.pair_table.specs.States.{is_group_suspended}
use Rattle.pair_table.specs.Laws.{NarrowRowsAreSpelled, NarrowRowsKeepRules, NarrowRowsReadBack}
use Rattle.pair_table.proofs.FieldPlaces.{drop_past, field_and_rest, index_past, IsBytes-field, length-field}
use Rattle.pair_table.proofs.RowReads.{bind_some, rows_keep, rows_spelled, some_is, where_true}
use Rattle.pair_table.proofs.RowRules.{and_true, both_true, row_rules}
use Rattle.pair_table.proofs.RowsAgain.{length-group, rows_back}

IsBytes-append : (xs ys : List ℕ) → IsBytes xs → IsBytes ys → IsBytes (xs ++ ys)
IsBytes-append [] ys front back i = back i
IsBytes-append (x ∷ xs) ys front back zero = front 0
IsBytes-append (x ∷ xs) ys front back (suc i) = IsBytes-append xs ys (λ k. front (suc k)) back i

spaces_fit : IsBytes no_group
spaces_fit zero = omega arith
spaces_fit (suc zero) = omega arith
spaces_fit (suc (suc zero)) = omega arith
spaces_fit (suc (suc (suc zero))) = omega arith
spaces_fit (suc (suc (suc (suc zero)))) = omega arith
spaces_fit (suc (suc (suc (suc (suc zero))))) = omega arith
spaces_fit (suc (suc (suc (suc (suc (suc i)))))) = omega arith

zeros_fit : IsBytes (0 ∷ 0 ∷ [])
zeros_fit zero = omega arith
zeros_fit (suc zero) = omega arith
zeros_fit (suc (suc i)) = omega arith

widened_fits : (bytes : List ℕ) → IsBytes bytes → IsBytes (widened bytes)
widened_fits bytes fits =
    IsBytes-append (take 18 bytes ++ (0 ∷ 0 ∷ []) ++ slice_range bytes 18 30) no_group
    (IsBytes-append (take 18 bytes ++ (0 ∷ 0 ∷ [])) (slice_range bytes 18 30) (IsBytes-append (take 18 bytes) (0 ∷ 0 ∷ []) (IsBytes-take 18 bytes fits) zeros_fit) (IsBytes-field bytes 18 30 fits)) spaces_fit

-- what stands before the zeros and between zeros and spaces
narrowed : List ℕ → List ℕ
narrowed wide = take 18 wide ++ slice_range wide 20 32

-- two parts of 18 and 12 bytes, widened
wide_of : (front back : List ℕ) → List ℕ
wide_of front back = front ++ (0 ∷ 0 ∷ []) ++ back ++ no_group

grouped : (front back : List ℕ) → wide_of front back ≡ front ++ (0 ∷ 0 ∷ (back ++ no_group))
unfolding wide_of
grouped front back = append_assoc (front ++ (0 ∷ 0 ∷ [])) back no_group ∙ append_assoc front (0 ∷ 0 ∷ []) (back ++ no_group)

narrowed_of : (front back : List ℕ) → length front ≡ 18 → length back ≡ 12 → narrowed (wide_of front back) ≡ front ++ back
unfolding narrowed
narrowed_of front back eighteen twelve =
    let same = grouped front back in
    let first : take 18 (wide_of front back) ≡ front = ap (take 18) same ∙ take_at front (0 ∷ 0 ∷ (back ++ no_group)) 18 eighteen in
    let second : slice_range (wide_of front back) 20 32 ≡ back =
    ap (λ (t : List ℕ). take 12 (drop 20 t)) same ∙ ap (take 12) (drop_past front (0 ∷ 0 ∷ (back ++ no_group)) 18 2 20 eighteen refl) ∙ take_at back no_group 12 twelve in
    λ i. first i ++ second i

-- 30 bytes are their first 18 and the other 12
parts : (bytes : List ℕ) → length bytes ≡ 30 → bytes ≡ take 18 bytes ++ slice_range bytes 18 30
parts bytes len =
    let x = slice_range bytes 18 30 in
    field_and_rest bytes 0 18 (omega arith)
    ∙ ap (λ (t : List ℕ). take 18 bytes ++ t) (field_and_rest bytes 18 30 (omega arith) ∙ ap (λ (t : List ℕ). x ++ t) (at_drop_all (λ t. t) bytes 30 (omega (arith, len))) ∙ append-nil x)

-- what was read of a row of version 1
record NarrowRead (bytes : List ℕ) (r : PairRow) : Type 0 where
  long : length bytes ≡ 30
  wide : row_at (widened bytes) ≡ Some r
  narrow : is_narrow r ≡ true

narrow_read : (bytes : List ℕ) (r : PairRow) → narrow_row_at bytes ≡ Some r → NarrowRead bytes r
narrow_read bytes r e =
    let zero = where_true (nat_eq (length bytes) 30) (row_at (widened bytes) >>= if_narrow) r e in
    let one = bind_some (row_at (widened bytes)) if_narrow r zero.1 in
    let two = where_true (is_narrow one.0) (Some one.0) r one.2 in
    let same = some_is one.0 r two.1 in
    record {
      long = eqb-true (length bytes) 30 zero.0;
      wide = one.1 ∙ ap (λ (x : PairRow). Some x) same;
      narrow = subst (λ (x : PairRow). is_narrow x ≡ true) same two.0;
    }

widened_is : (bytes : List ℕ) → widened bytes ≡ wide_of (take 18 bytes) (slice_range bytes 18 30)
unfolding wide_of
widened_is bytes = refl

pub narrow_spelled : NarrowRowsAreSpelled
unfolding narrowed
narrow_spelled bytes r fits e =
    let read = narrow_read bytes r e in
    let front : length (take 18 bytes) ≡ 18 = omega (arith, length-take 18 bytes, read.long) in
    let back : length (slice_range bytes 18 30) ≡ 12 = length-field bytes 18 30 (omega arith) (omega (arith, read.long)) in
    let wide : widened bytes ≡ row_spelling r = rows_spelled (widened bytes) r (widened_fits bytes fits) read.wide in
    parts bytes read.long ∙ sym (narrowed_of (take 18 bytes) (slice_range bytes 18 30) front back) ∙ ap narrowed (sym (widened_is bytes) ∙ wide)

-- ---- its parts, as the row is spelled

-- The spelling of a row of version 1, widened, is the row's.
record WideAgain (r : PairRow) : Type 0 where
  spelled : row_spelling r ≡ wide_of (take 18 (row_spelling r)) (slice_range (row_spelling r) 20 32)
  long : length (row_spelling r) ≡ 38

wide_again : (r : PairRow) → is_row r ≡ true → r.cylinders ≤ 65520 → r.group ≡ None → WideAgain r
wide_again r is few none =
    let rules = row_rules r is in
    let a = serial_field r.primary in
    let b = serial_field r.secondary in
    let g = group_field r.group in
    let rest = numbers_spelling r ++ (state_spelling r.state ++ g) in
    let front_len : length (a ++ b) ≡ 12 = omega (arith, length-name_field 6 r.primary rules.primary, length-name_field 6 r.secondary rules.secondary, length-append a b) in
    let g_len : length g ≡ 6 = length-group r.group rules.group in
    let whole : row_spelling r ≡ (a ++ b) ++ rest =
    append_assoc (a ++ b ++ numbers_spelling r) (state_spelling r.state) g ∙ append_assoc (a ++ b) (numbers_spelling r) (state_spelling r.state ++ g) in
    let w = row_spelling r in
    let len : length w ≡ 38 = ap length whole ∙ omega (arith, front_len, g_len, length-append (a ++ b) rest) in
    let high : slice_index w 18 ≡ 0 = ap (λ (t : List ℕ). slice_index t 18) whole ∙ index_past (a ++ b) rest 12 6 18 front_len refl ∙ omega (arith, few) in
    let next : slice_index w 19 ≡ 0 = ap (λ (t : List ℕ). slice_index t 19) whole ∙ index_past (a ++ b) rest 12 7 19 front_len refl ∙ omega (arith, few) in
    let last : drop 32 w ≡ no_group = ap (drop 32) whole ∙ drop_past (a ++ b) rest 12 20 32 front_len refl ∙ ap group_field none in
    let back = slice_range w 20 32 in
    let tail : drop 20 w ≡ back ++ no_group = field_and_rest w 20 32 (omega arith) ∙ ap (λ (t : List ℕ). back ++ t) last in
    let zeros : drop 18 w ≡ 0 ∷ 0 ∷ (back ++ no_group) =
    drop_more w 18 0 (omega (arith, len)) ∙ ap (λ (t : List ℕ). slice_index w 18 ∷ t) (drop_more w 19 0 (omega (arith, len))) ∙ (λ i. high i ∷ next i ∷ tail i) in
    record { spelled = field_and_rest w 0 18 (omega arith) ∙ ap (λ (t : List ℕ). take 18 w ++ t) zeros ∙ sym (grouped (take 18 w) back); long = len }

-- the rules of a row of version 1
pub record NarrowRules (r : PairRow) : Type 0 where
  pub row : is_row r ≡ true
  pub narrow : is_narrow r ≡ true
  pub few : r.cylinders ≤ 65520
  pub none : r.group ≡ None

none_is : (group : Option (List ℕ)) → is_none group ≡ true → group ≡ None
none_is None e = refl
none_is (Some name) e = absurd cc

pub narrow_rules : (r : PairRow) → is_narrow_row r ≡ true → NarrowRules r
narrow_rules r is =
    let a = both_true (is_row r && is_narrow r) (is_none r.group) is in
    let b = both_true (is_row r) (is_narrow r) a.0 in
    let c = both_true (nat_le r.cylinders 65520) (not (is_group_suspended r.state)) b.1 in
    record { row = b.0; narrow = b.1; few = leb-true r.cylinders 65520 c.0; none = none_is r.group a.1 }

pub narrow_back : NarrowRowsReadBack
unfolding wide_of
narrow_back r is =
    let rules = narrow_rules r is in
    let again = wide_again r rules.row rules.few rules.none in
    let w = row_spelling r in
    let n = narrow_spelling r in
    let front = take 18 w in
    let back = slice_range w 20 32 in
    let eighteen : length front ≡ 18 = omega (arith, length-take 18 w, again.long) in
    let twelve : length back ≡ 12 = length-field w 20 32 (omega arith) (omega (arith, again.long)) in
    let len : length n ≡ 30 = omega (arith, length-append front back, eighteen, twelve) in
    let first : take 18 n ≡ front = take_at front back 18 eighteen in
    let second : slice_range n 18 30 ≡ back = ap (take 12) (drop_at front back 18 eighteen ∙ sym (append-nil back)) ∙ take_at back [] 12 twelve in
    let wide : widened n ≡ w = (λ i. first i ++ (0 ∷ 0 ∷ []) ++ second i ++ no_group) ∙ sym again.spelled in
    let read : row_at (widened n) ≡ Some r = ap row_at wide ∙ rows_back r rules.row in
    rw (eq-eqb (length n) 30 len, read, rules.narrow) refl

-- a name's field isn't spaces alone
no_name : (group : Option (List ℕ)) → is_group group ≡ true → group_field group ≡ no_group → is_none group ≡ true
no_name None ok e = refl
no_name (Some name) ok e =
    let both : Some name ≡ None = sym (names_back 6 name ok) ∙ ap (name_in 6) e in
    absurd cc

last_field : (r : PairRow) → is_row r ≡ true → drop 32 (row_spelling r) ≡ group_field r.group
last_field r is =
    let rules = row_rules r is in
    let a = serial_field r.primary in
    let b = serial_field r.secondary in
    let g = group_field r.group in
    let rest = numbers_spelling r ++ (state_spelling r.state ++ g) in
    let front_len : length (a ++ b) ≡ 12 = omega (arith, length-name_field 6 r.primary rules.primary, length-name_field 6 r.secondary rules.secondary, length-append a b) in
    let whole : row_spelling r ≡ (a ++ b) ++ rest =
    append_assoc (a ++ b ++ numbers_spelling r) (state_spelling r.state) g ∙ append_assoc (a ++ b) (numbers_spelling r) (state_spelling r.state ++ g) in
    ap (drop 32) whole ∙ drop_past (a ++ b) rest 12 20 32 front_len refl

last_spaces : (bytes : List ℕ) → length bytes ≡ 30 → drop 32 (widened bytes) ≡ no_group
last_spaces bytes len =
    let back = slice_range bytes 18 30 in
    let front = take 18 bytes ++ (0 ∷ 0 ∷ []) ++ back in
    let eighteen : length (take 18 bytes) ≡ 18 = omega (arith, length-take 18 bytes, len) in
    let twelve : length back ≡ 12 = length-field bytes 18 30 (omega arith) (omega (arith, len)) in
    drop_at front no_group 32 (omega (arith, eighteen, twelve, length-append (take 18 bytes ++ (0 ∷ 0 ∷ [])) back, length-append (take 18 bytes) (0 ∷ 0 ∷ [])))

pub narrow_keep : NarrowRowsKeepRules
narrow_keep bytes r fits e =
    let read = narrow_read bytes r e in
    let is = rows_keep (widened bytes) r (widened_fits bytes fits) read.wide in
    let spelled = rows_spelled (widened bytes) r (widened_fits bytes fits) read.wide in
    let none = no_name r.group (row_rules r is).group (sym (last_field r is) ∙ ap (drop 32) (sym spelled) ∙ last_spaces bytes read.long) in
    and_true (is_row r && is_narrow r) (is_none r.group) (and_true (is_row r) (is_narrow r) is read.narrow) none
