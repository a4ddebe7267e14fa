-- Rows that are read one after the other.
use Rattle.std.proofs.Common.{◌≡◌, ℕ, zero, suc, ◌+◌, ◌*◌, ◌-◌, ◌<◌, ◌≤◌, Bool, true, false, cond, nat_eq, List, [], ◌∷◌, ◌++◌, length, take, drop, Option, Some, None, refl, sym, ap, subst, ◌∙◌, arith, append_assoc, append-nil, length-drop}
use Rattle.std.specs.Prelude.{slice_range, slice_index}
use Rattle.std.proofs.Math.Nat.{mul-suc}
use Rattle.std.specs.Int.{w64, from_be_bytes}
use Rattle.std.proofs.lemmas.List.{take-take, drop-take}
use Rattle.std.proofs.lemmas.Option.{cond_some, same_Some}
use Rattle.tod_stamp.specs.Names.{name_in}
use Rattle.pair_table.specs.declared.row.PairRow.{PairRow}
use Rattle.pair_table.specs.Rows.{keeps_row_rules, allowed, row_with, state_of_numbers, group_of_field, fields_of, if_narrow, is_narrow, narrow_row_at, row_at, row_by, row_length, widened}
use Rattle.pair_table.proofs.RowReads.{where_true}
use Rattle.state_set.specs.Slots.{are_rows, rows_at, kept, rows_in}
use Rattle.state_set.proofs.After.{not_then, rows_front}
use Rattle.tod_stamp.specs.Options.{◌>>=◌}

-- the value of a step that gave one
pub bind_some : {A B : Type 0} (o : Option A) (f : A → Option B) (y : B) → (o >>= f) ≡ Some y → (x : A) × (o ≡ Some x) × (f x ≡ Some y)
bind_some (Some x) f y e = (x, refl, e)
bind_some None f y e = absurd cc

-- a row that is read keeps the rules that types leave open
wide_keeps : (bytes : List ℕ) (r : PairRow) → row_at bytes ≡ Some r → keeps_row_rules r ≡ true
wide_keeps bytes r e =
    let numbers = state_of_numbers (slice_index bytes 22) (slice_index bytes 23) (from_be_bytes w64 (slice_range bytes 24 32)) in
    let group = group_of_field (slice_range bytes 32 38) in
    let zero = cond_fields e in
    let one = bind_some (name_in 6 (slice_range bytes 0 6)) (λ p. name_in 6 (slice_range bytes 6 12) >>= (λ s. numbers >>= (λ t. group >>= (λ g. allowed (row_with bytes p s t g))))) r zero in
    let two = bind_some (name_in 6 (slice_range bytes 6 12)) (λ s. numbers >>= (λ t. group >>= (λ g. allowed (row_with bytes one.0 s t g)))) r one.2 in
    let three = bind_some numbers (λ t. group >>= (λ g. allowed (row_with bytes one.0 two.0 t g))) r two.2 in
    let four = bind_some group (λ g. allowed (row_with bytes one.0 two.0 three.0 g)) r three.2 in
    allowed_keeps (row_with bytes one.0 two.0 three.0 four.0) four.2
  where
    cond_fields : row_at bytes ≡ Some r → fields_of bytes ≡ Some r
    cond_fields e = by_length _ e
      where
        by_length : (b : Bool) → cond b (fields_of bytes) None ≡ Some r → fields_of bytes ≡ Some r
        by_length true e = e
        by_length false e = absurd cc

    allowed_keeps : (x : PairRow) → allowed x ≡ Some r → keeps_row_rules r ≡ true
    allowed_keeps x e = let parts = cond_some (keeps_row_rules x) x r e in subst (λ (y : PairRow). keeps_row_rules y ≡ true) parts.1 parts.0

narrow_keeps : (bytes : List ℕ) (r : PairRow) → narrow_row_at bytes ≡ Some r → keeps_row_rules r ≡ true
narrow_keeps bytes r e =
    let zero = where_true (nat_eq (length bytes) 30) (row_at (widened bytes) >>= if_narrow) r e in
    let one = bind_some (row_at (widened bytes)) if_narrow r zero.1 in
    let two = where_true (is_narrow one.0) (Some one.0) r one.2 in
    subst (λ (x : PairRow). keeps_row_rules x ≡ true) (same_Some one.0 r two.1) (wide_keeps (widened bytes) one.0 one.1)

pub read_keeps : (version : ℕ) (bytes : List ℕ) (r : PairRow) → row_by version bytes ≡ Some r → keeps_row_rules r ≡ true
read_keeps version bytes r e = by (nat_eq version 1) e
  where
    by : (narrow : Bool) → cond narrow (narrow_row_at bytes) (row_at bytes) ≡ Some r → keeps_row_rules r ≡ true
    by true e = narrow_keeps bytes r e
    by false e = wide_keeps bytes r e

-- ---- the lengths of rows

-- The rows of a table fit into the longest state.
pub rows_fit : (version count : ℕ) → count ≤ 64 → row_length version * count ≤ 2432
rows_fit version count few = by (nat_eq version 1)
  where
    by : (narrow : Bool) → cond narrow 30 38 * count ≤ 2432
    by true = omega (arith, few)
    by false = omega (arith, few)

-- A part and those before it fit: so does it, and they fit into what is left.
part_fits : (part parts all : ℕ) → parts + part ≤ all → part ≤ all
part_fits part parts all le = omega (arith, le)

parts_fit : (part parts all : ℕ) → parts + part ≤ all → parts ≤ all - part
parts_fit part parts all le = omega (arith, le)

whole_is : (part all : ℕ) → part ≤ all → all ≡ part + (all - part)
whole_is part all le = omega (arith, le)

-- one row more
pub one_length : (long count all : ℕ) → long * suc count ≤ all → long ≤ all
one_length long count all le = part_fits long (long * count) all (subst (λ k. k ≤ all) (mul-suc long count) le)

pub other_lengths : (long count all : ℕ) → long * suc count ≤ all → long * count ≤ all - long
other_lengths long count all le = parts_fit long (long * count) all (subst (λ k. k ≤ all) (mul-suc long count) le)

-- so many are read
pub rows_count : (version count : ℕ) (bytes : List ℕ) (rows : List PairRow) → rows_at version count bytes ≡ Some rows → length rows ≡ count
rows_count version zero bytes rows e = ap length (sym (same_Some [] rows e))
rows_count version (suc count) bytes rows e =
    let long = row_length version in
    let one = bind_some (row_by version (take long bytes)) (λ first. rows_at version count (drop long bytes) >>= (λ others. Some (first ∷ others))) rows e in
    let two = bind_some (rows_at version count (drop long bytes)) (λ others. Some (one.0 ∷ others)) rows one.2 in
    ap length (sym (same_Some (one.0 ∷ two.0) rows two.2)) ∙ ap suc (rows_count version count (drop long bytes) two.0 two.1)

-- they stand in the first bytes, as many for each as a row has
pub rows_window : (version count m : ℕ) (bytes : List ℕ) → row_length version * count ≤ m → rows_at version count (take m bytes) ≡ rows_at version count bytes
rows_window version zero m bytes le = refl
rows_window version (suc count) m bytes le =
    let long = row_length version in
    let within = one_length long count m le in
    let first : take long (take m bytes) ≡ take long bytes = take-take long m bytes within in
    let others : drop long (take m bytes) ≡ take (m - long) (drop long bytes) = ap (λ (k : ℕ). drop long (take k bytes)) (whole_is long m within) ∙ drop-take long (m - long) bytes in
    rw (first, others, rows_window version count (m - long) (drop long bytes) (other_lengths long count m le)) refl

-- ---- the rows so far, and those that are left

-- rows, and others after them if there are any to read
abbrev pub rows_then : List PairRow → Option (List PairRow) → Option (List PairRow)
rows_then rows None = None
rows_then rows (Some others) = Some (rows ++ others)

pub after_nothing : (others : Option (List PairRow)) → rows_then [] others ≡ others
after_nothing None = refl
after_nothing (Some others) = refl

-- the rows that the bytes are, where these stand in front of so many that are left
abbrev pub left_at : (version volumes left : ℕ) (rows : List PairRow) (rest : List ℕ) → Option (List PairRow)
left_at version volumes left rows rest = kept volumes (rows_then rows (rows_at version left rest))

module _ (version volumes count counter : ℕ) (rows : List PairRow) (rest : List ℕ) (less : counter < count) where
  one_more : count - counter ≡ suc (count - (counter + 1))
  one_more = omega (arith, less)

  -- where the next row is none, nothing is read
  pub none_next : row_by version (take (row_length version) rest) ≡ None → left_at version volumes (count - counter) rows rest ≡ None
  none_next e = ap (λ (k : ℕ). left_at version volumes k rows rest) one_more ∙ rw e refl

  -- the next row goes to those so far
  pub some_next : (row : PairRow) → row_by version (take (row_length version) rest) ≡ Some row → left_at version volumes (count - counter) rows rest ≡ left_at version volumes (count - (counter + 1)) (rows ++ row ∷ []) (drop (row_length version) rest)
  some_next row e =
      ap (λ (k : ℕ). left_at version volumes k rows rest) one_more
      ∙ rw e (ap (kept volumes) (regroup (rows_at version (count - (counter + 1)) (drop (row_length version) rest))))
    where
      regroup : (others : Option (List PairRow)) → rows_then rows (others >>= (λ t. Some (row ∷ t))) ≡ rows_then (rows ++ row ∷ []) others
      regroup None = refl
      regroup (Some others) = ap Some (sym (append_assoc rows (row ∷ []) others))

  -- the rest has the next row, and the others after it
  pub row_within : row_length version * (count - counter) ≤ length rest → row_length version ≤ length rest
  row_within le = one_length (row_length version) (count - (counter + 1)) (length rest) (subst (λ k. row_length version * k ≤ length rest) one_more le)

  pub others_within : row_length version * (count - counter) ≤ length rest → row_length version * (count - (counter + 1)) ≤ length (drop (row_length version) rest)
  others_within le =
      subst (λ k. row_length version * (count - (counter + 1)) ≤ k) (sym (length-drop (row_length version) rest))
      (other_lengths (row_length version) (count - (counter + 1)) (length rest) (subst (λ k. row_length version * k ≤ length rest) one_more le))

-- rows that break a rule break it with others after them
pub breaks_on : (volumes : ℕ) (rows : List PairRow) (others : Option (List PairRow)) → are_rows volumes rows ≡ false → kept volumes (rows_then rows others) ≡ None
breaks_on volumes rows None e = refl
breaks_on volumes rows (Some others) e = rw (not_then (are_rows volumes (rows ++ others)) (are_rows volumes rows) (rows_front volumes rows others) e) refl

-- at the end
pub all_read : (version volumes left : ℕ) (rows : List PairRow) (rest : List ℕ) → left ≡ 0 → are_rows volumes rows ≡ true → left_at version volumes left rows rest ≡ Some rows
all_read version volumes left rows rest done are =
    ap (λ (k : ℕ). left_at version volumes k rows rest) done ∙ ap (λ (t : List PairRow). kept volumes (Some t)) (append-nil rows) ∙ rw are refl

-- at the start
pub at_start : (version volumes count : ℕ) (bytes : List ℕ) → rows_in version volumes count bytes ≡ left_at version volumes (count - 0) [] bytes
at_start version volumes count bytes = sym (ap (λ (k : ℕ). left_at version volumes k [] bytes) (omega arith) ∙ ap (kept volumes) (after_nothing (rows_at version count bytes)))
