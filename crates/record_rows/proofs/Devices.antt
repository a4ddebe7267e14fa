-- Rows of different devices, look-ups among them, and what changes that keep each row's device leave of both.
use Rattle.std.proofs.Common.{◌≡◌, ℕ, zero, suc, Bool, true, false, not, cond, nat_eq, ◌&&◌, ◌||◌, List, [], ◌∷◌, map, Option, Some, refl, ap, subst, ◌∙◌, slice_get}
use Rattle.std.specs.List.{list_all, list_any}
use Rattle.std.proofs.lemmas.Bool.{and_from, and_parts, eq-eqb, not-true, not_from_false, or_left, or_right}
use Rattle.std.proofs.lemmas.Option.{same_Some}
use Rattle.pair_table.specs.declared.row.PairRow.{PairRow}
use Rattle.pair_table.specs.Tables.{is_of, none_clash, row_of}
use Rattle.pair_table.proofs.PutLaws.{number_sym}
use Rattle.pair_table.proofs.TableLaws.{either_false, first_apart}

-- No two rows have one device.
abbrev pub devices_apart : List PairRow → Bool
devices_apart [] = true
devices_apart (r ∷ rows) = not (list_any (is_of r.device) rows) && devices_apart rows

pub apart_of : (rows : List PairRow) → none_clash rows ≡ true → devices_apart rows ≡ true
apart_of [] apart = refl
apart_of (r ∷ rows) apart =
    let first = first_apart r rows apart in
    and_from (not (list_any (is_of r.device) rows)) (devices_apart rows) (not_from_false (list_any (is_of r.device) rows) first.devices) (apart_of rows first.others)

-- the first of rows of different devices
pub apart_first : (r : PairRow) (rows : List PairRow) → devices_apart (r ∷ rows) ≡ true → (list_any (is_of r.device) rows ≡ false) × (devices_apart rows ≡ true)
apart_first r rows apart =
    let parts = and_parts (not (list_any (is_of r.device) rows)) (devices_apart rows) apart in
    (not-true (list_any (is_of r.device) rows) parts.0, parts.1)

-- No row in a place is of a device of which there is none.
pub none_at : (d : ℕ) (rows : List PairRow) (i : ℕ) (x : PairRow) → list_any (is_of d) rows ≡ false → slice_get rows i ≡ Some x → nat_eq d x.device ≡ false
none_at d [] i x none at = absurd cc
none_at d (r ∷ rows) zero x none at = subst (λ (y : PairRow). nat_eq d y.device ≡ false) (same_Some r x at) (either_false (nat_eq d r.device) (list_any (is_of d) rows) none).0
none_at d (r ∷ rows) (suc i) x none at = none_at d rows i x (either_false (nat_eq d r.device) (list_any (is_of d) rows) none).1 at

-- A row in its place is its device's.
pub row_at_place : (rows : List PairRow) (i : ℕ) (x : PairRow) → devices_apart rows ≡ true → slice_get rows i ≡ Some x → row_of x.device rows ≡ Some x
row_at_place [] i x apart at = absurd cc
row_at_place (r ∷ rows) zero x apart at = subst (λ (y : PairRow). row_of y.device (r ∷ rows) ≡ Some y) (same_Some r x at) here
  where
    here : row_of r.device (r ∷ rows) ≡ Some r
    here = rw (eq-eqb r.device r.device refl) refl
row_at_place (r ∷ rows) (suc i) x apart at =
    let first = apart_first r rows apart in
    after (number_sym x.device r.device ∙ none_at r.device rows i x first.0 at) (row_at_place rows i x first.1 at)
  where
    after : nat_eq x.device r.device ≡ false → row_of x.device rows ≡ Some x → row_of x.device (r ∷ rows) ≡ Some x
    after other found = rw other found

-- ---- changes that keep each row's device

module _ (f : PairRow → PairRow) (keeps : (r : PairRow) → (f r).device ≡ r.device) where
  pub any_in_map : (d : ℕ) (rows : List PairRow) → list_any (is_of d) (map f rows) ≡ list_any (is_of d) rows
  any_in_map d [] = refl
  any_in_map d (r ∷ rows) = λ i. nat_eq d (keeps r i) || any_in_map d rows i

  pub found_in_map : (d : ℕ) (rows : List PairRow) (r : PairRow) → row_of d rows ≡ Some r → row_of d (map f rows) ≡ Some (f r)
  found_in_map d [] r e = absurd cc
  found_in_map d (x ∷ rows) r e = choose (nat_eq d x.device) refl (found_in_map d rows r) e
    where
      choose : (b : Bool) → nat_eq d x.device ≡ b → (row_of d rows ≡ Some r → row_of d (map f rows) ≡ Some (f r)) → cond b (Some x) (row_of d rows) ≡ Some r → row_of d (map f (x ∷ rows)) ≡ Some (f r)
      choose true is next e = rw (ap (nat_eq d) (keeps x) ∙ is) (ap (λ (y : PairRow). let o : Option PairRow = Some (f y) in o) (same_Some x r e))
      choose false is next e = rw (ap (nat_eq d) (keeps x) ∙ is) (next e)

  pub apart_in_map : (rows : List PairRow) → devices_apart rows ≡ true → devices_apart (map f rows) ≡ true
  apart_in_map [] apart = refl
  apart_in_map (r ∷ rows) apart =
      let first = apart_first r rows apart in
      and_from (not (list_any (is_of (f r).device) (map f rows))) (devices_apart (map f rows))
      (not_from_false (list_any (is_of (f r).device) (map f rows)) (ap (λ (d : ℕ). list_any (is_of d) (map f rows)) (keeps r) ∙ any_in_map r.device rows ∙ first.0)) (apart_in_map rows first.1)

  -- Devices that have rows have them still.
  pub still_have : (rows : List PairRow) (devices : List ℕ) → list_all (λ d. list_any (is_of d) rows) devices ≡ true → list_all (λ d. list_any (is_of d) (map f rows)) devices ≡ true
  still_have rows [] have = refl
  still_have rows (d ∷ devices) have =
      let parts = and_parts (list_any (is_of d) rows) (list_all (λ e. list_any (is_of e) rows) devices) have in
      and_from (list_any (is_of d) (map f rows)) (list_all (λ e. list_any (is_of e) (map f rows)) devices) (any_in_map d rows ∙ parts.0) (still_have rows devices parts.1)

-- Two changes make the same of rows if they do so in each place.
pub same_map : (f g : PairRow → PairRow) (rows : List PairRow) → ((i : ℕ) (x : PairRow) → slice_get rows i ≡ Some x → f x ≡ g x) → map f rows ≡ map g rows
same_map f g [] same = refl
same_map f g (r ∷ rows) same = λ i. same zero r refl i ∷ same_map f g rows (λ n x at. same (suc n) x at) i

-- ---- each row's device has a row

more_have : (x : PairRow) (all rows : List PairRow) → list_all (λ r. list_any (is_of r.device) all) rows ≡ true → list_all (λ r. list_any (is_of r.device) (x ∷ all)) rows ≡ true
more_have x all [] have = refl
more_have x all (r ∷ rows) have =
    let parts = and_parts (list_any (is_of r.device) all) (list_all (λ s. list_any (is_of s.device) all) rows) have in
    and_from (list_any (is_of r.device) (x ∷ all)) (list_all (λ s. list_any (is_of s.device) (x ∷ all)) rows) (or_right (nat_eq r.device x.device) (list_any (is_of r.device) all) parts.0) (more_have x all rows parts.1)

pub each_has : (rows : List PairRow) → list_all (λ r. list_any (is_of r.device) rows) rows ≡ true
each_has [] = refl
each_has (r ∷ rows) =
    and_from (list_any (is_of r.device) (r ∷ rows)) (list_all (λ s. list_any (is_of s.device) (r ∷ rows)) rows) (or_left (nat_eq r.device r.device) (list_any (is_of r.device) rows) (eq-eqb r.device r.device refl)) (more_have r rows rows (each_has rows))
