-- Rows and what they became, place by place.
use Rattle.std.proofs.Common.{◌≡◌, ◌⊎◌, inl, inr, ℕ, zero, suc, Bool, true, false, not, cond, nat_eq, ◌&&◌, ◌||◌, List, [], ◌∷◌, map, take, Some, refl, sym, ap, subst, ◌∙◌, true≢false, slice_get}
use Rattle.std.specs.List.{Contains, list_all, list_any}
use Rattle.std.proofs.lemmas.Bool.{and_from, and_left, and_parts, and_right, eq-eqb, eqb-true, or_left, or_parts, or_right}
use Rattle.std.proofs.lemmas.Option.{same_Some, slice_get-get_or, slice_get_within, get_or_from_slice_get}
use Rattle.pair_table.specs.declared.row.PairRow.{PairRow}
use Rattle.pair_table.specs.declared.row.PairState.{PairState}
use Rattle.pair_table.specs.declared.row.PairState.TheVariants.{Pending, Copy, Duplex, Suspended}
use Rattle.pair_table.specs.Rows.{is_suspended}
use Rattle.pair_table.specs.Tables.{clashes, in_state, none_clash}
use Rattle.pair_table.proofs.TableLaws.{first_apart}
use Rattle.pair_table.specs.States.{is_device_suspended}
use Rattle.record_rows.specs.ToldRows.{InPlaces}
use Rattle.fed_logs.specs.Moves.{AreFewer}
use Rattle.mover.specs.Moves.{Fades, KeepPairs, KeepsPair, is_row_of_volume, row_of_volume}

-- ---- places

and_last : (b : Bool) → (b && true) ≡ b
and_last true = refl
and_last false = refl

pub true_of_not : (b : Bool) → not b ≡ false → b ≡ true
true_of_not true e = refl
true_of_not false e = absurd cc

and_first : (a b c : Bool) → (a && (b && c)) ≡ ((a && b) && c)
and_first true b c = refl
and_first false b c = refl

module _ {X : Type 0} where
  pub at_of : (xs : List X) (x : X) → Contains xs x → (i : ℕ) × (slice_get xs i ≡ Some x)
  at_of xs x has = (has.0, slice_get-get_or xs has.0 x has.1 ∙ (λ j. Some (has.2 j)))

  pub contains_at : (xs : List X) (i : ℕ) (x : X) → slice_get xs i ≡ Some x → Contains xs x
  contains_at xs i x at = (i, slice_get_within xs i x at, get_or_from_slice_get xs i x x at)

  pub none_there : (p : X → Bool) (xs : List X) (i : ℕ) (x : X) → list_any p xs ≡ false → slice_get xs i ≡ Some x → p x ≡ false
  none_there p [] i x none at = absurd cc
  none_there p (y ∷ xs) zero x none at = subst (λ (z : X). p z ≡ false) (same_Some y x at) (or_parts (p y) (list_any p xs) none).0
  none_there p (y ∷ xs) (suc i) x none at = none_there p xs i x (or_parts (p y) (list_any p xs) none).1 at

  pub any_there : (p : X → Bool) (xs : List X) (i : ℕ) (x : X) → slice_get xs i ≡ Some x → p x ≡ true → list_any p xs ≡ true
  any_there p [] i x at is = absurd cc
  any_there p (y ∷ xs) zero x at is = or_left (p y) (list_any p xs) (ap p (same_Some y x at) ∙ is)
  any_there p (y ∷ xs) (suc i) x at is = or_right (p y) (list_any p xs) (any_there p xs i x at is)

  pub all_more : (p : X → Bool) (xs : List X) (i : ℕ) (x : X) → slice_get xs i ≡ Some x → list_all p (take (suc i) xs) ≡ (list_all p (take i xs) && p x)
  all_more p [] i x at = absurd cc
  all_more p (y ∷ xs) zero x at = and_last (p y) ∙ ap p (same_Some y x at)
  all_more p (y ∷ xs) (suc i) x at = ap (λ (b : Bool). p y && b) (all_more p xs i x at) ∙ and_first (p y) (list_all p (take i xs)) (p x)

  pub all_there : (p : X → Bool) (xs : List X) (i : ℕ) (x : X) → slice_get xs i ≡ Some x → p x ≡ false → list_all p xs ≡ false
  all_there p [] i x at none = absurd cc
  all_there p (y ∷ xs) zero x at none = and_left (p y) (list_all p xs) (ap p (same_Some y x at) ∙ none)
  all_there p (y ∷ xs) (suc i) x at none = and_right (p y) (list_all p xs) (all_there p xs i x at none)

-- ---- a relation in each place

module _ (R : PairRow → PairRow → Type 0) where
  pub each_self : ((r : PairRow) → R r r) → (rows : List PairRow) → InPlaces R rows rows
  each_self self [] = tt
  each_self self (r ∷ rows) = (self r, each_self self rows)

  pub each_mapped : (f : PairRow → PairRow) → ((r : PairRow) → R r (f r)) → (rows : List PairRow) → InPlaces R rows (map f rows)
  each_mapped f is [] = tt
  each_mapped f is (r ∷ rows) = (is r, each_mapped f is rows)

  -- the row that one was
  pub record Before (rows : List PairRow) (i : ℕ) (s : PairRow) : Type 0 where
    pub row : PairRow
    pub at : slice_get rows i ≡ Some row
    pub is : R row s

  pub before : (rows next : List PairRow) (i : ℕ) (s : PairRow) → InPlaces R rows next → slice_get next i ≡ Some s → Before rows i s
  before [] [] i s are at = absurd cc
  before [] (t ∷ next) i s are at = absurd are
  before (r ∷ rows) [] i s are at = absurd are
  before (r ∷ rows) (t ∷ next) zero s are at = record { row = r; at = refl; is = subst (R r) (same_Some t s at) are.0 }
  before (r ∷ rows) (t ∷ next) (suc i) s are at = let b = before rows next i s are.1 at in record { row = b.row; at = b.at; is = b.is }

module _ (R S : PairRow → PairRow → Type 0) (more : (r s : PairRow) → R r s → S r s) where
  pub each_more : (rows next : List PairRow) → InPlaces R rows next → InPlaces S rows next
  each_more [] [] are = tt
  each_more [] (s ∷ next) are = are
  each_more (r ∷ rows) [] are = are
  each_more (r ∷ rows) (s ∷ next) are = (more r s are.0, each_more rows next are.1)

module _ (R S T : PairRow → PairRow → Type 0) (then : (r s t : PairRow) → R r s → S s t → T r t) where
  pub each_then : (rows mid next : List PairRow) → InPlaces R rows mid → InPlaces S mid next → InPlaces T rows next
  each_then [] [] [] a b = tt
  each_then [] [] (t ∷ next) a b = b
  each_then [] (s ∷ mid) next a b = absurd a
  each_then (r ∷ rows) [] next a b = absurd a
  each_then (r ∷ rows) (s ∷ mid) [] a b = b
  each_then (r ∷ rows) (s ∷ mid) (t ∷ next) a b = (then r s t a.0 b.0, each_then rows mid next a.1 b.1)

-- ---- rows of the same pairs

pub suspended_by_device : (state : PairState) → is_device_suspended state ≡ true → is_suspended state ≡ true
suspended_by_device Pending e = absurd cc
suspended_by_device Copy e = absurd cc
suspended_by_device Duplex e = absurd cc
suspended_by_device (Suspended cause since) e = refl

-- A suspended row stays as it is unless its own device suspends it.
abbrev pub StaysGone : (was is : PairState) → Type 0
StaysGone was is = is_suspended was ≡ true → (is ≡ was) ⊎ (is_device_suspended is ≡ true)

pub device_still : (was is : PairState) → StaysGone was is → is_device_suspended was ≡ true → is_device_suspended is ≡ true
device_still was is gone hit = elim (gone (suspended_by_device was hit)) [
  | inl same ↦ ap is_device_suspended same ∙ hit
  | inr again ↦ again
]

pub gone_then : (was mid is : PairState) → StaysGone was mid → StaysGone mid is → StaysGone was is
gone_then was mid is first then gone = elim (first gone) [
  | inl same ↦ elim (then (ap is_suspended same ∙ gone)) [
    | inl still ↦ inl (still ∙ same)
    | inr hit ↦ inr hit
  ]
  | inr hit ↦ inr (device_still mid is then hit)
]

pub same_pair : (r s t : PairRow) → s ≡ in_state s.state r → t ≡ in_state t.state s → t ≡ in_state t.state r
same_pair r s t a b = b ∙ ap (λ (x : PairRow). in_state t.state x) a

pub pair_self : (r : PairRow) → KeepsPair r r
pair_self r = record { same = refl; live = λ is. is; gone = λ is. inl refl; duplex = λ is live. is }

pub pair_then : (r s t : PairRow) → KeepsPair r s → KeepsPair s t → KeepsPair r t
pair_then r s t a b = record {
  same = same_pair r s t a.same b.same;
  live = λ is. a.live (b.live is);
  gone = gone_then r.state s.state t.state a.gone b.gone;
  duplex = λ is live. b.duplex (a.duplex is (b.live live)) live;
}

pub fade_self : (r : PairRow) → Fades r r
fade_self r = record { same = refl; fades = inl refl; gone = λ is. inl refl }

pub live_before : (r s : PairRow) → Fades r s → is_suspended s.state ≡ false → s.state ≡ r.state
live_before r s f is = elim f.fades [
  | inl same ↦ same
  | inr gone ↦ absurd (true≢false (sym gone ∙ is))
]

pub fade_pair : (r s : PairRow) → Fades r s → KeepsPair r s
fade_pair r s f = record {
  same = f.same;
  live = λ is. ap is_suspended (sym (live_before r s f is)) ∙ is;
  gone = f.gone;
  duplex = λ is live. live_before r s f live ∙ is;
}

pub still_self : (rows : List PairRow) → KeepPairs rows rows
still_self = each_self KeepsPair pair_self

pub still_then : (rows mid next : List PairRow) → KeepPairs rows mid → KeepPairs mid next → KeepPairs rows next
still_then = each_then KeepsPair KeepsPair KeepsPair pair_then

-- ---- fewer are live and duplex

module _ (rows next : List PairRow) (are : InPlaces Fades rows next) where
  pub fewer_of : AreFewer rows next
  fewer_of = record {
    live = λ k v has. let at = at_of next has.row has.among in let b = before Fades rows next at.0 has.row are at.1 in
        record { row = b.row; among = contains_at rows at.0 b.row b.at; control = ap (λ (x : PairRow). x.control) (sym b.is.same) ∙ has.control; volume = ap (λ (x : PairRow). x.volume) (sym b.is.same) ∙ has.volume; state = ap is_suspended (sym (live_before b.row has.row b.is has.state)) ∙ has.state };
    duplex = λ k v has. let at = at_of next has.row has.among in let b = before Fades rows next at.0 has.row are at.1 in
        record { row = b.row; among = contains_at rows at.0 b.row b.at; control = ap (λ (x : PairRow). x.control) (sym b.is.same) ∙ has.control; volume = ap (λ (x : PairRow). x.volume) (sym b.is.same) ∙ has.volume; state = sym (live_before b.row has.row b.is (ap is_suspended has.state)) ∙ has.state };
  }

-- ---- no two rows clash still

clash_same : (r s t u : PairRow) → s ≡ in_state s.state r → u ≡ in_state u.state t → clashes s u ≡ clashes r t
clash_same r s t u a b = ap (λ (x : PairRow). clashes x u) a ∙ ap (λ (y : PairRow). clashes (in_state s.state r) y) b

any_clash : (r s : PairRow) → s ≡ in_state s.state r → (rows next : List PairRow) → KeepPairs rows next → list_any (clashes s) next ≡ list_any (clashes r) rows
any_clash r s same [] [] are = refl
any_clash r s same [] (u ∷ next) are = absurd are
any_clash r s same (t ∷ rows) [] are = absurd are
any_clash r s same (t ∷ rows) (u ∷ next) are = λ i. clash_same r s t u same are.0.same i || any_clash r s same rows next are.1 i

pub apart_still : (rows next : List PairRow) → KeepPairs rows next → none_clash rows ≡ true → none_clash next ≡ true
apart_still rows next are apart = same rows next are ∙ apart
  where
    same : (rows next : List PairRow) → KeepPairs rows next → none_clash next ≡ none_clash rows
    same [] [] are = refl
    same [] (s ∷ next) are = absurd are
    same (r ∷ rows) [] are = absurd are
    same (r ∷ rows) (s ∷ next) are = λ i. not (any_clash r s are.0.same rows next are.1 i) && same rows next are.1 i

-- ---- one row of a volume

pub clash_by_names : (r s : PairRow) → r.control ≡ s.control → r.volume ≡ s.volume → clashes r s ≡ true
clash_by_names r s control volume = or_right _ (nat_eq r.control s.control && nat_eq r.volume s.volume) (and_from (nat_eq r.control s.control) (nat_eq r.volume s.volume) (eq-eqb r.control s.control control) (eq-eqb r.volume s.volume volume))

pub one_row : (rows : List PairRow) (i j : ℕ) (r s : PairRow) → none_clash rows ≡ true → slice_get rows i ≡ Some r → slice_get rows j ≡ Some s → r.control ≡ s.control → r.volume ≡ s.volume → r ≡ s
one_row [] i j r s apart a b control volume = absurd cc
one_row (x ∷ rows) zero zero r s apart a b control volume = sym (same_Some x r a) ∙ same_Some x s b
one_row (x ∷ rows) zero (suc j) r s apart a b control volume =
    let x_is = same_Some x r a in
    absurd (true≢false (sym (clash_by_names x s (ap (λ (y : PairRow). y.control) x_is ∙ control) (ap (λ (y : PairRow). y.volume) x_is ∙ volume)) ∙ none_there (clashes x) rows j s (first_apart x rows apart).first b))
one_row (x ∷ rows) (suc i) zero r s apart a b control volume =
    let x_is = same_Some x s b in
    absurd (true≢false (sym (clash_by_names x r (ap (λ (y : PairRow). y.control) x_is ∙ sym control) (ap (λ (y : PairRow). y.volume) x_is ∙ sym volume)) ∙ none_there (clashes x) rows i r (first_apart x rows apart).first a))
one_row (x ∷ rows) (suc i) (suc j) r s apart a b control volume = one_row rows i j r s (first_apart x rows apart).others a b control volume

-- A volume has its row in the same place still.
pub record FoundStill (k v : ℕ) (rows next : List PairRow) (r : PairRow) : Type 0 where
  pub row : PairRow
  pub place : ℕ
  pub was_at : slice_get rows place ≡ Some r
  pub at : slice_get next place ≡ Some row
  pub found : row_of_volume k v next ≡ Some row
  pub is : KeepsPair r row
  pub control : r.control ≡ k
  pub volume : r.volume ≡ v

pub found_still : (k v : ℕ) (rows next : List PairRow) (r : PairRow) → KeepPairs rows next → row_of_volume k v rows ≡ Some r → FoundStill k v rows next r
found_still k v [] [] r are found = absurd cc
found_still k v [] (s ∷ next) r are found = absurd are
found_still k v (x ∷ rows) [] r are found = absurd are
found_still k v (x ∷ rows) (y ∷ next) r are found = choose (λ e. found_still k v rows next r are.1 e) (is_row_of_volume k v x) refl found
  where
    same : is_row_of_volume k v y ≡ is_row_of_volume k v x
    same = ap (is_row_of_volume k v) are.0.same

    later : is_row_of_volume k v x ≡ false → FoundStill k v rows next r → FoundStill k v (x ∷ rows) (y ∷ next) r
    later other f = record { row = f.row; place = suc f.place; was_at = f.was_at; at = f.at; found = (λ i. cond ((same ∙ other) i) (Some y) (row_of_volume k v next)) ∙ f.found; is = f.is; control = f.control; volume = f.volume }

    choose : (row_of_volume k v rows ≡ Some r → FoundStill k v rows next r) → (b : Bool) → is_row_of_volume k v x ≡ b → cond b (Some x) (row_of_volume k v rows) ≡ Some r → FoundStill k v (x ∷ rows) (y ∷ next) r
    choose on true is e =
        let x_is = same_Some x r e in
        let names = and_parts (nat_eq x.control k) (nat_eq x.volume v) is in
        record {
          row = y;
          place = 0;
          was_at = e;
          at = refl;
          found = λ i. cond ((same ∙ is) i) (Some y) (row_of_volume k v next);
          is = subst (λ (z : PairRow). KeepsPair z y) x_is are.0;
          control = ap (λ (z : PairRow). z.control) (sym x_is) ∙ eqb-true x.control k names.0;
          volume = ap (λ (z : PairRow). z.volume) (sym x_is) ∙ eqb-true x.volume v names.1;
        }
    choose on false other e = later other (on e)
