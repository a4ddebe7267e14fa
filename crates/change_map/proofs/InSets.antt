-- Sets as lists of flags: which tracks they have, how many, and the least from a place on.
use Rattle.std.proofs.Common.{nat_eq, nat_lt, not, ◌&&◌, ◌≡◌, ℕ, zero, suc, ◌+◌, ◌-◌, ◌<◌, ◌≤◌, Bool, true, false, cond, ◌||◌, List, [], ◌∷◌, length, drop, inl, inr, refl, sym, ap, ◌∙◌, arith, Option, Some, None}
use Rattle.std.specs.Prelude.{IfSome}
use Rattle.std.proofs.lemmas.Bool.{cases_lt, cases_eq, cond-true, cond-false, true≢false, lt-ltb, le-ltb, eq-eqb, ne_eqb}
use Rattle.std.proofs.lemmas.List.{ext_get_or, get_or-drop, get_or_past, get_or-replicate, get_or-set_same, get_or-set_other, length-set, length-replicate}
use Rattle.std.proofs.lemmas.List.Sums.{sum_by-set}
use Rattle.change_map.specs.Sets.{no_track, every_track, has_track, with_track, without_track, union, size, first_from, least_from, IsLeastFrom, HasNoneFrom}

-- a track that a set has is one of its tracks
pub had_within : (tracks : List Bool) (x : ℕ) → has_track tracks x ≡ true → x < length tracks
had_within tracks x had = elim (cases_lt x (length tracks)) [
  | inl within ↦ within
  | inr past ↦ absurd (true≢false (sym had ∙ get_or_past tracks x false past))
]

-- ---- the least track

first_none : (place : ℕ) (tracks : List Bool) → ((i : ℕ) → has_track tracks i ≡ false) → first_from place tracks ≡ None
first_none place [] none = refl
first_none place (b ∷ tracks) none =
    cond-false b (Some place) (first_from (place + 1) tracks) (none 0) ∙ first_none (place + 1) tracks (λ i. none (suc i))

first_some : (place : ℕ) (tracks : List Bool) (i : ℕ) → has_track tracks i ≡ true → ((j : ℕ) → j < i → has_track tracks j ≡ false)
    → first_from place tracks ≡ Some (place + i)
first_some place [] i here none = absurd (true≢false (sym here))
first_some place (b ∷ tracks) zero here none = cond-true b (Some place) (first_from (place + 1) tracks) here ∙ ap Some (omega arith)
first_some place (b ∷ tracks) (suc i) here none =
    cond-false b (Some place) (first_from (place + 1) tracks) (none 0 (omega arith))
    ∙ first_some (place + 1) tracks i here (λ j before. none (suc j) (omega arith))
    ∙ ap Some (omega arith)

pub least_none : (tracks : List Bool) (x : ℕ) → ((y : ℕ) → x ≤ y → has_track tracks y ≡ false) → least_from tracks x ≡ None
least_none tracks x none = first_none x (drop x tracks) (λ i. get_or-drop x tracks i false ∙ none (x + i) (omega arith))

pub least_some : (tracks : List Bool) (x y : ℕ) → x ≤ y → has_track tracks y ≡ true → ((z : ℕ) → x ≤ z → z < y → has_track tracks z ≡ false)
    → least_from tracks x ≡ Some y
least_some tracks x y beyond here none =
    let at : x + (y - x) ≡ y = omega arith in
    first_some x (drop x tracks) (y - x) (get_or-drop x tracks (y - x) false ∙ ap (has_track tracks) at ∙ here)
    (λ j before. get_or-drop x tracks j false ∙ none (x + j) (omega arith) (omega arith))
    ∙ ap Some at

first_is_none : (place : ℕ) (tracks : List Bool) → first_from place tracks ≡ None → (i : ℕ) → has_track tracks i ≡ false
first_is_none place [] none i = refl
first_is_none place (true ∷ tracks) none i = absurd (cc)
first_is_none place (false ∷ tracks) none zero = refl
first_is_none place (false ∷ tracks) none (suc i) = first_is_none (place + 1) tracks none i

none_shifted : (tracks : List Bool) (i : ℕ) → ((j : ℕ) → j < i → has_track tracks j ≡ false)
    → (j : ℕ) → j < suc i → has_track (false ∷ tracks) j ≡ false
none_shifted tracks i none zero before = refl
none_shifted tracks i none (suc j) before = none j (omega arith)

first_is_some : (place : ℕ) (tracks : List Bool) (y : ℕ) → first_from place tracks ≡ Some y
    → (i : ℕ) × (place + i ≡ y) × (has_track tracks i ≡ true) × ((j : ℕ) → j < i → has_track tracks j ≡ false)
first_is_some place [] y some = absurd (cc)
first_is_some place (true ∷ tracks) y some = (zero, (let same : place ≡ y = cc in omega arith), refl, λ j before. absurd (omega arith))
first_is_some place (false ∷ tracks) y some =
    let rest = first_is_some (place + 1) tracks y some in (
      suc rest.0,
      omega (arith, rest.1),
      rest.2,
      none_shifted tracks rest.0 rest.3,
    )

pub least_is_none : (tracks : List Bool) (x : ℕ) → least_from tracks x ≡ None → HasNoneFrom tracks x
least_is_none tracks x none y from =
    let at : x + (y - x) ≡ y = omega arith in
    ap (has_track tracks) (sym at) ∙ sym (get_or-drop x tracks (y - x) false) ∙ first_is_none x (drop x tracks) none (y - x)

pub least_is_some : (tracks : List Bool) (x y : ℕ) → least_from tracks x ≡ Some y → IsLeastFrom tracks x y
least_is_some tracks x y some =
    let found = first_is_some x (drop x tracks) y some in
    record {
      not_before = omega (arith, found.1);
      within = had_within tracks y (ap (has_track tracks) (sym found.1) ∙ sym (get_or-drop x tracks found.0 false) ∙ found.2);
      is_had = ap (has_track tracks) (sym found.1) ∙ sym (get_or-drop x tracks found.0 false) ∙ found.2;
      none_before = λ z from before.
          let at : x + (z - x) ≡ z = omega arith in
          ap (has_track tracks) (sym at) ∙ sym (get_or-drop x tracks (z - x) false) ∙ found.3 (z - x) (omega (arith, found.1));
    }

-- what is the least from a track on is a track that is so, if it is one
pub some_least : (tracks : List Bool) (x : ℕ) (r : Option ℕ) → r ≡ least_from tracks x → IfSome r (IsLeastFrom tracks x)
some_least tracks x None is = tt
some_least tracks x (Some y) is = least_is_some tracks x y (sym is)

pub some_had : (tracks : List Bool) (x : ℕ) (r : Option ℕ) → r ≡ least_from tracks x → IfSome r (λ y. has_track tracks y ≡ true)
some_had tracks x None is = tt
some_had tracks x (Some y) is = (least_is_some tracks x y (sym is)).is_had

module _ (tracks : List Bool) (first later : ℕ) (le : first ≤ later) (none : (x : ℕ) → first ≤ x → x < later → has_track tracks x ≡ false) where
  skipped : (r : Option ℕ) → least_from tracks later ≡ r → r ≡ least_from tracks first
  skipped None nowhere = sym (
      least_none tracks first (
      λ y from. elim (cases_lt y later) [
        | inl sooner ↦ none y from sooner
        | inr beyond ↦ least_is_none tracks later nowhere y beyond
      ]
      )
      )
  skipped (Some y) there =
      let found = least_is_some tracks later y there in
      let from : first ≤ y = omega (arith, found.not_before) in
      sym (
      least_some tracks first y from found.is_had (
      λ z after before. elim (cases_lt z later) [
        | inl sooner ↦ none z after sooner
        | inr beyond ↦ found.none_before z beyond before
      ]
      )
      )

  -- where none is had between, the least from a later place on is the least from the first on
  pub least_skips : least_from tracks later ≡ least_from tracks first
  least_skips = skipped (least_from tracks later) refl

-- ---- the union of two sets

pub length_union : (tracks others : List Bool) → length others ≡ length tracks → length (union tracks others) ≡ length tracks
length_union [] others same = refl
length_union (b ∷ tracks) [] same = refl
length_union (b ∷ tracks) (c ∷ others) same = ap suc (length_union tracks others (omega arith))

pub has_union : (tracks others : List Bool) → length others ≡ length tracks → (x : ℕ)
    → has_track (union tracks others) x ≡ (has_track tracks x || has_track others x)
has_union [] [] same x = refl
has_union [] (c ∷ others) same x = absurd (omega arith)
has_union (b ∷ tracks) [] same x = absurd (omega arith)
has_union (b ∷ tracks) (c ∷ others) same zero = refl
has_union (b ∷ tracks) (c ∷ others) same (suc x) = has_union tracks others (omega arith) x

-- ---- which tracks a set has

pub has_none : (n x : ℕ) → has_track (no_track n) x ≡ false
has_none n x = elim (cases_lt x n) [
  | inl within ↦ get_or-replicate n x false false within
  | inr past ↦ let short : length (no_track n) ≤ x = omega (arith, length-replicate n false) in get_or_past (no_track n) x false short
]

pub has_every : (n x : ℕ) → has_track (every_track n) x ≡ nat_lt x n
has_every n x = elim (cases_lt x n) [
  | inl within ↦ get_or-replicate n x true false within ∙ sym (lt-ltb x n within)
  | inr past ↦
      let short : length (every_track n) ≤ x = omega (arith, length-replicate n true) in
      get_or_past (every_track n) x false short ∙ sym (le-ltb x n past)
]

pub has_with : (tracks : List Bool) (x y : ℕ) → x < length tracks → has_track (with_track tracks x) y ≡ (nat_eq y x || has_track tracks y)
has_with tracks x y within = elim (cases_eq y x) [
  | inl same ↦
      ap (has_track (with_track tracks x)) same
      ∙ get_or-set_same tracks x true false within
      ∙ ap (λ b. b || has_track tracks y) (sym (eq-eqb y x same))
  | inr apart ↦ get_or-set_other tracks x y true false apart ∙ ap (λ b. b || has_track tracks y) (sym (ne_eqb y x apart))
]

pub gone : (tracks : List Bool) (x : ℕ) → has_track (without_track tracks x) x ≡ false
gone tracks x = elim (cases_lt x (length tracks)) [
  | inl within ↦ get_or-set_same tracks x false false within
  | inr past ↦
      let short : length (without_track tracks x) ≤ x = omega (arith, length-set tracks x false) in
      get_or_past (without_track tracks x) x false short
]

pub has_without : (tracks : List Bool) (x y : ℕ) → has_track (without_track tracks x) y ≡ (not (nat_eq y x) && has_track tracks y)
has_without tracks x y = elim (cases_eq y x) [
  | inl same ↦
      ap (has_track (without_track tracks x)) same
      ∙ gone tracks x
      ∙ ap (λ b. not b && has_track tracks y) (sym (eq-eqb y x same))
  | inr apart ↦
      get_or-set_other tracks x y false false apart ∙ ap (λ b. not b && has_track tracks y) (sym (ne_eqb y x apart))
]

pub same_set : (tracks others : List Bool) → length tracks ≡ length others → ((x : ℕ) → has_track tracks x ≡ has_track others x) → tracks ≡ others
same_set tracks others long each = ext_get_or false tracks others long (λ x _. each x)

-- ---- how many tracks a set has

pub size_without : (tracks : List Bool) (x : ℕ) → has_track tracks x ≡ true → size (without_track tracks x) + 1 ≡ size tracks
size_without tracks x had =
    omega (arith, sum_by-set (λ b. cond b 1 0) tracks x false false (had_within tracks x had), ap {B = ℕ} (λ b. cond b 1 0) had)
