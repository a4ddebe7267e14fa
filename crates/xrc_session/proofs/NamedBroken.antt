-- Names, once controllers were named that have broken.
use Rattle.std.proofs.Common.{◌≡◌, ℕ, zero, suc, ◌+◌, ◌<◌, nat_lt, nat_eq, Bool, true, false, cond, ◌&&◌, ◌||◌, not, List, [], ◌∷◌, ◌++◌, length, refl, sym, ap, subst, ◌∙◌, arith, append_assoc, true≢false, inl, inr}
use Rattle.std.specs.Prelude.{slice_index_or}
use Rattle.std.specs.List.{list_all, list_any}
use Rattle.std.proofs.lemmas.Bool.{and_from, and_parts, eq-eqb, le-ltb, lt-ltb, ltb-true, ne_eqb, or_cases, or_left, or_right}
use Rattle.std.proofs.lemmas.List.Folds.{list_all-append, list_any-append}
use Rattle.xrc_edge.specs.Order.{put_in_order}
use Rattle.pair_table.specs.Naming.{Naming, has_volumes, is_broken, numbers_set, with_broken}

-- ---- controllers by flags

-- the names once the controllers were named, from this one on, whose flags are set
abbrev pub with_flags : (control : ℕ) → List Bool → Naming → Naming
with_flags k [] names = names
with_flags k (flag ∷ flags) names = with_flags (k + 1) flags (cond flag (with_broken k names) names)

-- ---- numbers in order

abbrev pub all_below : (control : ℕ) → List ℕ → Bool
all_below k numbers = list_all (λ j. nat_lt j k) numbers

below_more : (k : ℕ) (numbers : List ℕ) → all_below k numbers ≡ true → all_below (k + 1) numbers ≡ true
below_more k [] below = refl
below_more k (j ∷ numbers) below =
    let parts = and_parts (nat_lt j k) (all_below k numbers) below in
    and_from (nat_lt j (k + 1)) (all_below (k + 1) numbers) (lt-ltb j (k + 1) (let low = ltb-true j k parts.0 in omega (arith, low))) (below_more k numbers parts.1)

-- A controller goes after those below it.
put_after : (k : ℕ) (front numbers : List ℕ) → all_below k front ≡ true → put_in_order nat_lt k numbers ≡ k ∷ numbers → put_in_order nat_lt k (front ++ numbers) ≡ front ++ (k ∷ numbers)
put_after k [] numbers below is = is
put_after k (j ∷ front) numbers below is =
    let parts = and_parts (nat_lt j k) (all_below k front) below in
    rw parts.0 (ap (λ (rest : List ℕ). j ∷ rest) (put_after k front numbers parts.1 is))

none_equal : (k : ℕ) (front : List ℕ) → all_below k front ≡ true → list_any (λ j. nat_eq j k) front ≡ false
none_equal k [] below = refl
none_equal k (j ∷ front) below =
    let parts = and_parts (nat_lt j k) (all_below k front) below in
    rw (ne_eqb j k (λ same. absurd (let low = ltb-true j k parts.0 in omega (arith, low, same)))) (none_equal k front parts.1)

-- Numbers that are set from one on go after a lower one, which isn't among them.
put_first : (k first : ℕ) (flags : List Bool) → k < first → put_in_order nat_lt k (numbers_set first flags) ≡ k ∷ numbers_set first flags
put_first k first [] low = refl
put_first k first (true ∷ flags) low = rw (le-ltb first k (omega (arith, low)))
put_first k first (false ∷ flags) low = put_first k (first + 1) flags (omega (arith, low))

none_set : (k first : ℕ) (flags : List Bool) → k < first → list_any (λ j. nat_eq j k) (numbers_set first flags) ≡ false
none_set k first [] low = refl
none_set k first (true ∷ flags) low = rw (ne_eqb first k (λ same. absurd (omega (arith, low, same)))) (none_set k (first + 1) flags (omega (arith, low)))
none_set k first (false ∷ flags) low = none_set k (first + 1) flags (omega (arith, low))

-- ---- all controllers

-- The flags that are set among the first are set among the others too.
abbrev pub AreAlsoSet : (olds flags : List Bool) → Type 0
AreAlsoSet [] [] = Unit {0}
AreAlsoSet [] (flag ∷ flags) = ⊥
AreAlsoSet (old ∷ olds) [] = ⊥
AreAlsoSet (old ∷ olds) (flag ∷ flags) = (old ≡ true → flag ≡ true) × AreAlsoSet olds flags

-- A controller that isn't named as broken and has a volume goes after those below it.
named_after : (k : ℕ) (front : List ℕ) (olds : List Bool) (names : Naming) → all_below k front ≡ true → names.broken ≡ front ++ numbers_set (k + 1) olds → has_volumes k names ≡ true
    → with_broken k names ≡ record names { broken = front ++ (k ∷ numbers_set (k + 1) olds) }
named_after k front olds names below is has = choose (has_volumes k names) (is_broken k names) has none
  where
    none : is_broken k names ≡ false
    none =
        ap (list_any (λ j. nat_eq j k)) is ∙ list_any-append (λ j. nat_eq j k) front (numbers_set (k + 1) olds)
        ∙ ap (λ (b : Bool). b || list_any (λ j. nat_eq j k) (numbers_set (k + 1) olds)) (none_equal k front below) ∙ none_set k (k + 1) olds (omega arith)

    placed : put_in_order nat_lt k names.broken ≡ front ++ (k ∷ numbers_set (k + 1) olds)
    placed = ap (put_in_order nat_lt k) is ∙ put_after k front (numbers_set (k + 1) olds) below (put_first k (k + 1) olds (omega arith))

    choose : (a b : Bool) → a ≡ true → b ≡ false → cond (a && not b) (record names { broken = put_in_order nat_lt k names.broken }) names ≡ record names { broken = front ++ (k ∷ numbers_set (k + 1) olds) }
    choose true false has none = λ i. record names { broken = placed i }
    choose true true has none = absurd (true≢false none)
    choose false b has none = absurd (true≢false (sym has))

-- One that is named already isn't named again.
named_already : (k : ℕ) (names : Naming) → is_broken k names ≡ true → with_broken k names ≡ names
named_already k names is = choose (has_volumes k names) (is_broken k names) is
  where
    choose : (a b : Bool) → b ≡ true → cond (a && not b) (record names { broken = put_in_order nat_lt k names.broken }) names ≡ names
    choose true true is = refl
    choose false true is = refl
    choose a false is = absurd (true≢false (sym is))

below_next : (k : ℕ) (front : List ℕ) → all_below k front ≡ true → all_below (k + 1) (front ++ k ∷ []) ≡ true
below_next k front below =
    list_all-append (λ j. nat_lt j (k + 1)) front (k ∷ [])
    ∙ and_from (all_below (k + 1) front) (nat_lt k (k + 1) && true) (below_more k front below) (and_from (nat_lt k (k + 1)) true (lt-ltb k (k + 1) (omega arith)) refl)

-- What is so of the controllers after one.
abbrev NamesRest : (k : ℕ) → (olds flags : List Bool) → Type 0
NamesRest k olds flags = (front : List ℕ) (next : Naming) → all_below (k + 1) front ≡ true → next.broken ≡ front ++ numbers_set (k + 1) olds → ((j : ℕ) → j < length flags → has_volumes ((k + 1) + j) next ≡ true)
    → with_flags (k + 1) flags next ≡ record next { broken = front ++ numbers_set (k + 1) flags }

-- After all of them just the controllers are named whose flags are set.
pub flags_named : (k : ℕ) (front : List ℕ) (olds flags : List Bool) (names : Naming) → all_below k front ≡ true → names.broken ≡ front ++ numbers_set k olds → AreAlsoSet olds flags → ((j : ℕ) → j < length flags → has_volumes (k + j) names ≡ true)
    → with_flags k flags names ≡ record names { broken = front ++ numbers_set k flags }
flags_named k front [] [] names below is also has = λ i. record names { broken = is i }
flags_named k front [] (flag ∷ flags) names below is also has = absurd also
flags_named k front (old ∷ olds) [] names below is also has = absurd also
flags_named k front (old ∷ olds) (flag ∷ flags) names below is also has = choose old flag also.0 is (λ front next below is has. flags_named (k + 1) front olds flags next below is also.1 has)
  where
    here : has_volumes k names ≡ true
    here = let same : k + 0 ≡ k = omega arith in subst (λ (n : ℕ). has_volumes n names ≡ true) same (has 0 (omega arith))

    later : (next : Naming) → next.primaries ≡ names.primaries → (j : ℕ) → j < length flags → has_volumes ((k + 1) + j) next ≡ true
    later next same j low =
        let at : k + suc j ≡ (k + 1) + j = omega arith in
        ap (list_any (λ v. nat_eq v.control ((k + 1) + j))) same ∙ subst (λ (n : ℕ). has_volumes n names ≡ true) at (has (suc j) (omega (arith, low)))

    -- with this controller in front
    on : NamesRest k olds flags → (next : Naming) → next ≡ record names { broken = front ++ (k ∷ numbers_set (k + 1) olds) } → with_flags (k + 1) flags next ≡ record names { broken = front ++ (k ∷ numbers_set (k + 1) flags) }
    on rest next same =
        let split : (ns : List ℕ) → (front ++ k ∷ []) ++ ns ≡ front ++ (k ∷ ns) = λ ns. append_assoc front (k ∷ []) ns in
        rest (front ++ k ∷ []) next (below_next k front below) (ap (λ (n : Naming). n.broken) same ∙ sym (split (numbers_set (k + 1) olds))) (later next (ap (λ (n : Naming). n.primaries) same))
        ∙ (λ i. record (same i) { broken = split (numbers_set (k + 1) flags) i })

    choose : (old flag : Bool) → (old ≡ true → flag ≡ true) → names.broken ≡ front ++ numbers_set k (old ∷ olds) → NamesRest k olds flags
        → with_flags (k + 1) flags (cond flag (with_broken k names) names) ≡ record names { broken = front ++ numbers_set k (flag ∷ flags) }
    choose false false up is rest = rest front names (below_more k front below) is (later names refl)
    choose false true up is rest = on rest (with_broken k names) (named_after k front olds names below is here)
    choose true true up is rest = on rest (with_broken k names) (named_already k names among ∙ (λ i. record names { broken = is i }))
      where
        among : is_broken k names ≡ true
        among =
            ap (list_any (λ j. nat_eq j k)) is ∙ list_any-append (λ j. nat_eq j k) front (k ∷ numbers_set (k + 1) olds)
            ∙ or_right (list_any (λ j. nat_eq j k) front) (list_any (λ j. nat_eq j k) (k ∷ numbers_set (k + 1) olds)) (or_left (nat_eq k k) (list_any (λ j. nat_eq j k) (numbers_set (k + 1) olds)) (eq-eqb k k refl))
    choose true false up is rest = absurd (true≢false (sym (up refl)))

-- ---- one controller

-- Volumes and labels stay.
pub alone : (k : ℕ) (flags : List Bool) (names : Naming) → ((with_flags k flags names).primaries ≡ names.primaries) × ((with_flags k flags names).labels ≡ names.labels)
alone k [] names = (refl, refl)
alone k (flag ∷ flags) names =
    let rest = alone (k + 1) flags (cond flag (with_broken k names) names) in
    let one = first flag (has_volumes k names && not (is_broken k names)) in
    (rest.0 ∙ one.0, rest.1 ∙ one.1)
  where
    first : (a b : Bool) → ((cond a (cond b (record names { broken = put_in_order nat_lt k names.broken }) names) names).primaries ≡ names.primaries) × ((cond a (cond b (record names { broken = put_in_order nat_lt k names.broken }) names) names).labels ≡ names.labels)
    first true true = (refl, refl)
    first true false = (refl, refl)
    first false b = (refl, refl)

-- a number among others
still_among : (k j : ℕ) (numbers : List ℕ) → list_any (λ n. nat_eq n k) numbers ≡ true → list_any (λ n. nat_eq n k) (put_in_order nat_lt j numbers) ≡ true
still_among k j [] among = absurd (true≢false (sym among))
still_among k j (n ∷ numbers) among = choose (nat_lt n j) (still_among k j numbers)
  where
    choose : (low : Bool) → (list_any (λ n. nat_eq n k) numbers ≡ true → list_any (λ n. nat_eq n k) (put_in_order nat_lt j numbers) ≡ true) → list_any (λ n. nat_eq n k) (cond low (n ∷ put_in_order nat_lt j numbers) (j ∷ n ∷ numbers)) ≡ true
    choose true rest = elim (or_cases (nat_eq n k) (list_any (λ n. nat_eq n k) numbers) among) [
      | inl here ↦ or_left (nat_eq n k) (list_any (λ n. nat_eq n k) (put_in_order nat_lt j numbers)) here
      | inr later ↦ or_right (nat_eq n k) (list_any (λ n. nat_eq n k) (put_in_order nat_lt j numbers)) (rest later)
    ]
    choose false rest = or_right (nat_eq j k) (list_any (λ n. nat_eq n k) (n ∷ numbers)) among

put_there : (k : ℕ) (numbers : List ℕ) → list_any (λ n. nat_eq n k) (put_in_order nat_lt k numbers) ≡ true
put_there k [] = or_left (nat_eq k k) false (eq-eqb k k refl)
put_there k (n ∷ numbers) = choose (nat_lt n k) (put_there k numbers)
  where
    choose : (low : Bool) → list_any (λ n. nat_eq n k) (put_in_order nat_lt k numbers) ≡ true → list_any (λ n. nat_eq n k) (cond low (n ∷ put_in_order nat_lt k numbers) (k ∷ n ∷ numbers)) ≡ true
    choose true rest = or_right (nat_eq n k) (list_any (λ n. nat_eq n k) (put_in_order nat_lt k numbers)) rest
    choose false rest = or_left (nat_eq k k) (list_any (λ n. nat_eq n k) (n ∷ numbers)) (eq-eqb k k refl)

-- A controller that was named stays named.
still_broken : (k j : ℕ) (names : Naming) → is_broken k names ≡ true → is_broken k (with_broken j names) ≡ true
still_broken k j names is = choose (has_volumes j names && not (is_broken j names))
  where
    choose : (b : Bool) → is_broken k (cond b (record names { broken = put_in_order nat_lt j names.broken }) names) ≡ true
    choose true = still_among k j names.broken is
    choose false = is

still_flagged : (k j : ℕ) (flags : List Bool) (names : Naming) → is_broken k names ≡ true → is_broken k (with_flags j flags names) ≡ true
still_flagged k j [] names is = is
still_flagged k j (true ∷ flags) names is = still_flagged k (j + 1) flags (with_broken j names) (still_broken k j names is)
still_flagged k j (false ∷ flags) names is = still_flagged k (j + 1) flags names is

is_named : (k : ℕ) (names : Naming) → has_volumes k names ≡ true → is_broken k (with_broken k names) ≡ true
is_named k names has = choose (has_volumes k names) (is_broken k names) has refl
  where
    choose : (a b : Bool) → a ≡ true → is_broken k names ≡ b → is_broken k (cond (a && not b) (record names { broken = put_in_order nat_lt k names.broken }) names) ≡ true
    choose true true has is = is
    choose true false has is = put_there k names.broken
    choose false b has is = absurd (true≢false (sym has))

-- A controller whose flag is set is named if it has a volume.
pub flagged_is_broken : (k n : ℕ) (flags : List Bool) (d : Bool) (names : Naming) → n < length flags → slice_index_or flags n d ≡ true → has_volumes (k + n) names ≡ true → is_broken (k + n) (with_flags k flags names) ≡ true
flagged_is_broken k n [] d names low set has = absurd (omega (arith, low))
flagged_is_broken k zero (flag ∷ flags) d names low set has =
    let same : k + 0 ≡ k = omega arith in
    subst (λ (i : ℕ). is_broken i (with_flags (k + 1) flags (cond flag (with_broken k names) names)) ≡ true) (sym same)
    (rw set (still_flagged k (k + 1) flags (with_broken k names) (is_named k names (subst (λ (i : ℕ). has_volumes i names ≡ true) same has))))
flagged_is_broken k (suc n) (flag ∷ flags) d names low set has =
    let next = cond flag (with_broken k names) names in
    let same : (k + 1) + n ≡ k + suc n = omega arith in
    subst (λ (i : ℕ). is_broken i (with_flags (k + 1) flags next) ≡ true) same
    (flagged_is_broken (k + 1) n flags d next (omega (arith, low)) set (ap (list_any (λ v. nat_eq v.control ((k + 1) + n))) (alone k (flag ∷ []) names).0 ∙ subst (λ (i : ℕ). has_volumes i names ≡ true) (sym same) has))
