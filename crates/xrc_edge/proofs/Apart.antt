-- Items of different keys may be put in order in any order of the keys.
use Rattle.std.proofs.Common.{◌≡◌, ℕ, Bool, true, false, List, [], ◌∷◌, ◌++◌, inl, inr, refl, sym, ap, ◌∙◌, subst}
use Rattle.std.specs.Prelude.{◌==◌}
use Rattle.std.specs.List.{filter}
use Rattle.std.proofs.lemmas.Bool.{cases_Bool, eqb-true, eq-eqb}
use Rattle.std.proofs.lemmas.List.Elements.{filter-append}
use Rattle.xrc_edge.specs.Order.{put_in_order, in_order}
use Rattle.xrc_edge.proofs.OrderLaws.{IsOrder}
use Rattle.xrc_edge.proofs.Merges.{put_either_way}

abbrev of_key : {A : Type 0} → (A → ℕ) → ℕ → List A → List A
of_key key k items = filter (λ a. key a == k) items

-- The first item of a key, taken out of a list: no item before it has the key.
record IsPulled {A : Type 0} (key : A → ℕ) (x : A) (rest items : List A) : Type 0 where
  front : List A
  back : List A
  whole : items ≡ front ++ x ∷ back
  others : of_key key (key x) front ≡ []
  same : of_key key (key x) back ≡ rest

pulled : {A : Type 0} (key : A → ℕ) (x : A) (rest items : List A) → of_key key (key x) items ≡ x ∷ rest → IsPulled key x rest items
pulled key x rest [] e = absurd cc
pulled {A} key x rest (y ∷ items) e =
    elim (cases_Bool (key y == key x)) [
      | inl is ↦
          let found : y ∷ of_key key (key x) items ≡ x ∷ rest = simp is at e in
          record { front = []; back = items; whole = cc; others = refl; same = cc }
      | inr is ↦
          let later : of_key key (key x) items ≡ x ∷ rest = simp is at e in
          let tail = pulled key x rest items later in
          record { front = y ∷ tail.front; back = tail.back; whole = ap (λ (t : List A). y ∷ t) tail.whole; others = simp is tail.others; same = tail.same }
    ]

-- An item may be put in before items of other keys or after them.
put_past : {A : Type 0} (below : A → A → Bool) → IsOrder below → (key : A → ℕ) → ((a b : A) → (key a == key b) ≡ false → below a b ≡ false → below b a ≡ true)
    → (x : A) (front back : List A) → of_key key (key x) front ≡ [] → in_order below (front ++ x ∷ back) ≡ put_in_order below x (in_order below (front ++ back))
put_past below order key apart x [] back e = refl
put_past below order key apart x (y ∷ front) back e =
    elim (cases_Bool (key y == key x)) [
      | inl is ↦ let found : y ∷ of_key key (key x) front ≡ [] = simp is at e in absurd cc
      | inr is ↦
          let others : of_key key (key x) front ≡ [] = simp is at e in
          let rest = in_order below (front ++ back) in
          let ih = ap (put_in_order below y) (put_past below order key apart x front back others) in
          elim (cases_Bool (below y x)) [
            | inl yx ↦ ih ∙ sym (put_either_way below order x y rest yx)
            | inr yx ↦ ih ∙ put_either_way below order y x rest (apart y x is yx)
          ]
    ]

-- what is left of two lists with the same items of each key, once the first of one key is taken out of both
left_alike : {A : Type 0} (key : A → ℕ) (x : A) (xs front back : List A) → of_key key (key x) front ≡ []
    → ((k : ℕ) → of_key key k (x ∷ xs) ≡ of_key key k (front ++ x ∷ back)) → (k : ℕ) → of_key key k xs ≡ of_key key k (front ++ back)
left_alike {A} key x xs front back none alike k =
    elim (cases_Bool (key x == k)) [
      | inl is ↦
          let none_here : of_key key k front ≡ [] = subst (λ (n : ℕ). of_key key n front ≡ []) (eqb-true (key x) k is) none in
          let both : x ∷ of_key key k xs ≡ of_key key k front ++ (x ∷ of_key key k back) = simp is at (alike k ∙ filter-append (λ a. key a == k) front (x ∷ back)) in
          let joined = filter-append (λ a. key a == k) front back in
          let without : x ∷ of_key key k xs ≡ x ∷ of_key key k back = both ∙ ap (λ (t : List A). t ++ (x ∷ of_key key k back)) none_here in
          let tails : of_key key k xs ≡ of_key key k back = cc in
          tails ∙ sym (joined ∙ ap (λ (t : List A). t ++ of_key key k back) none_here)
      | inr is ↦
          let both : of_key key k xs ≡ of_key key k front ++ of_key key k back = simp is at (alike k ∙ filter-append (λ a. key a == k) front (x ∷ back)) in
          both ∙ sym (filter-append (λ a. key a == k) front back)
    ]

pub order_apart : {A : Type 0} (below : A → A → Bool) → IsOrder below → (key : A → ℕ) → ((a b : A) → (key a == key b) ≡ false → below a b ≡ false → below b a ≡ true)
    → (xs ys : List A) → ((k : ℕ) → of_key key k xs ≡ of_key key k ys) → in_order below xs ≡ in_order below ys
order_apart below order key apart [] [] alike = refl
order_apart below order key apart [] (y ∷ ys) alike =
    let same = eq-eqb (key y) (key y) refl in
    let found : [] ≡ y ∷ of_key key (key y) ys = simp same at (alike (key y)) in
    absurd cc
order_apart below order key apart (x ∷ xs) ys alike =
    let same = eq-eqb (key x) (key x) refl in
    let found : x ∷ of_key key (key x) xs ≡ of_key key (key x) ys = simp same at (alike (key x)) in
    let p = pulled key x (of_key key (key x) xs) ys (sym found) in
    let left = left_alike key x xs p.front p.back p.others (λ k. alike k ∙ ap (of_key key k) p.whole) in
    ap (put_in_order below x) (order_apart below order key apart xs (p.front ++ p.back) left)
    ∙ sym (put_past below order key apart x p.front p.back p.others)
    ∙ ap (in_order below) (sym p.whole)
