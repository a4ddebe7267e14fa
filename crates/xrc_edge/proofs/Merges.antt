-- Putting one more item, and more items, into a list that is in order.
use Rattle.std.proofs.Common.{◌≡◌, ℕ, zero, suc, ◌≤◌, ◌<◌, ◌+◌, Bool, true, false, cond, List, [], ◌∷◌, ◌++◌, length, get_or, take, drop, inl, inr, refl, sym, ap, ◌∙◌, arith}
use Rattle.std.specs.List.{sum_by}
use Rattle.std.proofs.lemmas.Bool.{cases_Bool, both_ways, true_from_ne_false}
use Rattle.std.proofs.lemmas.List.Sums.{sum_by-cons}
use Rattle.xrc_edge.specs.Order.{put_in_order, in_order, is_in_order}
use Rattle.xrc_edge.proofs.OrderLaws.{IsOrder, order_stays}

pub below_through : {A : Type 0} (below : A → A → Bool) → IsOrder below → (a b c : A) → below a b ≡ true → below b c ≡ true → below a c ≡ true
below_through below order a b c ab bc =
    true_from_ne_false (below a c) (λ ac. both_ways (below a b) (order.through a c b (order.one_way b c bc) ac) ab)

-- ---- one more item

-- An item goes after the last that it isn't below.
abbrev pub put_after : {A : Type 0} → (below : A → A → Bool) → A → List A → List A
put_after below e [] = e ∷ []
put_after below e (b ∷ items) = cond (below e b) (e ∷ b ∷ items) (b ∷ put_after below e items)

-- An item that goes before others and one that goes after them may be put in either way.
front_and_after : {A : Type 0} (below : A → A → Bool) → IsOrder below → (a e : A) (items : List A) → put_in_order below a (put_after below e items) ≡ put_after below e (put_in_order below a items)
front_and_after below order a e [] = elim (cases_Bool (below e a)) [ inl ea ↦ simp ea | inr ea ↦ simp ea ]
front_and_after below order a e (b ∷ items) =
    elim (cases_Bool (below b a)) [
      | inl ba ↦ elim (cases_Bool (below e b)) [
        | inl eb ↦ let ea = below_through below order e b a eb ba in simp (ba, eb, ea)
        | inr eb ↦ simp (ba, eb, front_and_after below order a e items)
      ]
      | inr ba ↦ elim (cases_Bool (below e b)) [
        | inl eb ↦ elim (cases_Bool (below e a)) [ inl ea ↦ simp (ba, eb, ea) | inr ea ↦ simp (ba, eb, ea) ]
        | inr eb ↦ let ea = order.through e b a ba eb in simp (ba, eb, ea)
      ]
    ]

pub order_one_more : {A : Type 0} (below : A → A → Bool) → IsOrder below → (items : List A) (e : A) → in_order below (items ++ e ∷ []) ≡ put_after below e (in_order below items)
order_one_more below order [] e = refl
order_one_more below order (a ∷ items) e =
    ap (put_in_order below a) (order_one_more below order items e) ∙ front_and_after below order a e (in_order below items)

-- ---- the place of one more item

put_at : {A : Type 0} (below : A → A → Bool) (e : A) (items : List A) (i : ℕ) → i ≤ length items
    → ((k : ℕ) → k < i → below e (get_or items k e) ≡ false) → (i < length items → below e (get_or items i e) ≡ true)
    → put_after below e items ≡ take i items ++ e ∷ drop i items
put_at below e [] zero le before at = refl
put_at below e [] (suc i) le before at = absurd (omega arith)
put_at below e (b ∷ items) zero le before at = let eb : below e b ≡ true = at (omega arith) in simp eb
put_at below e (b ∷ items) (suc i) le before at =
    let eb : below e b ≡ false = before zero (omega arith) in
    let rest = put_at below e items i (omega arith) (λ k lt. before (suc k) (omega arith)) (λ lt. at (omega arith)) in
    simp (eb, rest)

-- One more item, put at its place in a list that is in order.
pub order_put_at : {A : Type 0} (below : A → A → Bool) → IsOrder below → (e : A) (items : List A) (i : ℕ) → is_in_order below items ≡ true → i ≤ length items
    → ((k : ℕ) → k < i → below e (get_or items k e) ≡ false) → (i < length items → below e (get_or items i e) ≡ true)
    → in_order below (items ++ e ∷ []) ≡ take i items ++ e ∷ drop i items
order_put_at below order e items i ordered le before at =
    order_one_more below order items e ∙ ap (put_after below e) (order_stays below items ordered) ∙ put_at below e items i le before at

-- ---- more items

-- the items put in order one after another, the last first
abbrev puts : {A : Type 0} → (below : A → A → Bool) → List A → List A → List A
puts below [] items = items
puts below (a ∷ more) items = put_in_order below a (puts below more items)

pub order_append : {A : Type 0} (below : A → A → Bool) (xs ys : List A) → in_order below (xs ++ ys) ≡ puts below xs (in_order below ys)
order_append below [] ys = refl
order_append below (a ∷ xs) ys = ap (put_in_order below a) (order_append below xs ys)

-- Two items of which one is below the other may be put in either way.
pub put_either_way : {A : Type 0} (below : A → A → Bool) → IsOrder below → (a b : A) (items : List A) → below b a ≡ true → put_in_order below a (put_in_order below b items) ≡ put_in_order below b (put_in_order below a items)
put_either_way below order a b [] ba = let ab = order.one_way b a ba in simp (ba, ab)
put_either_way below order a b (c ∷ items) ba =
    let ab = order.one_way b a ba in
    elim (cases_Bool (below c b)) [
      | inl cb ↦ let ca = below_through below order c b a cb ba in simp (cb, ca, put_either_way below order a b items ba)
      | inr cb ↦ elim (cases_Bool (below c a)) [ inl ca ↦ simp (ba, cb, ca) | inr ca ↦ simp (ba, ab, cb, ca) ]
    ]

puts_put : {A : Type 0} (below : A → A → Bool) → IsOrder below → (a : A) (items more : List A) → puts below (put_in_order below a items) more ≡ put_in_order below a (puts below items more)
puts_put below order a [] more = refl
puts_put below order a (b ∷ items) more =
    elim (cases_Bool (below b a)) [
      | inl ba ↦ simp ba (ap (put_in_order below b) (puts_put below order a items more) ∙ sym (put_either_way below order a b (puts below items more) ba))
      | inr ba ↦ simp ba
    ]

puts_order : {A : Type 0} (below : A → A → Bool) → IsOrder below → (items more : List A) → puts below (in_order below items) more ≡ puts below items more
puts_order below order [] more = refl
puts_order below order (a ∷ items) more =
    puts_put below order a (in_order below items) more ∙ ap (put_in_order below a) (puts_order below order items more)

pub order_grows : {A : Type 0} (below : A → A → Bool) → IsOrder below → (items more : List A) → in_order below (in_order below items ++ more) ≡ in_order below (items ++ more)
order_grows below order items more =
    order_append below (in_order below items) more ∙ puts_order below order items (in_order below more) ∙ sym (order_append below items more)

-- ---- sums over a list in order

sum_put : {A : Type 0} (f : A → ℕ) (below : A → A → Bool) (a : A) (items : List A) → sum_by f (put_in_order below a items) ≡ f a + sum_by f items
sum_put f below a [] = sum_by-cons f a []
sum_put f below a (b ∷ items) =
    elim (cases_Bool (below b a)) [
      | inl ba ↦ simp ba (omega (arith, sum_by-cons f b (put_in_order below a items), sum_put f below a items, sum_by-cons f b items))
      | inr ba ↦ simp ba (sum_by-cons f a (b ∷ items))
    ]

pub sum_order : {A : Type 0} (f : A → ℕ) (below : A → A → Bool) (items : List A) → sum_by f (in_order below items) ≡ sum_by f items
sum_order f below [] = refl
sum_order f below (a ∷ items) =
    sum_put f below a (in_order below items) ∙ ap (λ n. f a + n) (sum_order f below items) ∙ sym (sum_by-cons f a items)

length_put : {A : Type 0} (below : A → A → Bool) (a : A) (items : List A) → length (put_in_order below a items) ≡ suc (length items)
length_put below a [] = refl
length_put below a (b ∷ items) =
    elim (cases_Bool (below b a)) [ inl ba ↦ simp ba (ap suc (length_put below a items)) | inr ba ↦ simp ba ]

pub length_order : {A : Type 0} (below : A → A → Bool) (items : List A) → length (in_order below items) ≡ length items
length_order below [] = refl
length_order below (a ∷ items) = length_put below a (in_order below items) ∙ ap suc (length_order below items)
