-- What is put in order is in order, and what is in order stays as it is.
use Rattle.std.proofs.Common.{◌≡◌, ℕ, zero, suc, ◌≤◌, ◌<◌, Bool, true, false, not, cond, List, [], ◌∷◌, length, get_or, inl, inr, refl, ap, ◌∙◌, arith}
use Rattle.std.specs.List.{list_all}
use Rattle.std.specs.List.Sorted.{IsPartitionedBy}
use Rattle.std.proofs.lemmas.Bool.{cases_Bool, and_parts, and_from, not-true, not_from_false}
use Rattle.xrc_edge.specs.Order.{put_in_order, in_order, is_in_order}

-- what a test of being below must keep
pub record IsOrder {A : Type 0} (below : A → A → Bool) : Type 0 where
  pub one_way : (a b : A) → below a b ≡ true → below b a ≡ false
  pub through : (a b c : A) → below b c ≡ false → below a b ≡ false → below a c ≡ false

pub not_below_itself : {A : Type 0} (below : A → A → Bool) → IsOrder below → (a : A) → below a a ≡ false
not_below_itself below order a = elim (cases_Bool (below a a)) [ inl is ↦ order.one_way a a is | inr is ↦ is ]

-- ---- no item below another

abbrev pub none_below : {A : Type 0} → (A → A → Bool) → A → List A → Bool
none_below below a items = list_all (λ b. not (below b a)) items

-- what is above b is above a, where b isn't below a
pub none_below_through : {A : Type 0} (below : A → A → Bool) → IsOrder below → (a b : A) (items : List A) → below b a ≡ false → none_below below b items ≡ true → none_below below a items ≡ true
none_below_through below order a b [] ba e = refl
none_below_through below order a b (c ∷ items) ba e =
    let parts = and_parts (not (below c b)) (none_below below b items) e in
    and_from (not (below c a)) (none_below below a items)
    (not_from_false (below c a) (order.through c b a ba (not-true (below c b) parts.0)))
    (none_below_through below order a b items ba parts.1)

none_below_put : {A : Type 0} (below : A → A → Bool) (a b : A) (items : List A) → below b a ≡ false → none_below below a items ≡ true → none_below below a (put_in_order below b items) ≡ true
none_below_put below a b [] ba e = and_from (not (below b a)) true (not_from_false (below b a) ba) refl
none_below_put below a b (c ∷ items) ba e =
    let parts = and_parts (not (below c a)) (none_below below a items) e in
    choose (below c b)
    (and_from (not (below c a)) (none_below below a (put_in_order below b items)) parts.0 (none_below_put below a b items ba parts.1))
    (and_from (not (below b a)) (none_below below a (c ∷ items)) (not_from_false (below b a) ba) e)
  where
    choose : (t : Bool) → none_below below a (c ∷ put_in_order below b items) ≡ true → none_below below a (b ∷ c ∷ items) ≡ true → none_below below a (cond t (c ∷ put_in_order below b items) (b ∷ c ∷ items)) ≡ true
    choose true x y = x
    choose false x y = y

put_keeps : {A : Type 0} (below : A → A → Bool) → IsOrder below → (a : A) (items : List A) → is_in_order below items ≡ true → is_in_order below (put_in_order below a items) ≡ true
put_keeps below order a [] e = refl
put_keeps below order a (b ∷ items) e =
    let parts = and_parts (none_below below b items) (is_in_order below items) e in
    choose (below b a) refl parts.0 (put_keeps below order a items parts.1)
  where
    choose : (t : Bool) → below b a ≡ t → none_below below b items ≡ true → is_in_order below (put_in_order below a items) ≡ true → is_in_order below (cond t (b ∷ put_in_order below a items) (a ∷ b ∷ items)) ≡ true
    choose true is above rest =
        and_from (none_below below b (put_in_order below a items)) (is_in_order below (put_in_order below a items))
        (none_below_put below b a items (order.one_way b a is) above) rest
    choose false is above rest =
        and_from (none_below below a (b ∷ items)) (is_in_order below (b ∷ items))
        (and_from (not (below b a)) (none_below below a items) (not_from_false (below b a) is) (none_below_through below order a b items is above)) e

pub order_orders : {A : Type 0} (below : A → A → Bool) → IsOrder below → (items : List A) → is_in_order below (in_order below items) ≡ true
order_orders below order [] = refl
order_orders below order (a ∷ items) = put_keeps below order a (in_order below items) (order_orders below order items)

pub put_first : {A : Type 0} (below : A → A → Bool) (a : A) (items : List A) → none_below below a items ≡ true → put_in_order below a items ≡ a ∷ items
put_first below a [] e = refl
put_first below a (b ∷ items) e =
    let parts = and_parts (not (below b a)) (none_below below a items) e in
    choose (below b a) (not-true (below b a) parts.0)
  where
    choose : (t : Bool) → t ≡ false → cond t (b ∷ put_in_order below a items) (a ∷ b ∷ items) ≡ a ∷ b ∷ items
    choose true is = absurd cc
    choose false is = refl

pub order_stays : {A : Type 0} (below : A → A → Bool) (items : List A) → is_in_order below items ≡ true → in_order below items ≡ items
order_stays below [] e = refl
order_stays below (a ∷ items) e =
    let parts = and_parts (none_below below a items) (is_in_order below items) e in
    ap (put_in_order below a) (order_stays below items parts.1) ∙ put_first below a items parts.0

-- ---- by index

none_at : {A : Type 0} (below : A → A → Bool) (a : A) (items : List A) (j : ℕ) (d : A) → none_below below a items ≡ true → j < length items → below (get_or items j d) a ≡ false
none_at below a [] j d e lt = absurd (omega arith)
none_at below a (b ∷ items) zero d e lt = not-true (below b a) (and_parts (not (below b a)) (none_below below a items) e).0
none_at below a (b ∷ items) (suc j) d e lt = none_at below a items j d (and_parts (not (below b a)) (none_below below a items) e).1 (omega arith)

-- no item of a list in order is below an earlier one
ordered_at : {A : Type 0} (below : A → A → Bool) → IsOrder below → (items : List A) (i j : ℕ) (d : A) → is_in_order below items ≡ true → i ≤ j → j < length items → below (get_or items j d) (get_or items i d) ≡ false
ordered_at below order [] i j d e le lt = absurd (omega arith)
ordered_at below order (a ∷ items) zero zero d e le lt = not_below_itself below order a
ordered_at below order (a ∷ items) zero (suc j) d e le lt = none_at below a items j d (and_parts (none_below below a items) (is_in_order below items) e).0 (omega arith)
ordered_at below order (a ∷ items) (suc i) zero d e le lt = absurd (omega arith)
ordered_at below order (a ∷ items) (suc i) (suc j) d e le lt = ordered_at below order items i j d (and_parts (none_below below a items) (is_in_order below items) e).1 (omega arith) (omega arith)

-- The items that a given one isn't below stand before all that it is below.
pub parted : {A : Type 0} (below : A → A → Bool) → IsOrder below → (a : A) (items : List A) → is_in_order below items ≡ true → IsPartitionedBy (λ b. not (below a b)) items
parted below order a items e i j d le lt at_j =
    let b = get_or items i d in
    let c = get_or items j d in
    not_from_false (below a b) (order.through a c b (ordered_at below order items i j d e le lt) (not-true (below a c) at_j))
