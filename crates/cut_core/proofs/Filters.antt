-- Tests on lists: two tests, one after the other, and tests that all items pass.
use Rattle.std.proofs.Common.{◌≡◌, Bool, true, false, cond, ◌&&◌, List, [], ◌∷◌, refl, sym, ◌∙◌}
use Rattle.std.specs.Prelude.{filter}
use Rattle.std.specs.List.{list_all}
use Rattle.std.proofs.lemmas.Bool.{and_parts, and_from}
use Rattle.std.proofs.lemmas.List.Elements.{filter_agree}
use Rattle.xrc_edge.specs.Order.{put_in_order, in_order}

filter_cond : {A : Type 0} (p : A → Bool) (a : A) (t u : Bool) (xs ys : List A) → p a ≡ u → filter p xs ≡ ys → filter p (cond t (a ∷ xs) xs) ≡ cond (u && t) (a ∷ ys) ys
filter_cond p a true true xs ys is h = rw (is, h) refl
filter_cond p a true false xs ys is h = rw (is, h) refl
filter_cond p a false true xs ys is h = h
filter_cond p a false false xs ys is h = h

pub filter_both : {A : Type 0} (p q : A → Bool) (items : List A) → filter p (filter q items) ≡ filter (λ a. p a && q a) items
filter_both p q [] = refl
filter_both p q (a ∷ items) = filter_cond p a (q a) (p a) (filter q items) (filter (λ a. p a && q a) items) refl (filter_both p q items)

pub and_swap : (a b : Bool) → (a && b) ≡ (b && a)
and_swap true true = refl
and_swap true false = refl
and_swap false true = refl
and_swap false false = refl

pub filter_swap : {A : Type 0} (p q : A → Bool) (items : List A) → filter p (filter q items) ≡ filter q (filter p items)
filter_swap p q items = filter_both p q items ∙ filter_agree (λ a. p a && q a) (λ a. q a && p a) (λ a. and_swap (p a) (q a)) items ∙ sym (filter_both q p items)

pub filter_all : {A : Type 0} (p : A → Bool) (items : List A) → ((a : A) → p a ≡ true) → filter p items ≡ items
filter_all p [] all = refl
filter_all p (a ∷ items) all = rw (all a, filter_all p items all) refl

-- what all items pass, those that pass another test pass too
pub all_filter : {A : Type 0} (p q : A → Bool) (items : List A) → list_all p items ≡ true → list_all p (filter q items) ≡ true
all_filter p q [] e = refl
all_filter p q (a ∷ items) e =
    let parts = and_parts (p a) (list_all p items) e in
    choose (q a) parts.0 (all_filter p q items parts.1)
  where
    choose : (t : Bool) → p a ≡ true → list_all p (filter q items) ≡ true → list_all p (cond t (a ∷ filter q items) (filter q items)) ≡ true
    choose true here rest = and_from (p a) (list_all p (filter q items)) here rest
    choose false here rest = rest

-- those of the items that pass one test, and so pass another
pub all_passing : {A : Type 0} (p q r : A → Bool) (items : List A) → list_all p items ≡ true → ((a : A) → p a ≡ true → q a ≡ true → r a ≡ true) → list_all r (filter q items) ≡ true
all_passing p q r [] e by = refl
all_passing p q r (a ∷ items) e by =
    let parts = and_parts (p a) (list_all p items) e in
    choose (q a) refl (by a parts.0) (all_passing p q r items parts.1 by)
  where
    choose : (t : Bool) → q a ≡ t → (q a ≡ true → r a ≡ true) → list_all r (filter q items) ≡ true → list_all r (cond t (a ∷ filter q items) (filter q items)) ≡ true
    choose true is here rest = and_from (r a) (list_all r (filter q items)) (here is) rest
    choose false is here rest = rest

all_put : {A : Type 0} (below : A → A → Bool) (p : A → Bool) (a : A) (items : List A) → p a ≡ true → list_all p items ≡ true → list_all p (put_in_order below a items) ≡ true
all_put below p a [] is e = and_from (p a) true is refl
all_put below p a (b ∷ items) is e =
    let parts = and_parts (p b) (list_all p items) e in
    choose (below b a) (and_from (p b) (list_all p (put_in_order below a items)) parts.0 (all_put below p a items is parts.1)) (and_from (p a) (list_all p (b ∷ items)) is e)
  where
    choose : (t : Bool) → list_all p (b ∷ put_in_order below a items) ≡ true → list_all p (a ∷ b ∷ items) ≡ true → list_all p (cond t (b ∷ put_in_order below a items) (a ∷ b ∷ items)) ≡ true
    choose true x y = x
    choose false x y = y

-- what all items pass, they pass in order
pub all_order : {A : Type 0} (below : A → A → Bool) (p : A → Bool) (items : List A) → list_all p items ≡ true → list_all p (in_order below items) ≡ true
all_order below p [] e = refl
all_order below p (a ∷ items) e =
    let parts = and_parts (p a) (list_all p items) e in
    all_put below p a (in_order below items) parts.0 (all_order below p items parts.1)

pub filter_none : {A : Type 0} (p : A → Bool) (items : List A) → ((a : A) → p a ≡ false) → filter p items ≡ []
filter_none p [] none = refl
filter_none p (a ∷ items) none = rw (none a, filter_none p items none) refl
