-- Tests one after another, and facts that hold together.
use Rattle.std.proofs.Common.{◌≡◌, Bool, true, false, not, cond, ◌&&◌, List, [], ◌∷◌, refl}
use Rattle.std.specs.Prelude.{filter}

pub both_true : (a b : Bool) → (a && b) ≡ true → (a ≡ true) × (b ≡ true)
both_true true b e = (refl, e)
both_true false b e = absurd cc

pub and_true : (a b : Bool) → a ≡ true → b ≡ true → (a && b) ≡ true
and_true true b e f = f
and_true false b e f = absurd cc

pub is_not : (b : Bool) → b ≡ false → not b ≡ true
is_not true e = absurd cc
is_not false e = refl

pub filter_cond : {A : Type 0} (p : A → Bool) (a : A) (t u : Bool) (xs ys : List A) → p a ≡ u → filter p xs ≡ ys → filter p (cond t (a ∷ xs) xs) ≡ cond (u && t) (a ∷ ys) ys
filter_cond p a true true xs ys is h = rw (is, h) refl
filter_cond p a true false xs ys is h = rw (is, h) refl
filter_cond p a false true xs ys is h = h
filter_cond p a false false xs ys is h = h

pub filter_both : {A : Type 0} (p q : A → Bool) (items : List A) → filter p (filter q items) ≡ filter (λ a. p a && q a) items
filter_both p q [] = refl
filter_both p q (a ∷ items) = filter_cond p a (q a) (p a) (filter q items) (filter (λ a. p a && q a) items) refl (filter_both p q items)
