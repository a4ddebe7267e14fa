-- Lists: tests of their elements, and relations of one list to another.
use Rattle.std.proofs.Common.{◌≡◌, ◌<◌, ◌+◌, ◌||◌, ℕ, zero, suc, Bool, true, false, cond, List, [], ◌∷◌, ◌++◌, length, get_or, take, drop, Some, None, refl, sym, ◌∙◌, ap}
use Rattle.std.specs.Prelude.{slice_get, find}
use Rattle.std.specs.List.{AllZip, list_any}
use Rattle.std.proofs.lemmas.Bool.{or_parts}
use Rattle.std.proofs.lemmas.Option.{same_Some, slice_get-get_or, slice_get_within, get_or_from_slice_get}
use Rattle.std.proofs.lemmas.List.{drop_more, take_more}
use Rattle.std.proofs.lemmas.List.Folds.{list_any-append}

-- ---- what stands at a place

pub drop_there : {A : Type 0} (xs : List A) (i : ℕ) (x : A) → slice_get xs i ≡ Some x → drop i xs ≡ x ∷ drop (i + 1) xs
drop_there xs i x is = drop_more xs i x (slice_get_within xs i x is) ∙ ap (λ (y : _). y ∷ drop (i + 1) xs) (get_or_from_slice_get xs i x x is)

pub take_there : {A : Type 0} (xs : List A) (i : ℕ) (x : A) → slice_get xs i ≡ Some x → take (i + 1) xs ≡ take i xs ++ x ∷ []
take_there xs i x is = take_more xs i x (slice_get_within xs i x is) ∙ ap (λ (y : _). take i xs ++ y ∷ []) (get_or_from_slice_get xs i x x is)

-- An element of a list that equals another stands at its place there too.
pub item_there : {A : Type 0} (items xs : List A) (i : ℕ) (x : A) → items ≡ xs → i < length items → x ≡ get_or items i x → slice_get xs i ≡ Some x
item_there items xs i x same lt is = ap (λ (l : List _). slice_get l i) (sym same) ∙ slice_get-get_or items i x lt ∙ ap Some (sym is)

pub any_more : {A : Type 0} (test : A → Bool) (xs : List A) (i : ℕ) (x : A) → slice_get xs i ≡ Some x → list_any test (take (i + 1) xs) ≡ (list_any test (take i xs) || test x)
any_more test xs i x is = ap (list_any test) (take_there xs i x is) ∙ list_any-append test (take i xs) (x ∷ []) ∙ by_last (list_any test (take i xs)) (test x)
  where
    by_last : (a b : Bool) → (a || (b || false)) ≡ (a || b)
    by_last a true = refl
    by_last a false = refl

-- ---- the first that passes a test

pub find_here : {A : Type 0} (test : A → Bool) (xs : List A) (i : ℕ) (x : A) → list_any test (take i xs) ≡ false → slice_get xs i ≡ Some x → test x ≡ true → find test xs ≡ Some x
find_here test [] i x none is passes = absurd cc
find_here test (y ∷ xs) zero x none is passes =
    let same = same_Some y x is in
    (λ j. cond (ap test same j) (Some (same j)) (find test xs)) ∙ (λ j. cond (passes j) (Some x) (find test xs))
find_here test (y ∷ xs) (suc i) x none is passes =
    let parts = or_parts (test y) (list_any test (take i xs)) none in
    (λ j. cond (parts.0 j) (Some y) (find test xs)) ∙ find_here test xs i x parts.1 is passes

pub find_none : {A : Type 0} (test : A → Bool) (xs : List A) → list_any test xs ≡ false → find test xs ≡ None
find_none test [] none = refl
find_none test (y ∷ xs) none =
    let parts = or_parts (test y) (list_any test xs) none in
    (λ j. cond (parts.0 j) (Some y) (find test xs)) ∙ find_none test xs parts.1

-- ---- relations of two lists

pub zip_refl : {A : Type 0} (R : A → A → Type 0) → ((x : A) → R x x) → (xs : List A) → AllZip R xs xs
zip_refl R each [] = tt
zip_refl R each (x ∷ xs) = (each x, zip_refl R each xs)

pub zip_map : {A B : Type 0} (R S : A → B → Type 0) → ((x : A) (y : B) → R x y → S x y) → (xs : List A) (ys : List B) → AllZip R xs ys → AllZip S xs ys
zip_map R S each [] [] all = tt
zip_map R S each [] (y ∷ ys) all = absurd all
zip_map R S each (x ∷ xs) [] all = absurd all
zip_map R S each (x ∷ xs) (y ∷ ys) all = (each x y all.0, zip_map R S each xs ys all.1)

pub zip_trans : {A : Type 0} (R : A → A → Type 0) → ((x y z : A) → R x y → R y z → R x z) → (xs ys zs : List A) → AllZip R xs ys → AllZip R ys zs → AllZip R xs zs
zip_trans R then [] [] [] all more = tt
zip_trans R then [] [] (z ∷ zs) all more = absurd more
zip_trans R then [] (y ∷ ys) zs all more = absurd all
zip_trans R then (x ∷ xs) [] zs all more = absurd all
zip_trans R then (x ∷ xs) (y ∷ ys) [] all more = absurd more
zip_trans R then (x ∷ xs) (y ∷ ys) (z ∷ zs) all more = (then x y z all.0 more.0, zip_trans R then xs ys zs all.1 more.1)
