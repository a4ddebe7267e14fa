-- Rows that are copied one by one.
use Rattle.std.proofs.Common.{◌≡◌, ℕ, zero, suc, ◌+◌, ◌<◌, List, [], ◌∷◌, ◌++◌, length, take, Some, None, sym, ap, ◌∙◌, add-one, arith, slice_get}
use Rattle.std.proofs.lemmas.Option.{slice_get_within}

take_next : {A : Type 0} (xs : List A) (n : ℕ) (x : A) → slice_get xs n ≡ Some x → take (suc n) xs ≡ take n xs ++ x ∷ []
take_next [] n x is = absurd (omega (arith, slice_get_within [] n x is))
take_next (a ∷ xs) zero x is = cc
take_next (a ∷ xs) (suc n) x is = ap (λ l. a ∷ l) (take_next xs n x is)

-- After the row at a place so many rows were taken.
pub taken_more : {A : Type 0} (xs : List A) (n : ℕ) (x : A) (got more : List A) → slice_get xs n ≡ Some x → got ≡ take n xs → more ≡ got ++ x ∷ [] → more ≡ take (n + 1) xs
taken_more xs n x got more is was next = rw add-one (next ∙ ap (λ l. l ++ x ∷ []) was ∙ sym (take_next xs n x is))

pub none_within : {A : Type 0} (xs : List A) (n : ℕ) → n < length xs → ¬ (slice_get xs n ≡ None)
none_within [] n within is = omega arith
none_within (a ∷ xs) zero within is = cc
none_within (a ∷ xs) (suc n) within is = none_within xs n (omega arith) is
