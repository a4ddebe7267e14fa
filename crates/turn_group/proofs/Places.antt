-- What holds of each item and its place in a list.
use Rattle.std.proofs.Common.{◌≡◌, ℕ, zero, suc, ◌+◌, List, [], ◌∷◌, ◌++◌, length, set, Some, subst, arith}
use Rattle.std.specs.List.{slice_get}
use Rattle.turn_group.specs.Seats.{AllFrom}

module _ {A : Type 0} (P : ℕ → A → Type 0) where
  from_set : (first : ℕ) (l : List A) (k : ℕ) (x : A) → AllFrom P first l → P (first + k) x → AllFrom P first (set l k x)
  from_set n [] k x all here = tt
  from_set n (y ∷ l) zero x all here = let is : n + 0 ≡ n = omega arith in (subst (λ i. P i x) is here, all.1)
  from_set n (y ∷ l) (suc k) x all here = let is : n + suc k ≡ suc n + k = omega arith in (all.0, from_set (suc n) l k x all.1 (subst (λ i. P i x) is here))

  from_push : (first : ℕ) (l : List A) (x : A) → AllFrom P first l → P (first + length l) x → AllFrom P first (l ++ x ∷ [])
  from_push n [] x all here = let is : n + 0 ≡ n = omega arith in (subst (λ i. P i x) is here, tt)
  from_push n (y ∷ l) x all here = let is : n + suc (length l) ≡ suc n + length l = omega arith in (all.0, from_push (suc n) l x all.1 (subst (λ i. P i x) is here))

  pub from_front : (first : ℕ) (l more : List A) → AllFrom P first (l ++ more) → AllFrom P first l
  from_front n [] more all = tt
  from_front n (y ∷ l) more all = (all.0, from_front (suc n) l more all.1)

  from_last : (first : ℕ) (l : List A) (x : A) → AllFrom P first (l ++ x ∷ []) → P (first + length l) x
  from_last n [] x all = let is : n ≡ n + 0 = omega arith in subst (λ i. P i x) is all.0
  from_last n (y ∷ l) x all = let is : suc n + length l ≡ n + suc (length l) = omega arith in subst (λ i. P i x) is (from_last (suc n) l x all.1)

  from_at : (first : ℕ) (l : List A) (k : ℕ) (x : A) → AllFrom P first l → slice_get l k ≡ Some x → P (first + k) x
  from_at n [] k x all at = absurd cc
  from_at n (y ∷ l) zero x all at = let is : n ≡ n + 0 = omega arith in let same : y ≡ x = cc in subst (λ i. P i x) is (subst (P n) same all.0)
  from_at n (y ∷ l) (suc k) x all at = let is : suc n + k ≡ n + suc k = omega arith in subst (λ i. P i x) is (from_at (suc n) l k x all.1 at)

  -- the same, where places are counted from 0

  pub set_place : (l : List A) (k : ℕ) (x : A) → AllFrom P 0 l → P k x → AllFrom P 0 (set l k x)
  set_place l k x all here = let is : k ≡ 0 + k = omega arith in from_set 0 l k x all (subst (λ i. P i x) is here)

  pub push_place : (l : List A) (x : A) → AllFrom P 0 l → P (length l) x → AllFrom P 0 (l ++ x ∷ [])
  push_place l x all here = let is : length l ≡ 0 + length l = omega arith in from_push 0 l x all (subst (λ i. P i x) is here)

  pub last_place : (l : List A) (x : A) → AllFrom P 0 (l ++ x ∷ []) → P (length l) x
  last_place l x all = let is : 0 + length l ≡ length l = omega arith in subst (λ i. P i x) is (from_last 0 l x all)

  pub at_place : (l : List A) (k : ℕ) (x : A) → AllFrom P 0 l → slice_get l k ≡ Some x → P k x
  at_place l k x all at = let is : 0 + k ≡ k = omega arith in subst (λ i. P i x) is (from_at 0 l k x all at)
