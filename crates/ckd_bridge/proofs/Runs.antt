-- Pieces one after another: those that are good, and what was put so far.
use Rattle.std.proofs.Common.{◌≡◌, ℕ, ◌+◌, ◌<◌, Bool, true, false, nat_lt, List, [], ◌++◌, Option, Some, None, Result, Ok, Err, refl, sym, ap, subst, ◌∙◌, append_assoc, add-one, arith, inl, inr}
use Rattle.std.specs.Prelude.{◌⊎◌, IsOk}
use Rattle.std.proofs.lemmas.Bool.{ltb-true, ltb-false}
use Rattle.std.proofs.lemmas.List.{append-nil}
use Rattle.ckd_bridge.specs.declared.stop.Refusal.{Refusal}
use Rattle.ckd_bridge.specs.Sinks.{Appends}
use Rattle.ckd_bridge.specs.Pieces.{AreGood, bytes_of_piece, pieces_up_to}

abbrev pub Pieces : Type 0
Pieces = ℕ → Result (List ℕ) Refusal

-- ---- good pieces

is_ok : (r : Result (List ℕ) Refusal) (bytes : List ℕ) → r ≡ Ok bytes → IsOk r
is_ok (Ok x) bytes e = refl
is_ok (Err d) bytes e = absurd cc

-- a number below the next is below this one, or it is this one
pub below_or_last : (k n : ℕ) → k < n + 1 → (k < n) ⊎ (k ≡ n)
below_or_last k n lt = by_test (nat_lt k n) refl
  where
    by_test : (t : Bool) → nat_lt k n ≡ t → (k < n) ⊎ (k ≡ n)
    by_test true is = inl (ltb-true k n is)
    by_test false is = inr (omega (arith, ltb-false k n is, lt))

pub good_more : (piece : Pieces) (n : ℕ) (bytes : List ℕ) → AreGood piece n → piece n ≡ Ok bytes → AreGood piece (n + 1)
good_more piece n bytes good read k lt = elim (below_or_last k n lt) [
  | inl before ↦ good k before
  | inr here ↦ subst (λ j. IsOk (piece j)) (sym here) (is_ok (piece n) bytes read)
]

-- ---- what was put

pub puts_nothing : (x : Option (List ℕ)) → Appends [] x x
puts_nothing (Some x) = sym (append-nil x)
puts_nothing None = tt

pub puts_more : (a b : List ℕ) (x y z : Option (List ℕ)) → Appends a x y → Appends b y z → Appends (a ++ b) x z
puts_more a b (Some x) (Some y) (Some z) one two = two ∙ ap (λ (t : List ℕ). t ++ b) one ∙ append_assoc x a b
puts_more a b (Some x) (Some y) None one two = absurd two
puts_more a b (Some x) None z one two = absurd one
puts_more a b None (Some y) z one two = absurd one
puts_more a b None None (Some z) one two = absurd two
puts_more a b None None None one two = tt

pub puts_a_piece : (piece : Pieces) (n : ℕ) (bytes : List ℕ) (x y z : Option (List ℕ)) → Appends (pieces_up_to piece n) x y → piece n ≡ Ok bytes → Appends bytes y z → Appends (pieces_up_to piece (n + 1)) x z
puts_a_piece piece n bytes x y z so_far read put =
    let more : pieces_up_to piece n ++ bytes ≡ pieces_up_to piece (n + 1) = ap (λ (t : List ℕ). pieces_up_to piece n ++ t) (sym (ap bytes_of_piece read)) ∙ ap (pieces_up_to piece) (sym (add-one n)) in
    subst (λ (t : List ℕ). Appends t x z) more (puts_more (pieces_up_to piece n) bytes x y z so_far put)
