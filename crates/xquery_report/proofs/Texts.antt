-- Texts that are put after a text one after another.
use Rattle.std.proofs.Common.{◌≡◌, ◌++◌, ◌∙◌, ℕ, List, ap, append_assoc}

pub two_after : (old a b mid new : List ℕ) → mid ≡ old ++ a → new ≡ mid ++ b → new ≡ old ++ (a ++ b)
two_after old a b mid new p q = q ∙ ap (λ (l : List ℕ). l ++ b) p ∙ append_assoc old a b

pub four_after : (old a b c d : List ℕ) (w x y z : List ℕ) → w ≡ old ++ a → x ≡ w ++ b → y ≡ x ++ c → z ≡ y ++ d → z ≡ old ++ (a ++ b ++ c ++ d)
four_after old a b c d w x y z p q r s = two_after old (a ++ b ++ c) d y z (two_after old (a ++ b) c x y (two_after old a b w x p q) r) s
