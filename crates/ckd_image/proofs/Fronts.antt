-- Bytes that begin with others.
use Rattle.std.proofs.Common.{◌≡◌, ℕ, ◌+◌, ◌≤◌, Bool, true, false, cond, List, [], ◌∷◌, ◌++◌, length, take, drop, Result, Ok, Err, refl, sym, ap, ◌∙◌, inl, inr, arith}
use Rattle.std.specs.Prelude.{not, ◌⊎◌}
use Rattle.std.proofs.lemmas.List.{take_at, take-append-drop}
use Rattle.std.proofs.lemmas.Slice.Eq.{bytes_eq-Decides}
use Rattle.ckd_image.specs.ImageTracks.{begins_with}

pub begins_is : (front bytes : List ℕ) → begins_with front bytes ≡ true → bytes ≡ front ++ drop (length front) bytes
begins_is front bytes e =
    sym (take-append-drop (length front) bytes) ∙ ap (λ (t : List ℕ). t ++ drop (length front) bytes) (sym ((bytes_eq-Decides front (take (length front) bytes)).0 e))

pub begins_again : (front rest : List ℕ) → begins_with front (front ++ rest) ≡ true
begins_again front rest = (bytes_eq-Decides front (take (length front) (front ++ rest))).1 (sym (take_at front rest (length front) refl))

-- which way a test went
pub chosen : {A : Type 0} (b : Bool) (x y z : A) → cond b x y ≡ z → ((b ≡ true) × (x ≡ z)) ⊎ ((b ≡ false) × (y ≡ z))
chosen true x y z e = inl (refl, e)
chosen false x y z e = inr (refl, e)

pub not_false : (b : Bool) → not b ≡ false → b ≡ true
not_false true e = refl
not_false false e = absurd cc
