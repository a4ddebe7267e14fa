-- Base tracks that are put one after another: since their places rise, each place keeps the one that is listed.
use Rattle.std.proofs.Common.{◌≡◌, ℕ, ◌+◌, ◌<◌, ◌≤◌, ◌⊎◌, inl, inr, Bool, true, false, cond, nat_eq, nat_lt, nat_le, ◌&&◌, ◌||◌, List, [], ◌∷◌, refl, sym, ap, ◌∙◌, arith}
use Rattle.std.specs.Prelude.{fold}
use Rattle.std.proofs.lemmas.Bool.{eqb-true, ltb-true, leb-true, ne_eqb}
use Rattle.ckd_track.specs.declared.rec.Rec.{Rec}
use Rattle.ckd_track.specs.Tracks.{is_track}
use Rattle.write_trace.specs.declared.header.VolumeHead.{VolumeHead}
use Rattle.write_trace.specs.Headers.{Base, is_track_of, is_from, are_bases}
use Rattle.primary_ctl.specs.States.{is_place, base_in}

both_true : (a b : Bool) → (a && b) ≡ true → (a ≡ true) × (b ≡ true)
both_true true b e = (refl, e)
both_true false b e = absurd cc

abbrev pub put : (volume track : ℕ) → List Rec → Base → List Rec
put volume track recs b = cond (is_place b.0 b.1 (volume, track)) b.2 recs

-- what a place holds after all of them
abbrev pub after_puts : (volume track : ℕ) → List Rec → List Base → List Rec
after_puts volume track recs base = fold (put volume track) recs base

-- a place below another
abbrev Below : (v t a b : ℕ) → Type 0
Below v t a b = (v < a) ⊎ ((v ≡ a) × (t < b))

from : (a b x y : ℕ) → is_from (a, b) (x, y) ≡ true → (a < x) ⊎ ((a ≡ x) × (b ≤ y))
from a b x y e = choose (nat_lt a x) (nat_eq a x) refl refl e
  where
    choose : (s t : Bool) → nat_lt a x ≡ s → nat_eq a x ≡ t → (s || (t && nat_le b y)) ≡ true → (a < x) ⊎ ((a ≡ x) × (b ≤ y))
    choose true t is eq e = inl (ltb-true a x is)
    choose false true is eq e = inr (eqb-true a x eq, leb-true b y e)
    choose false false is eq e = absurd cc

below_from : (v t a b x y : ℕ) → Below v t a b → (a < x) ⊎ ((a ≡ x) × (b ≤ y)) → Below v t x y
below_from v t a b x y (inl lt) (inl less) = inl (omega arith)
below_from v t a b x y (inl lt) (inr same) = inl (omega (arith, same.0))
below_from v t a b x y (inr at) (inl less) = inl (omega (arith, at.0))
below_from v t a b x y (inr at) (inr same) = inr (omega (arith, at.0, same.0), omega (arith, at.1, same.1))

not_here : (v t x y : ℕ) → Below v t x y → is_place x y (v, t) ≡ false
not_here v t x y (inl lt) = rw (ne_eqb x v (λ e. omega (arith, lt))) refl
not_here v t x y (inr at) = second (nat_eq x v)
  where
    second : (b : Bool) → (b && nat_eq y t) ≡ false
    second true = ne_eqb y t (λ e. omega (arith, at.1))
    second false = refl

-- the parts of the rules
pub parts : (volumes : List VolumeHead) (low : ℕ × ℕ) (b : Base) (base : List Base) → are_bases volumes low (b ∷ base) ≡ true → (is_from low (b.0, b.1) ≡ true) × (are_bases volumes (b.0, b.1 + 1) base ≡ true)
parts volumes low b base e =
    let last = both_true (is_track_of volumes b.0 b.1 && is_from low (b.0, b.1) && is_track b.2) (are_bases volumes (b.0, b.1 + 1) base) e in
    let third = both_true (is_track_of volumes b.0 b.1 && is_from low (b.0, b.1)) (is_track b.2) last.0 in
    let second = both_true (is_track_of volumes b.0 b.1) (is_from low (b.0, b.1)) third.0 in
    (second.1, last.1)

-- none that is listed above a place changes it
untouched : (volumes : List VolumeHead) (low : ℕ × ℕ) (v t : ℕ) (recs : List Rec) (base : List Base) → Below v t low.0 low.1 → are_bases volumes low base ≡ true → after_puts v t recs base ≡ recs
untouched volumes low v t recs [] below e = refl
untouched volumes low v t recs (b ∷ base) below e =
    let p = parts volumes low b base e in
    let at : Below v t b.0 b.1 = below_from v t low.0 low.1 b.0 b.1 below (from low.0 low.1 b.0 b.1 p.0) in
    ap (λ (r : List Rec). after_puts v t r base) (ap (λ h. cond h b.2 recs) (not_here v t b.0 b.1 at)) ∙ untouched volumes (b.0, b.1 + 1) v t recs base (next at) p.1
  where
    next : Below v t b.0 b.1 → Below v t b.0 (b.1 + 1)
    next (inl lt) = inl lt
    next (inr at) = inr (at.0, omega (arith, at.1))

pub puts_are : (volumes : List VolumeHead) (low : ℕ × ℕ) (v t : ℕ) (base : List Base) → are_bases volumes low base ≡ true → after_puts v t [] base ≡ base_in base v t
puts_are volumes low v t [] e = refl
puts_are volumes low v t (b ∷ base) e =
    let p = parts volumes low b base e in
    choose (nat_eq b.0 v) (nat_eq b.1 t) refl refl p.1 (puts_are volumes (b.0, b.1 + 1) v t base p.1)
  where
    choose : (x y : Bool) → nat_eq b.0 v ≡ x → nat_eq b.1 t ≡ y → are_bases volumes (b.0, b.1 + 1) base ≡ true → after_puts v t [] base ≡ base_in base v t
        → after_puts v t (cond (x && y) b.2 []) base ≡ cond (x && y) b.2 (base_in base v t)
    choose true true xs ys rest h = untouched volumes (b.0, b.1 + 1) v t b.2 base (inr (sym (eqb-true b.0 v xs), omega (arith, eqb-true b.1 t ys))) rest
    choose true false xs ys rest h = h
    choose false y xs ys rest h = h
