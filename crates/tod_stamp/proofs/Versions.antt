-- The two versions of a format.
use Rattle.std.proofs.Common.{◌≡◌, ◌⊎◌, inl, inr, ℕ, zero, suc, true, nat_le, refl, arith}
use Rattle.std.proofs.lemmas.Bool.{and_parts, leb-true}
use Rattle.tod_stamp.specs.Fields.{is_version}

pub one_or_two : (version : ℕ) → is_version version ≡ true → (version ≡ 1) ⊎ (version ≡ 2)
one_or_two zero is = absurd cc
one_or_two (suc zero) is = inl refl
one_or_two (suc (suc zero)) is = inr refl
one_or_two (suc (suc (suc n))) is = absurd (omega (arith, leb-true (suc (suc (suc n))) 2 (and_parts (nat_le 1 (suc (suc (suc n)))) (nat_le (suc (suc (suc n))) 2) is).1))
