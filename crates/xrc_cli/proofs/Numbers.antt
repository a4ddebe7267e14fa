-- Numbers in decimal digits.
use Rattle.std.proofs.Common.{◌≡◌, ℕ, ◌+◌, ◌*◌, ◌-◌, ◌<◌, ◌≤◌, Bool, true, false, List, [], ◌∷◌, length, get_or, take, drop, Option, Some, None, refl, sym, ap, ◌∙◌, arith, nat_le}
use Rattle.std.specs.Prelude.{fold, if◌then◌else◌}
use Rattle.std.proofs.lemmas.List.{take-append-drop}
use Rattle.std.proofs.lemmas.List.Sums.{fold-append, fold_more}
use Rattle.tod_stamp.specs.Fields.{within}
use Rattle.xrc_cli.specs.Words.{digits_value, from_to, has_leading_zero, number_in, with_digit}

-- after a byte that is no digit nothing has a value
stays_none : (ys : List ℕ) → fold with_digit None ys ≡ None
stays_none [] = refl
stays_none (y ∷ ys) = stays_none ys

above : (least most w : ℕ) → most < w → from_to least most (Some w) ≡ None
above least most w high = grind (arith)

-- with one digit more, or none
one_more : (least most w y : ℕ) (ys : List ℕ) (t : Bool) → most < w → ((v : ℕ) → most < v → from_to least most (fold with_digit (Some v) ys) ≡ None) → from_to least most (fold with_digit (if t then Some (10 * w + (y - 48)) else None) ys) ≡ None
one_more least most w y ys true high again = again (10 * w + (y - 48)) (omega arith)
one_more least most w y ys false high again = ap (from_to least most) (stays_none ys)

-- digits after a value never make it less
beyond : (least most w : ℕ) (ys : List ℕ) → most < w → from_to least most (fold with_digit (Some w) ys) ≡ None
beyond least most w [] high = above least most w high
beyond least most w (y ∷ ys) high = one_more least most w y ys (within 48 57 y) high (λ v. beyond least most v ys)

-- Once the first digits are worth too much, so are all.
too_large : (least most w : ℕ) (xs : List ℕ) (i : ℕ) → digits_value (take i xs) ≡ Some w → most < w → from_to least most (digits_value xs) ≡ None
too_large least most w xs i e high =
    ap (λ l. from_to least most (digits_value l)) (sym (take-append-drop i xs)) ∙ ap (from_to least most) (fold-append with_digit (Some 0) (take i xs) (drop i xs))
    ∙ ap (λ v. from_to least most (fold with_digit v (drop i xs))) e ∙ beyond least most w (drop i xs) high

-- the value with one digit more
added : (v b n : ℕ) (t : Bool) → (if t then Some (b - 48) else None) ≡ Some n → (if t then Some (10 * v + (b - 48)) else None) ≡ Some (10 * v + n)
added v b n true e = cc
added v b n false e = absurd cc

-- So are all once the next digit makes it too much.
pub passes : (most v n : ℕ) (xs : List ℕ) (i d : ℕ) → i < length xs → digits_value (take i xs) ≡ Some v
    → (if within 48 57 (get_or xs i d) then Some (get_or xs i d - 48) else None) ≡ Some n → most < 10 * v + n → from_to 0 most (digits_value xs) ≡ None
passes most v n xs i d lt e digit high =
    too_large 0 most (10 * v + n) xs (i + 1) (fold_more with_digit (Some 0) xs i d lt ∙ ap (λ o. with_digit o (get_or xs i d)) e ∙ added v (get_or xs i d) n (within 48 57 (get_or xs i d)) digit) high

-- all digits
pub whole : (most w : ℕ) (xs : List ℕ) → digits_value (take (length xs) xs) ≡ Some w → w ≤ most → from_to 0 most (digits_value xs) ≡ Some w
whole most w xs e low = ap (λ l. from_to 0 most (digits_value l)) (sym (all_of xs)) ∙ ap (from_to 0 most) e ∙ within_most most w low
  where
    all_of : (l : List ℕ) → take (length l) l ≡ l
    all_of [] = refl
    all_of (y ∷ ys) = ap (λ l. y ∷ l) (all_of ys)

    within_most : (m n : ℕ) → n ≤ m → from_to 0 m (Some n) ≡ Some n
    within_most m n low = grind (arith)

-- ---- a number by its digits

pub none_of_empty : (least most : ℕ) (word : List ℕ) → length word ≡ 0 → number_in least most word ≡ None
none_of_empty least most [] e = refl
none_of_empty least most (b ∷ word) e = absurd (omega arith)

pub none_of_zero : (least most : ℕ) (word : List ℕ) → has_leading_zero word ≡ true → number_in least most word ≡ None
none_of_zero least most [] is = refl
none_of_zero least most (b ∷ word) is = ap (λ t. if t then None else from_to least most (digits_value (b ∷ word))) is

pub of_digits : (least most : ℕ) (word : List ℕ) → 0 < length word → has_leading_zero word ≡ false → number_in least most word ≡ from_to least most (digits_value word)
of_digits least most [] some not = absurd (omega arith)
of_digits least most (b ∷ word) some not = ap (λ t. if t then None else from_to least most (digits_value (b ∷ word))) not

pub no_value : (least most : ℕ) (v : Option ℕ) → from_to 0 most v ≡ None → from_to least most v ≡ None
no_value least most None e = refl
no_value least most (Some n) e = cases (nat_le n most) refl
  where
    cases : (t : Bool) → nat_le n most ≡ t → from_to least most (Some n) ≡ None
    cases true is = grind (arith)
    cases false is = grind (arith)

pub too_small : (least most n : ℕ) (v : Option ℕ) → from_to 0 most v ≡ Some n → n < least → from_to least most v ≡ None
too_small least most n None e low = refl
too_small least most n (Some m) e low = grind (arith)

pub in_range : (least most n : ℕ) (v : Option ℕ) → from_to 0 most v ≡ Some n → least ≤ n → from_to least most v ≡ Some n
in_range least most n None e high = absurd cc
in_range least most n (Some m) e high = grind (arith)
