-- The first line of a text, and where it ends.
use Rattle.std.proofs.Common.{◌≡◌, ℕ, suc, ◌+◌, Bool, true, false, cond, nat_eq, nat_lt, not, List, [], ◌∷◌, length, take, Some, None, refl, ap, ◌∙◌, arith}
use Rattle.std.specs.Prelude.{unwrap_or}
use Rattle.std.specs.List.{position, position_or_len, prefix_len}
use Rattle.std.proofs.lemmas.Bool.{ltb-false}
use Rattle.std.proofs.lemmas.List.Sums.{prefix_len-le-length}
use Rattle.consistency.specs.Courses.{first_line}

-- One byte more in front.
by_feed : (b : ℕ) (text : List ℕ) → take (position_or_len (λ x. nat_eq x 10) text) text ≡ first_line text → (f : Bool) → nat_eq b 10 ≡ f → take (position_or_len (λ x. nat_eq x 10) (b ∷ text)) (b ∷ text) ≡ first_line (b ∷ text)
by_feed b text rest true is = rw is refl
by_feed b text rest false is =
    let n = prefix_len (λ x. not (nat_eq x 10)) text in
    let one : 1 + n ≡ suc n = omega arith in
    rw is (ap (λ (k : ℕ). take k (b ∷ text)) one ∙ ap (λ (l : List ℕ). b ∷ l) rest)

before_feed : (text : List ℕ) → take (position_or_len (λ x. nat_eq x 10) text) text ≡ first_line text
before_feed [] = refl
before_feed (b ∷ text) = by_feed b text (before_feed text) (nat_eq b 10) refl

-- What stands before the place of the first line feed, if there is one, is the first line.
pub first_line_is : (text : List ℕ) → take (unwrap_or (position (λ x. nat_eq x 10) text) (length text)) text ≡ first_line text
first_line_is text = at_place (nat_lt (position_or_len (λ x. nat_eq x 10) text) (length text)) refl
  where
    at_place : (t : Bool) → nat_lt (position_or_len (λ x. nat_eq x 10) text) (length text) ≡ t → take (unwrap_or (cond t (Some (position_or_len (λ x. nat_eq x 10) text)) None) (length text)) text ≡ first_line text
    at_place true is = before_feed text
    at_place false is =
        let all : length text ≡ position_or_len (λ x. nat_eq x 10) text = omega (arith, prefix_len-le-length (λ x. not (nat_eq x 10)) text, ltb-false (position_or_len (λ x. nat_eq x 10) text) (length text) is) in
        ap (λ (n : ℕ). take n text) all ∙ before_feed text
