-- The first piece of a text and what follows it, by the place of the byte that parts.
use Rattle.std.proofs.Common.{◌≡◌, ℕ, ◌+◌, Bool, true, false, cond, nat_eq, nat_lt, List, length, take, drop, Some, None, refl, sym, ap, ◌∙◌, arith}
use Rattle.std.specs.List.{position, position_or_len}
use Rattle.std.specs.Prelude.{bytes_eq}
use Rattle.std.proofs.lemmas.Bool.{ltb-false}
use Rattle.std.proofs.lemmas.List.{take_all, drop_all}
use Rattle.std.proofs.lemmas.Slice.Eq.{bytes_eq-Decides}
use Rattle.trace_lines.specs.Pieces.{first_piece, after_piece}

some_place : (b : Bool) (n place : ℕ) → cond b (Some n) None ≡ Some place → n ≡ place
some_place true n place e = cc
some_place false n place e = absurd cc

no_place : (b : Bool) (n : ℕ) → cond b (Some n) None ≡ None → b ≡ false
no_place true n e = absurd cc
no_place false n e = refl

pub piece_at : (parting place : ℕ) (text : List ℕ) → position (λ byte. nat_eq byte parting) text ≡ Some place → first_piece parting text ≡ take place text
piece_at parting place text e =
    let n = position_or_len (λ byte. nat_eq byte parting) text in
    ap (λ (k : ℕ). take k text) (some_place (nat_lt n (length text)) n place e)

pub rest_at : (parting place : ℕ) (text : List ℕ) → position (λ byte. nat_eq byte parting) text ≡ Some place → after_piece parting text ≡ drop (place + 1) text
rest_at parting place text e =
    let n = position_or_len (λ byte. nat_eq byte parting) text in
    ap (λ (k : ℕ). drop (k + 1) text) (some_place (nat_lt n (length text)) n place e)

pub whole_piece : (parting : ℕ) (text : List ℕ) → position (λ byte. nat_eq byte parting) text ≡ None → first_piece parting text ≡ text
whole_piece parting text e =
    let n = position_or_len (λ byte. nat_eq byte parting) text in
    take_all n text (ltb-false n (length text) (no_place (nat_lt n (length text)) n e))

pub nothing_after : (parting : ℕ) (text : List ℕ) → position (λ byte. nat_eq byte parting) text ≡ None → after_piece parting text ≡ drop (length text) text
nothing_after parting text e =
    let n = position_or_len (λ byte. nat_eq byte parting) text in
    let past = ltb-false n (length text) (no_place (nat_lt n (length text)) n e) in
    drop_all (n + 1) text (omega (arith, past)) ∙ sym (drop_all (length text) text (omega arith))

-- Bytes that are equal are the same.
pub same_bytes : (xs ys : List ℕ) → bytes_eq xs ys ≡ true → xs ≡ ys
same_bytes xs ys e = (bytes_eq-Decides xs ys).0 e
