-- A piece that was copied out of bytes, and what is left of them.
use Rattle.std.proofs.Common.{◌≡◌, ℕ, ◌+◌, ◌-◌, ◌≤◌, List, [], ◌++◌, length, take, drop, sym, ◌∙◌, arith, length-take, length-drop}
use Rattle.std.proofs.lemmas.List.{take_at, take-append-drop, drop-drop, nil_from_length, take_all}

-- The bytes from a place on, as a range to their end.
pub range_to_end : (bytes seen left : List ℕ) (p : ℕ) → seen ≡ bytes → drop p bytes ≡ left → take (length seen - p) (drop p seen) ≡ left
range_to_end bytes seen left p same view =
    rw same (take_all (length bytes - p) (drop p bytes) (omega (arith, length-drop p bytes)) ∙ view)

-- The bytes that were left are the piece in front of what is left after it.
pub piece_and_rest : (bytes left piece tail : List ℕ) (p n : ℕ) → drop p bytes ≡ left → n ≤ length left → piece ≡ take n left
    → left ≡ take n (piece ++ tail) ++ drop (p + n) bytes
piece_and_rest bytes left piece tail p n view le is =
    let len : length piece ≡ n = rw is (omega (arith, le, length-take n left)) in
    sym (rw (take_at piece tail n len, is, ← drop-drop n p bytes, view) (take-append-drop n left))

pub none_left : (left : List ℕ) → length left ≤ 0 → left ≡ []
none_left left le = nil_from_length left (omega (arith, le))
