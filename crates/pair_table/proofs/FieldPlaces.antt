-- Fields at their offsets: what stands after a front of known length, and how 38 bytes fall into their fields.
use Rattle.std.proofs.Common.{◌≡◌, ℕ, ◌+◌, ◌-◌, ◌≤◌, List, ◌++◌, length, drop, sym, ap, ◌∙◌, arith, length-take, length-drop}
use Rattle.std.specs.Prelude.{slice_range, slice_index}
use Rattle.std.specs.Int.{w16, w32, w64, to_be_bytes, from_be_bytes}
use Rattle.std.proofs.Math.Seq.{drop-append-add}
use Rattle.std.proofs.lemmas.List.{take-append-drop, drop-drop, get_or-append-add}
use Rattle.tod_stamp.specs.Fields.{IsBytes}
use Rattle.tod_stamp.proofs.FieldLaws.{IsBytes-drop, IsBytes-take, wide16, wide32, wide64}

-- after the front
pub drop_past : (front rest : List ℕ) (long n from : ℕ) → length front ≡ long → from ≡ long + n → drop from (front ++ rest) ≡ drop n rest
drop_past front rest long n from len at =
    let whole : from ≡ length front + n = omega (arith, len, at) in
    ap (λ k. drop k (front ++ rest)) whole ∙ drop-append-add front rest n

pub index_past : (front rest : List ℕ) (long n from : ℕ) → length front ≡ long → from ≡ long + n → slice_index (front ++ rest) from ≡ slice_index rest n
index_past front rest long n from len at =
    let whole : from ≡ length front + n = omega (arith, len, at) in
    ap (λ k. slice_index (front ++ rest) k) whole ∙ get_or-append-add front rest n 0

-- a field and what follows it
pub field_and_rest : (bytes : List ℕ) (from to : ℕ) → from ≤ to → drop from bytes ≡ slice_range bytes from to ++ drop to bytes
field_and_rest bytes from to le =
    sym (take-append-drop (to - from) (drop from bytes))
    ∙ ap (λ (t : List ℕ). slice_range bytes from to ++ t) (drop-drop (to - from) from bytes ∙ ap (λ k. drop k bytes) (omega (arith, le)))

-- a field's own bytes
pub length-field : (bytes : List ℕ) (from to : ℕ) → from ≤ to → to ≤ length bytes → length (slice_range bytes from to) ≡ to - from
length-field bytes from to le within = omega (arith, le, within, length-take (to - from) (drop from bytes), length-drop from bytes)

pub IsBytes-field : (bytes : List ℕ) (from to : ℕ) → IsBytes bytes → IsBytes (slice_range bytes from to)
IsBytes-field bytes from to fits = IsBytes-take (to - from) (drop from bytes) (IsBytes-drop from bytes fits)

-- a number's field is the spelling of the number in it
pub number_spelled : (bytes : List ℕ) (from to : ℕ) → from ≤ to → to ≤ length bytes → to - from ≡ 2 → IsBytes bytes → to_be_bytes w16 (from_be_bytes w16 (slice_range bytes from to)) ≡ slice_range bytes from to
number_spelled bytes from to le within two fits = wide16.back (slice_range bytes from to) (length-field bytes from to le within ∙ two) (IsBytes-field bytes from to fits)

pub long_spelled : (bytes : List ℕ) (from to : ℕ) → from ≤ to → to ≤ length bytes → to - from ≡ 4 → IsBytes bytes → to_be_bytes w32 (from_be_bytes w32 (slice_range bytes from to)) ≡ slice_range bytes from to
long_spelled bytes from to le within four fits = wide32.back (slice_range bytes from to) (length-field bytes from to le within ∙ four) (IsBytes-field bytes from to fits)

pub time_spelled : (bytes : List ℕ) (from to : ℕ) → from ≤ to → to ≤ length bytes → to - from ≡ 8 → IsBytes bytes → to_be_bytes w64 (from_be_bytes w64 (slice_range bytes from to)) ≡ slice_range bytes from to
time_spelled bytes from to le within eight fits = wide64.back (slice_range bytes from to) (length-field bytes from to le within ∙ eight) (IsBytes-field bytes from to fits)
