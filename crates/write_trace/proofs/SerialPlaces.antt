-- Where the serials stand in what a header spells.
use Rattle.std.proofs.Common.{◌≡◌, ℕ, zero, suc, ◌+◌, ◌*◌, true, nat_eq, List, [], ◌∷◌, ◌++◌, length, take, drop, Option, Some, None, ap, subst, ◌∙◌, append_assoc, length-append, arith}
use Rattle.std.specs.List.{flat_map, slice_get}
use Rattle.std.specs.Int.{w16, w32, to_be_bytes}
use Rattle.std.proofs.lemmas.Option.{same_Some}
use Rattle.std.proofs.Math.Nat.{suc-mul}
use Rattle.std.proofs.Math.Seq.{drop-append-add, take-append_seam}
use Rattle.tod_stamp.specs.Names.{serial_field}
use Rattle.tod_stamp.proofs.FieldLaws.{wide16}
use Rattle.tod_stamp.proofs.NameLaws.{length-name_field}
use Rattle.write_trace.specs.declared.header.VolumeHead.{VolumeHead}
use Rattle.write_trace.specs.Headers.{are_volumes, base_spelling, cylinder_width, header_spelling, serial_place, trace_mark, volume_length, volume_spelling}
use Rattle.write_trace.specs.Laws.{SerialsStandThere}
use Rattle.write_trace.proofs.FieldSteps.{cylinder_wide}
use Rattle.write_trace.proofs.FieldsAgain.{first_volume}
use Rattle.write_trace.proofs.HeaderRanges.{header_rules}

-- a front is passed over
passed : (n k : ℕ) (front rest : List ℕ) → length front ≡ n → drop (n + k) (front ++ rest) ≡ drop k rest
passed n k front rest len = subst (λ m. drop (m + k) (front ++ rest) ≡ drop k rest) len (drop-append-add front rest k)

-- a front is taken
taken : (n : ℕ) (front rest : List ℕ) → length front ≡ n → take n (front ++ rest) ≡ front
taken n front rest len = subst (λ m. take m (front ++ rest) ≡ front) len (take-append_seam front rest)

serial_length : (version : ℕ) (seen : List (List ℕ)) (v : VolumeHead) (volumes : List VolumeHead) → are_volumes version seen (v ∷ volumes) ≡ true → length (serial_field v.serial) ≡ 6
serial_length version seen v volumes are = length-name_field 6 v.serial (first_volume version seen v volumes are).serial

spelled_length : (version : ℕ) (seen : List (List ℕ)) (v : VolumeHead) (volumes : List VolumeHead) → are_volumes version seen (v ∷ volumes) ≡ true → length (volume_spelling version v) ≡ volume_length version
spelled_length version seen v volumes are =
    omega (arith, length-append (serial_field v.serial) (to_be_bytes (cylinder_width version) v.cylinders), serial_length version seen v volumes are, (cylinder_wide (nat_eq version 1)).len v.cylinders)

no_head : (head : VolumeHead) → (let none : Option VolumeHead = None in none ≡ Some head) → ⊥
no_head head is = cc

-- among the volumes alone, which have a length each
in_volumes : (version : ℕ) (seen : List (List ℕ)) (volumes : List VolumeHead) (k : ℕ) (head : VolumeHead) (rest : List ℕ) → are_volumes version seen volumes ≡ true → slice_get volumes k ≡ Some head
    → take 6 (drop (k * volume_length version) (flat_map (volume_spelling version) volumes ++ rest)) ≡ serial_field head.serial
in_volumes version seen [] k head rest are there = absurd (no_head head there)
in_volumes version seen (v ∷ volumes) zero head rest are there =
    let field = serial_field v.serial in
    let text = flat_map (volume_spelling version) volumes in
    let number = to_be_bytes (cylinder_width version) v.cylinders in
    let none : zero * volume_length version ≡ 0 = omega arith in
    ap (λ n. take 6 (drop n (flat_map (volume_spelling version) (v ∷ volumes) ++ rest))) none
    ∙ ap (take 6) (append_assoc (volume_spelling version v) text rest ∙ append_assoc field number (text ++ rest))
    ∙ taken 6 field (number ++ (text ++ rest)) (serial_length version seen v volumes are)
    ∙ ap (λ (h : VolumeHead). serial_field h.serial) (same_Some v head there)
in_volumes version seen (v ∷ volumes) (suc k) head rest are there =
    let long = volume_length version in
    let text = flat_map (volume_spelling version) volumes in
    let count : suc k * long ≡ long + k * long = suc-mul k long ∙ omega arith in
    ap (λ n. take 6 (drop n (flat_map (volume_spelling version) (v ∷ volumes) ++ rest))) count
    ∙ ap (λ t. take 6 (drop (long + k * long) t)) (append_assoc (volume_spelling version v) text rest)
    ∙ ap (take 6) (passed long (k * long) (volume_spelling version v) (text ++ rest) (spelled_length version seen v volumes are))
    ∙ in_volumes version (v.serial ∷ seen) volumes k head rest (first_volume version seen v volumes are).others there

pub serials_stand : SerialsStandThere
serials_stand h k head kept there =
    let rules = header_rules h kept in
    let front = trace_mark h.version ++ to_be_bytes w16 (length h.volumes) in
    let heads = flat_map (volume_spelling h.version) h.volumes in
    let count = to_be_bytes w32 (length h.base) in
    let bases = flat_map (base_spelling h.version) h.base in
    let parts : header_spelling h ≡ front ++ (heads ++ (count ++ bases)) =
    append_assoc (front ++ heads) count bases ∙ append_assoc front heads (count ++ bases) in
    let first : length front ≡ 6 = omega (arith, length-append (trace_mark h.version) (to_be_bytes w16 (length h.volumes)), wide16.len (length h.volumes)) in
    ap (λ t. take 6 (drop (serial_place h.version k) t)) parts
    ∙ ap (take 6) (passed 6 (k * volume_length h.version) front (heads ++ (count ++ bases)) first)
    ∙ in_volumes h.version [] h.volumes k head (count ++ bases) rules.volumes there
