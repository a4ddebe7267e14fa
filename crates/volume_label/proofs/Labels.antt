-- A label is read as it was spelled.
use Rattle.std.proofs.Common.{◌≡◌, ◌==◌, ◌&&◌, ◌++◌, ◌+◌, ◌<◌, ℕ, List, Bool, true, false, cond, Option, Some, None, IfSome, length, take, drop, refl, sym, ◌∙◌, ap, subst, arith, append_assoc, length-append, length-drop, take-append-drop}
use Rattle.std.specs.Prelude.{codes, bytes_eq, slice_range}
use Rattle.std.specs.Int.{w32, to_be_bytes, from_be_bytes}
use Rattle.std.proofs.lemmas.Bool.{eqb-true, eq-eqb, ne_eqb}
use Rattle.std.proofs.lemmas.List.{take_at, drop_at, drop-drop}
use Rattle.std.proofs.lemmas.Option.{same_Some}
use Rattle.std.proofs.lemmas.Slice.Eq.{bytes_eq-Decides}
use Rattle.tod_stamp.specs.Names.{is_name, is_serial, is_field, name_in, serial_field, before_spaces}
use Rattle.tod_stamp.proofs.NameLaws.{and_true, both_true, fields_spelled, length-name_field, names_back}
use Rattle.tod_stamp.proofs.FieldLaws.{IsBytes-drop, wide32}
use Rattle.crash_plant.specs.Bytes.{patched, Torn}
use Rattle.crash_plant.specs.Moments.{Standing, Follows, SamePast, Same}
use Rattle.crash_plant.proofs.Steps.{follows_then}
use Rattle.volume_label.specs.declared.label.Label.{Label}
use Rattle.volume_label.specs.Labels.{holds_cylinders, label_of, label_spelling, with_serial}
use Rattle.volume_label.specs.Laws.{IsValid, LabelsAreSpelled, LabelsReadBack}

abbrev mark : List ℕ
mark = codes "XVOL"

abbrev number_of : List ℕ → ℕ
number_of bytes = from_be_bytes w32 (drop 10 bytes)

pub spelled_length : (label : Label) → is_serial label.serial ≡ true → length (label_spelling label) ≡ 14
spelled_length label is =
    let field = serial_field label.serial in
    omega (arith, length-append mark field, length-append (mark ++ field) (to_be_bytes w32 label.cylinders), length-name_field 6 label.serial is, wide32.len label.cylinders)

pub back : LabelsReadBack
back device_length label v =
    let field = serial_field label.serial in
    let number = to_be_bytes w32 label.cylinders in
    let six = length-name_field 6 label.serial v.serial in
    let after : label_spelling label ≡ mark ++ (field ++ number) = append_assoc mark field number in
    let front : take 4 (label_spelling label) ≡ mark = ap (take 4) after ∙ take_at mark (field ++ number) 4 refl in
    let rest : drop 4 (label_spelling label) ≡ field ++ number = ap (drop 4) after ∙ drop_at mark (field ++ number) 4 refl in
    let name : slice_range (label_spelling label) 4 10 ≡ field = ap (take 6) rest ∙ take_at field number 6 six in
    let last : drop 10 (label_spelling label) ≡ number = sym (drop-drop 6 4 (label_spelling label)) ∙ ap (drop 6) rest ∙ drop_at field number 6 six in
    let count : from_be_bytes w32 (drop 10 (label_spelling label)) ≡ label.cylinders = ap (from_be_bytes w32) last ∙ wide32.again label.cylinders v.fits in
    let is_mark : bytes_eq mark (take 4 (label_spelling label)) ≡ true = (bytes_eq-Decides mark (take 4 (label_spelling label))).1 (sym front) in
    let bytes = label_spelling label in
    ap (λ (t : Bool). cond t (with_serial device_length (name_in 6 (slice_range bytes 4 10)) (from_be_bytes w32 (drop 10 bytes))) None)
    (and_true (length bytes == 14) (bytes_eq mark (take 4 bytes)) (eq-eqb (length bytes) 14 (spelled_length label v.serial)) is_mark)
    ∙ (λ i. with_serial device_length (name_in 6 (name i)) (count i))
    ∙ ap (λ (o : Option (List ℕ)). with_serial device_length o label.cylinders) (names_back 6 label.serial v.serial)
    ∙ ap (λ (t : Bool). cond t (Some label) None) v.room

-- the name in a field, which is a name
pub name_parts : (bytes name : List ℕ) → name_in 6 bytes ≡ Some name → (is_serial name ≡ true) × (serial_field name ≡ bytes)
name_parts bytes name e = choose (length bytes == 6 && is_field 6 bytes) refl e
  where
    choose : (t : Bool) → (length bytes == 6 && is_field 6 bytes) ≡ t → cond t (Some (before_spaces bytes)) None ≡ Some name → (is_serial name ≡ true) × (serial_field name ≡ bytes)
    choose true holds e =
        let parts = both_true (length bytes == 6) (is_field 6 bytes) holds in
        let same = same_Some (before_spaces bytes) name e in
        let valid = both_true (is_name 6 (before_spaces bytes)) _ parts.1 in
        (ap is_serial (sym same) ∙ valid.0, ap serial_field (sym same) ∙ fields_spelled 6 bytes (eqb-true (length bytes) 6 parts.0) parts.1)
    choose false holds e = absurd cc

pub spelled : LabelsAreSpelled
spelled device_length bytes label fits e = choose (length bytes == 14 && bytes_eq mark (take 4 bytes)) refl e
  where
    by_room : (serial : List ℕ) (room : Bool) → length bytes ≡ 14 → mark ≡ take 4 bytes → name_in 6 (slice_range bytes 4 10) ≡ Some serial → holds_cylinders device_length (number_of bytes) ≡ room
        → cond room (Some (record { serial = serial; cylinders = (number_of bytes) })) None ≡ Some label → IsValid device_length label × (bytes ≡ label_spelling label)
    by_room serial true len begins named room e =
        let parts = name_parts (slice_range bytes 4 10) serial named in
        let l : Label = record { serial = serial; cylinders = (number_of bytes) } in
        let whole : bytes ≡ label_spelling l =
        sym (take-append-drop 4 bytes) ∙ ap (λ (x : List ℕ). x ++ drop 4 bytes) (sym begins)
        ∙ ap (λ (x : List ℕ). mark ++ x) (sym (take-append-drop 6 (drop 4 bytes)) ∙ ap (λ (x : List ℕ). x ++ drop 6 (drop 4 bytes)) (sym parts.1) ∙ ap (λ (x : List ℕ). serial_field serial ++ x) (drop-drop 6 4 bytes ∙ sym (wide32.back (drop 10 bytes) (omega (arith, len, length-drop 10 bytes)) (IsBytes-drop 10 bytes fits))))
        ∙ sym (append_assoc mark (serial_field serial) (to_be_bytes w32 (number_of bytes))) in
        subst (λ (k : Label). IsValid device_length k × (bytes ≡ label_spelling k)) (same_Some l label e) (record { serial = parts.0; fits = wide32.below (drop 10 bytes) (IsBytes-drop 10 bytes fits); room = room }, whole)
    by_room serial false len begins named room e = absurd cc

    by_name : (o : Option (List ℕ)) → length bytes ≡ 14 → mark ≡ take 4 bytes → name_in 6 (slice_range bytes 4 10) ≡ o → with_serial device_length o (number_of bytes) ≡ Some label → IsValid device_length label × (bytes ≡ label_spelling label)
    by_name None len begins named e = absurd cc
    by_name (Some serial) len begins named e = by_room serial (holds_cylinders device_length (number_of bytes)) len begins named refl e

    choose : (t : Bool) → (length bytes == 14 && bytes_eq mark (take 4 bytes)) ≡ t → cond t (with_serial device_length (name_in 6 (slice_range bytes 4 10)) (number_of bytes)) None ≡ Some label → IsValid device_length label × (bytes ≡ label_spelling label)
    choose true holds e =
        let parts = both_true (length bytes == 14) (bytes_eq mark (take 4 bytes)) holds in
        by_name (name_in 6 (slice_range bytes 4 10)) (eqb-true (length bytes) 14 parts.0) ((bytes_eq-Decides mark (take 4 bytes)).0 parts.1) refl e
    choose false holds e = absurd cc

-- ---- a device

-- whatever the bytes are, a label that they are has room
pub room_of : (device_length : ℕ) (bytes : List ℕ) (o : Option Label) → o ≡ label_of device_length bytes → IfSome o (λ l. holds_cylinders device_length l.cylinders ≡ true)
room_of device_length bytes None e = tt
room_of device_length bytes (Some label) e = choose (length bytes == 14 && bytes_eq mark (take 4 bytes)) (sym e)
  where
    by_room : (serial : List ℕ) (room : Bool) → holds_cylinders device_length (number_of bytes) ≡ room → cond room (Some (record { serial = serial; cylinders = (number_of bytes) })) None ≡ Some label → holds_cylinders device_length label.cylinders ≡ true
    by_room serial true is e = let l : Label = record { serial = serial; cylinders = (number_of bytes) } in ap (λ (k : Label). holds_cylinders device_length k.cylinders) (sym (same_Some l label e)) ∙ is
    by_room serial false is e = absurd cc

    by_name : (o : Option (List ℕ)) → with_serial device_length o (number_of bytes) ≡ Some label → holds_cylinders device_length label.cylinders ≡ true
    by_name None e = absurd cc
    by_name (Some serial) e = by_room serial (holds_cylinders device_length (number_of bytes)) refl e

    choose : (t : Bool) → cond t (with_serial device_length (name_in 6 (slice_range bytes 4 10)) (number_of bytes)) None ≡ Some label → holds_cylinders device_length label.cylinders ≡ true
    choose true e = by_name (name_in 6 (slice_range bytes 4 10)) e
    choose false e = absurd cc

-- a device of fewer than 14 bytes has no label
pub short_none : (device_length : ℕ) (bytes : List ℕ) → length bytes < 14 → label_of device_length bytes ≡ None
short_none device_length bytes short = rw (ne_eqb (length bytes) 14 (λ e. absurd (omega (arith, short, e)))) refl

-- a device at whose front a label was written begins with it
pub begins_with : (label : Label) (old new : List ℕ) → is_serial label.serial ≡ true → new ≡ patched 0 (label_spelling label) old → take 14 new ≡ label_spelling label
begins_with label old new is written = ap (take 14) written ∙ take_at (label_spelling label) (drop (0 + length (label_spelling label)) old) 14 (spelled_length label is)

pub torn_fourteen : (n : ℕ) (old new : List ℕ) → n ≡ 14 → Torn 0 n old new → Torn 0 14 old new
torn_fourteen n old new is torn = subst (λ (k : ℕ). Torn 0 k old new) is torn

-- Written, and then synced.
pub written_then_synced : (a b c : Standing) → SamePast a b → Follows (Torn 0 14) a b → SamePast b c → Follows Same b c → Follows (Torn 0 14) a c
written_then_synced a b c past torn k same = follows_then a b c (Torn 0 14) Same (Torn 0 14) past.later torn k same (λ x y here came. came) (λ x y z here there came is. subst (λ (l : List ℕ). Torn 0 14 x l) (sym is) came)
