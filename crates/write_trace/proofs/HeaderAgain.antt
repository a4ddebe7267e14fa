-- What a header spells is read again, whatever follows.
use Rattle.std.proofs.Common.{◌≡◌, ℕ, ◌+◌, ◌-◌, ◌^◌, ◌≤◌, true, not, nat_eq, nat_le, ◌&&◌, List, [], ◌∷◌, ◌++◌, length, Ok, refl, sym, ap, subst, ◌∙◌, append_assoc, length-append, arith, inl, inr}
use Rattle.std.specs.Prelude.{bytes_eq, sum_by, slice_index}
use Rattle.std.specs.List.{flat_map, list_any}
use Rattle.std.specs.Int.{w16, w32, byte_len, to_be_bytes}
use Rattle.std.proofs.lemmas.Bool.{leb-true, le-leb}
use Rattle.tod_stamp.specs.Fields.{within, is_version}
use Rattle.tod_stamp.specs.Names.{serial_field, is_field, before_spaces}
use Rattle.tod_stamp.proofs.FieldLaws.{at_place, wide16, wide32, number_again, bytes_again}
use Rattle.tod_stamp.proofs.NameLaws.{fields_back, length-name_field}
use Rattle.ckd_track.specs.Tracks.{is_track}
use Rattle.ckd_track.specs.Images.{image}
use Rattle.write_trace.specs.declared.header.VolumeHead.{VolumeHead}
use Rattle.write_trace.specs.Headers.{Base, cylinder_width, most_cylinders, trace_mark, tracks_of, is_track_of, place_spelling, volume_spelling, base_spelling, header_spelling, are_volumes, is_from, are_bases, is_trace_mark, version_at, is_new_serial, volume_at, volumes_at, base_at, bases_at, header_at}
use Rattle.write_trace.specs.Laws.{HeadersReadBack}
use Rattle.tod_stamp.proofs.Versions.{one_or_two}
use Rattle.write_trace.proofs.FieldSteps.{both_true, and_true, cylinder_limit, cylinder_wide}
use Rattle.write_trace.proofs.FieldsAgain.{in_limit, FirstVolume, first_volume, place_again, image_back}
use Rattle.write_trace.proofs.BaseCounts.{count_bases, few_tracks}

-- ---- volumes

volume_again : (version place : ℕ) (seen : List (List ℕ)) (v : VolumeHead) (volumes : List VolumeHead) (rest : List ℕ) → FirstVolume version seen v volumes
    → volume_at version seen (at_place place (volume_spelling version v ++ rest)) ≡ Ok (v, at_place (place + length (volume_spelling version v)) rest)
unfolding volume_at
volume_again version place seen v volumes rest first =
    let wide = cylinder_width version in
    let rule = within 1 (most_cylinders version) in
    let is_first = nat_eq version 1 in
    let field = serial_field v.serial in
    let back = fields_back 6 v.serial first.serial in
    let len : length field ≡ 6 = length-name_field 6 v.serial first.serial in
    let kept : is_new_serial seen field ≡ true = and_true (is_field 6 field) (not (list_any (bytes_eq (before_spaces field)) seen)) back.0 (subst (λ (n : List ℕ). not (list_any (bytes_eq n) seen) ≡ true) (sym back.1) first.fresh) in
    let most = leb-true v.cylinders (most_cylinders version) (both_true (nat_le 1 v.cylinders) (nat_le v.cylinders (most_cylinders version)) first.cylinders).1 in
    let one = bytes_again 6 (is_new_serial seen) place field (to_be_bytes wide v.cylinders ++ rest) len kept in
    let two = number_again wide (cylinder_limit is_first) (cylinder_wide is_first) rule (place + 6) v.cylinders rest (in_limit is_first v.cylinders (omega (arith, most))) first.cylinders in
    let end : place + 6 + byte_len wide ≡ place + length (volume_spelling version v) = omega (arith, len, length-append field (to_be_bytes wide v.cylinders), (cylinder_wide is_first).len v.cylinders) in
    rw (append_assoc field (to_be_bytes wide v.cylinders) rest, one, two, back.1, end) refl

volumes_again : (version place : ℕ) (seen : List (List ℕ)) (volumes : List VolumeHead) (rest : List ℕ) → are_volumes version seen volumes ≡ true
    → volumes_at version (length volumes) seen (at_place place (flat_map (volume_spelling version) volumes ++ rest)) ≡ Ok (volumes, at_place (place + length (flat_map (volume_spelling version) volumes)) rest)
unfolding volumes_at
volumes_again version place seen [] rest are = ap (λ n. Ok ([], at_place n rest)) (omega arith)
volumes_again version place seen (v ∷ volumes) rest are =
    let rules = first_volume version seen v volumes are in
    let text = flat_map (volume_spelling version) volumes in
    let first = volume_again version place seen v volumes (text ++ rest) rules in
    let others = volumes_again version (place + length (volume_spelling version v)) (v.serial ∷ seen) volumes rest rules.others in
    let end : place + length (volume_spelling version v) + length text ≡ place + length (volume_spelling version v ++ text) = omega (arith, length-append (volume_spelling version v) text) in
    rw (append_assoc (volume_spelling version v) text rest, first, others, end) refl

-- ---- base tracks

base_again : (version place : ℕ) (volumes : List VolumeHead) (low : ℕ × ℕ) (b : Base) (rest : List ℕ) → length volumes ≤ 32 → are_volumes version [] volumes ≡ true
    → (is_track_of volumes b.0 b.1 && is_from low (b.0, b.1) && is_track b.2) ≡ true
    → base_at version volumes low (at_place place (base_spelling version b ++ rest)) ≡ Ok (b, at_place (place + length (base_spelling version b)) rest)
unfolding base_at
base_again version place volumes low b rest few are kept =
    let c = both_true (is_track_of volumes b.0 b.1 && is_from low (b.0, b.1)) (is_track b.2) kept in
    let d = both_true (is_track_of volumes b.0 b.1) (is_from low (b.0, b.1)) c.0 in
    let spot = place_spelling version b.0 b.1 in
    let one = place_again version place volumes b.0 b.1 (image b.2 ++ rest) few are d.0 in
    let two = image_back (place + length spot) b.2 rest c.1 in
    let end : place + length spot + length (image b.2) ≡ place + length (base_spelling version b) = omega (arith, length-append spot (image b.2)) in
    rw (append_assoc spot (image b.2) rest, one, d.1, two, end) refl

bases_again : (version place : ℕ) (volumes : List VolumeHead) (low : ℕ × ℕ) (base : List Base) (rest : List ℕ) → length volumes ≤ 32 → are_volumes version [] volumes ≡ true → are_bases volumes low base ≡ true
    → bases_at version volumes (length base) low (at_place place (flat_map (base_spelling version) base ++ rest)) ≡ Ok (base, at_place (place + length (flat_map (base_spelling version) base)) rest)
unfolding bases_at
bases_again version place volumes low [] rest few are kept = ap (λ n. Ok ([], at_place n rest)) (omega arith)
bases_again version place volumes low (b ∷ base) rest few are kept =
    let a = both_true (is_track_of volumes b.0 b.1 && is_from low (b.0, b.1) && is_track b.2) (are_bases volumes (b.0, b.1 + 1) base) kept in
    let text = flat_map (base_spelling version) base in
    let first = base_again version place volumes low b (text ++ rest) few are a.0 in
    let others = bases_again version (place + length (base_spelling version b)) volumes (b.0, b.1 + 1) base rest few are a.1 in
    let end : place + length (base_spelling version b) + length text ≡ place + length (base_spelling version b ++ text) = omega (arith, length-append (base_spelling version b) text) in
    rw (append_assoc (base_spelling version b) text rest, first, others, end) refl

-- ---- headers

mark_again : (place version : ℕ) (rest : List ℕ) → is_trace_mark (trace_mark version) ≡ true → slice_index (trace_mark version) 3 - 48 ≡ version → version_at (at_place place (trace_mark version ++ rest)) ≡ Ok (version, at_place (place + 4) rest)
unfolding version_at
mark_again place version rest keeps says = rw (bytes_again 4 is_trace_mark place (trace_mark version) rest refl keeps) (ap (λ v. Ok (v, at_place (place + 4) rest)) says)

version_again : (place version : ℕ) (rest : List ℕ) → is_version version ≡ true → version_at (at_place place (trace_mark version ++ rest)) ≡ Ok (version, at_place (place + 4) rest)
version_again place version rest is =
    elim (one_or_two version is) [
      | inl first ↦ mark_again place version rest (ap (λ v. is_trace_mark (trace_mark v)) first) (omega (arith, ap (λ v. slice_index (trace_mark v) 3) first, first))
      | inr second ↦ mark_again place version rest (ap (λ v. is_trace_mark (trace_mark v)) second) (omega (arith, ap (λ v. slice_index (trace_mark v) 3) second, second))
    ]

-- the fields of a header, one after another
header_fields : (place version : ℕ) (volumes : List VolumeHead) (base : List Base) (rest : List ℕ) → is_version version ≡ true → within 1 32 (length volumes) ≡ true → are_volumes version [] volumes ≡ true → are_bases volumes (0, 0) base ≡ true
    → header_at (at_place place (trace_mark version ++ (to_be_bytes w16 (length volumes) ++ (flat_map (volume_spelling version) volumes ++ (to_be_bytes w32 (length base) ++ (flat_map (base_spelling version) base ++ rest))))))
    ≡ Ok (record { version = version; volumes = volumes; base = base }, at_place (place + 4 + 2 + length (flat_map (volume_spelling version) volumes) + 4 + length (flat_map (base_spelling version) base)) rest)
unfolding header_at
header_fields place version volumes base rest is number are kept =
    let few = leb-true (length volumes) 32 (both_true (nat_le 1 (length volumes)) (nat_le (length volumes) 32) number).1 in
    let most = count_bases volumes base kept in
    let heads = flat_map (volume_spelling version) volumes in
    let tracks = flat_map (base_spelling version) base in
    let one = version_again place version (to_be_bytes w16 (length volumes) ++ (heads ++ (to_be_bytes w32 (length base) ++ (tracks ++ rest)))) is in
    let two = number_again w16 (2 ^ 16) wide16 (within 1 32) (place + 4) (length volumes) (heads ++ (to_be_bytes w32 (length base) ++ (tracks ++ rest))) (omega (arith, few)) number in
    let three = volumes_again version (place + 4 + 2) [] volumes (to_be_bytes w32 (length base) ++ (tracks ++ rest)) are in
    let four = number_again w32 (2 ^ 32) wide32 (λ n. nat_le n (sum_by tracks_of volumes)) (place + 4 + 2 + length heads) (length base) (tracks ++ rest)
    (omega (arith, few, most, few_tracks version [] volumes are)) (le-leb (length base) (sum_by tracks_of volumes) most) in
    let five = bases_again version (place + 4 + 2 + length heads + 4) volumes (0, 0) base rest few are kept in
    rw (one, two, three, four, five) refl

regrouped : (a b c d e rest : List ℕ) → ((((a ++ b) ++ c) ++ d) ++ e) ++ rest ≡ a ++ (b ++ (c ++ (d ++ (e ++ rest))))
regrouped a b c d e rest = simp append_assoc

headers_first : (place version : ℕ) (volumes : List VolumeHead) (base : List Base) (rest : List ℕ) → is_version version ≡ true → within 1 32 (length volumes) ≡ true → are_volumes version [] volumes ≡ true → are_bases volumes (0, 0) base ≡ true
    → header_at (at_place place (header_spelling (record { version = version; volumes = volumes; base = base }) ++ rest))
    ≡ Ok (record { version = version; volumes = volumes; base = base }, at_place (place + length (header_spelling (record { version = version; volumes = volumes; base = base }))) rest)
headers_first place version volumes base rest is number are kept =
    ap (λ (t : List ℕ). header_at (at_place place t)) (regrouped (trace_mark version) count heads many tracks rest)
    ∙ header_fields place version volumes base rest is number are kept
    ∙ ap (λ n. Ok (record { version = version; volumes = volumes; base = base }, at_place n rest)) end
  where
    count : List ℕ
    count = to_be_bytes w16 (length volumes)

    heads : List ℕ
    heads = flat_map (volume_spelling version) volumes

    many : List ℕ
    many = to_be_bytes w32 (length base)

    tracks : List ℕ
    tracks = flat_map (base_spelling version) base

    end : place + 4 + 2 + length (flat_map (volume_spelling version) volumes) + 4 + length (flat_map (base_spelling version) base) ≡ place + length (header_spelling (record { version = version; volumes = volumes; base = base }))
    end = omega (
      arith,
      length-append (trace_mark version ++ to_be_bytes w16 (length volumes) ++ flat_map (volume_spelling version) volumes ++ to_be_bytes w32 (length base)) (flat_map (base_spelling version) base),
      length-append (trace_mark version ++ to_be_bytes w16 (length volumes) ++ flat_map (volume_spelling version) volumes) (to_be_bytes w32 (length base)),
      length-append (trace_mark version ++ to_be_bytes w16 (length volumes)) (flat_map (volume_spelling version) volumes),
    )

pub headers_back : HeadersReadBack
headers_back place h rest is =
    let a = both_true (is_version h.version && within 1 32 (length h.volumes) && are_volumes h.version [] h.volumes) (are_bases h.volumes (0, 0) h.base) is in
    let b = both_true (is_version h.version && within 1 32 (length h.volumes)) (are_volumes h.version [] h.volumes) a.0 in
    let c = both_true (is_version h.version) (within 1 32 (length h.volumes)) b.0 in
    headers_first place h.version h.volumes h.base rest c.0 c.1 b.1 a.1
