-- The writes of a controller keep the rules, in order, and how long the traces are.
use Rattle.std.proofs.Common.{◌≡◌, ◌≤◌, ◌<◌, ℕ, zero, suc, ◌+◌, ◌*◌, ◌/◌, ◌%◌, ◌^◌, true, ◌++◌, length, map, refl, ap, length-append, arith}
use Rattle.std.specs.List.{range_with_len}
use Rattle.std.proofs.lemmas.Bool.{le-leb, lt-ltb}
use Rattle.ckd_track.specs.Effects.{is_kind}
use Rattle.write_trace.specs.Entries.{are_entries, entry_spelling, is_entry, is_stamp_from}
use Rattle.write_trace.specs.Headers.{cylinders_of, header_spelling, is_track_of}
use Rattle.write_trace.proofs.FieldSteps.{and_true}
use Rattle.write_trace.proofs.Rows.{row}
use Rattle.workload.specs.Traces.{chosen_write, generated_entry, generated_entries, generated_header, generated_volumes}

one_cylinder : (control volume : ℕ) → volume < 2 → cylinders_of (generated_volumes control) volume ≡ 1
one_cylinder control zero lt = refl
one_cylinder control (suc zero) lt = refl
one_cylinder control (suc (suc volume)) lt = absurd (omega (arith, lt))

has_track : (control stamp chosen : ℕ) → is_track_of (generated_volumes control) (chosen_write stamp chosen).volume (chosen_write stamp chosen).track ≡ true
has_track control stamp chosen =
    let volume : chosen % 2 < 2 = omega arith in
    let track : (chosen / 2) % 15 < 15 = omega arith in
    let tracks : 15 * cylinders_of (generated_volumes control) (chosen % 2) ≡ 15 = ap (λ (n : ℕ). 15 * n) (one_cylinder control (chosen % 2) volume) in
    and_true _ _ (lt-ltb (chosen % 2) 2 volume) (lt-ltb ((chosen / 2) % 15) (15 * cylinders_of (generated_volumes control) (chosen % 2)) (omega (arith, track, tracks)))

has_kind : (stamp chosen : ℕ) → is_kind (chosen_write stamp chosen).kind ≡ true
has_kind stamp chosen =
    let number : (chosen / 30) % 4 < 4 = omega arith in
    and_true _ _ (and_true _ _ (le-leb 1 (1 + (chosen / 30) % 4) (omega arith)) (le-leb (1 + (chosen / 30) % 4) 255 (omega (arith, number)))) refl

has_stamp : (last stamp : ℕ) → 1 ≤ stamp → last ≤ stamp → stamp < 2 ^ 64 → is_stamp_from last stamp ≡ true
has_stamp last stamp one from below = and_true _ _ (and_true _ _ (le-leb 1 stamp one) (le-leb last stamp from)) (lt-ltb stamp (2 ^ 64) below)

entries_keep : (number control place n last : ℕ) → control < 4 → place + n ≤ 500 → last ≤ 1000 + 4 * place + control → are_entries (generated_volumes control) last (map (generated_entry number control) (range_with_len place n)) ≡ true
entries_keep number control place zero last few within from = refl
entries_keep number control place (suc n) last few within from =
    let stamp = 1000 + 4 * place + control in
    let first : is_entry (generated_volumes control) last (generated_entry number control place) ≡ true =
    and_true _ _ (and_true _ _ (has_stamp last stamp (omega arith) from (omega (arith, few, within))) (has_track control stamp (number + place))) (has_kind stamp (number + place)) in
    and_true _ _ first (entries_keep number control (place + 1) n stamp few (omega (arith, within)) (omega arith))

pub entries_keep_rules : (number control : ℕ) → control < 4 → are_entries (generated_volumes control) 0 (generated_entries number control) ≡ true
entries_keep_rules number control few = entries_keep number control 0 500 0 few (omega arith) (omega arith)

-- ---- lengths

entry_length : (number control place : ℕ) → length (entry_spelling 1 (generated_entry number control place)) ≡ 26
entry_length number control place = refl

row_length : (number control place n : ℕ) → length (row 1 (map (generated_entry number control) (range_with_len place n))) ≡ 26 * n
row_length number control place zero = refl
row_length number control place (suc n) =
    omega (arith, length-append (entry_spelling 1 (generated_entry number control place)) (row 1 (map (generated_entry number control) (range_with_len (place + 1) n))), entry_length number control place, row_length number control (place + 1) n)

header_length : (control : ℕ) → length (header_spelling (generated_header control)) ≡ 1706
header_length control = refl

pub trace_length : (number control : ℕ) → length (header_spelling (generated_header control) ++ row 1 (generated_entries number control)) ≡ 14706
trace_length number control = omega (arith, length-append (header_spelling (generated_header control)) (row 1 (generated_entries number control)), header_length control, row_length number control 0 500)
