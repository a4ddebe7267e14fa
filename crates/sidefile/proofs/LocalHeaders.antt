-- The same for headers.
use Rattle.std.proofs.Common.{ℕ, zero, suc, ◌+◌, ◌-◌, cond, nat_le, List, [], ◌∷◌, ◌++◌, length, Ok, Err, ap, sym, ◌∙◌, arith, length-append, append_assoc, ◌≡◌, ◌≤◌}
use Rattle.std.specs.Prelude.{take, sum_by, slice_index}
use Rattle.std.specs.Int.{w16, w32}
use Rattle.tod_stamp.specs.Fields.{◌>>=◌, Left, Bad, bytes_at, number_at, within}
use Rattle.tod_stamp.specs.Fields.Bad.{Broken}
use Rattle.tod_stamp.specs.Names.{before_spaces}
use Rattle.write_trace.specs.declared.header.Header.{Header}
use Rattle.write_trace.specs.declared.header.VolumeHead.{VolumeHead}
use Rattle.write_trace.specs.Headers.{cylinder_width, most_cylinders, tracks_of, is_from, is_trace_mark, version_at, is_new_serial, volume_at, volumes_at, place_at, image_field, base_at, bases_at, header_at}
use Rattle.write_trace.specs.WholeTraces.{most_bytes, whole_trace}
use Rattle.write_trace.specs.UnreadBytes.{seen}
use Rattle.sidefile.proofs.Local.{IsLocal, local_number, local_bytes, local_done, local_then, local_choice}
use Rattle.sidefile.proofs.LocalImages.{local_image}
use Rattle.sidefile.proofs.LocalEntries.{local_place}
use Rattle.sidefile.proofs.Steps.{seen_after, front_of_all}

local_bad : {A : Type 0} (bad : Bad) → IsLocal {A = A} (λ left. Err bad)
local_bad bad left x e = absurd cc

local_version : IsLocal version_at
unfolding version_at
local_version = local_then (bytes_at 4 is_trace_mark) (λ m. Ok (slice_index m.0 3 - 48, m.1)) (local_bytes 4 is_trace_mark) (λ m. local_done (slice_index m 3 - 48))

-- ---- volumes

local_volume : (version : ℕ) (before : List (List ℕ)) → IsLocal (volume_at version before)
unfolding volume_at
local_volume version before =
    local_then (bytes_at 6 (is_new_serial before)) (λ serial. number_at (cylinder_width version) (within 1 (most_cylinders version)) serial.1 >>= λ cylinders. Ok (record { serial = before_spaces serial.0; cylinders = cylinders.0 }, cylinders.1))
    (local_bytes 6 (is_new_serial before))
    (λ serial. local_then (number_at (cylinder_width version) (within 1 (most_cylinders version))) (λ cylinders. Ok (record { serial = before_spaces serial; cylinders = cylinders.0 }, cylinders.1))
    (local_number (cylinder_width version) (within 1 (most_cylinders version))) (λ cylinders. local_done (record { serial = before_spaces serial; cylinders = cylinders })))

local_volumes : (version count : ℕ) (before : List (List ℕ)) → IsLocal (volumes_at version count before)
unfolding volumes_at
local_volumes version zero before = local_done []
local_volumes version (suc count) before =
    local_then (volume_at version before) (λ first. volumes_at version count (first.0.serial ∷ before) first.1 >>= λ others. Ok (first.0 ∷ others.0, others.1)) (local_volume version before)
    (λ first. local_then (volumes_at version count (first.serial ∷ before)) (λ others. Ok (first ∷ others.0, others.1)) (local_volumes version count (first.serial ∷ before)) (λ others. local_done (first ∷ others)))

-- ---- base tracks

-- A track out of order is named by where it stands, so these are local at one place.
local_base : (version : ℕ) (volumes : List VolumeHead) (low : ℕ × ℕ) → IsLocal (base_at version volumes low)
unfolding base_at
local_base version volumes low left x e =
    let place = left.place in
    let p = local_then (place_at version volumes) (λ at. cond (is_from low at.0) (image_field at.1) (Err (Broken place)) >>= λ recs. Ok ((at.0.0, at.0.1, recs.0), recs.1)) (local_place version volumes)
    (λ at. local_then (λ l. cond (is_from low at) (image_field l) (Err (Broken place))) (λ recs. Ok ((at.0, at.1, recs.0), recs.1)) (local_choice (is_from low at) image_field (λ l. Err (Broken place)) local_image (local_bad (Broken place))) (λ recs. local_done (at.0, at.1, recs)))
    left x e in
    record { text = p.text; parts = p.parts; place = p.place; again = p.again }

local_bases : (version : ℕ) (volumes : List VolumeHead) (count : ℕ) (low : ℕ × ℕ) → IsLocal (bases_at version volumes count low)
unfolding bases_at
local_bases version volumes zero low = local_done []
local_bases version volumes (suc count) low =
    local_then (base_at version volumes low) (λ first. bases_at version volumes count (first.0.0, first.0.1 + 1) first.1 >>= λ others. Ok (first.0 ∷ others.0, others.1)) (local_base version volumes low)
    (λ first. local_then (bases_at version volumes count (first.0, first.1 + 1)) (λ others. Ok (first ∷ others.0, others.1)) (local_bases version volumes count (first.0, first.1 + 1)) (λ others. local_done (first ∷ others)))

-- ---- headers

local_header : IsLocal header_at
unfolding header_at
local_header =
    local_then version_at
    (λ version. number_at w16 (within 1 32) version.1 >>= λ count. volumes_at version.0 count.0 [] count.1 >>= λ volumes. number_at w32 (λ n. nat_le n (sum_by tracks_of volumes.0)) volumes.1 >>= λ many. bases_at version.0 volumes.0 many.0 (0, 0) many.1 >>= λ base. Ok (record { version = version.0; volumes = volumes.0; base = base.0 }, base.1))
    local_version
    (λ version. local_then (number_at w16 (within 1 32))
    (λ count. volumes_at version count.0 [] count.1 >>= λ volumes. number_at w32 (λ n. nat_le n (sum_by tracks_of volumes.0)) volumes.1 >>= λ many. bases_at version volumes.0 many.0 (0, 0) many.1 >>= λ base. Ok (record { version = version; volumes = volumes.0; base = base.0 }, base.1))
    (local_number w16 (within 1 32))
    (λ count. local_then (volumes_at version count [])
    (λ volumes. number_at w32 (λ n. nat_le n (sum_by tracks_of volumes.0)) volumes.1 >>= λ many. bases_at version volumes.0 many.0 (0, 0) many.1 >>= λ base. Ok (record { version = version; volumes = volumes.0; base = base.0 }, base.1))
    (local_volumes version count [])
    (λ volumes. local_then (number_at w32 (λ n. nat_le n (sum_by tracks_of volumes)))
    (λ many. bases_at version volumes many.0 (0, 0) many.1 >>= λ base. Ok (record { version = version; volumes = volumes; base = base.0 }, base.1))
    (local_number w32 (λ n. nat_le n (sum_by tracks_of volumes)))
    (λ many. local_then (bases_at version volumes many (0, 0)) (λ base. Ok (record { version = version; volumes = volumes; base = base.0 }, base.1)) (local_bases version volumes many (0, 0)) (λ base. local_done (record { version = version; volumes = volumes; base = base }))))))

-- Of a front of the bytes that goes beyond the header, and not beyond a trace's most bytes, the same header is read.
pub header_of_front : (bytes rest front left : List ℕ) (header : Header) (place : ℕ) → header_at (whole_trace bytes) ≡ Ok (header, seen place rest) → rest ≡ front ++ left → place + length front ≤ most_bytes
    → (given : List ℕ) × (take (place + length front) bytes ≡ given) × (header_at (whole_trace given) ≡ Ok (header, seen place front))
header_of_front bytes rest front left header place read split le =
    let t = local_header (whole_trace bytes) (header, seen place rest) read in
    let after = (seen (place + length front) left).bytes in
    let parts : take most_bytes bytes ≡ (t.text ++ front) ++ after =
    t.parts
    ∙ ap (λ (b : List ℕ). t.text ++ (seen place b).bytes) split
    ∙ ap (λ (l : Left). t.text ++ l.bytes) (seen_after place front left (omega (arith, le)))
    ∙ sym (append_assoc t.text front after) in
    let long : place + length front ≡ length (t.text ++ front) = omega (arith, t.place, length-append t.text front) in (
      t.text ++ front,
      ap (λ n. take n bytes) long ∙ front_of_all (t.text ++ front) after bytes most_bytes parts,
      ap header_at (seen_after 0 t.text front (omega (arith, le, t.place)))
          ∙ t.again (seen (0 + length t.text) front).bytes
          ∙ ap (λ n. Ok (header, seen n front)) (sym t.place),
    )
