-- The head of a header and a base track are short: where one is cut, a window has room for more.
use Rattle.std.proofs.Common.{◌≡◌, ℕ, zero, suc, ◌+◌, ◌-◌, ◌*◌, ◌<◌, ◌≤◌, nat_le, List, [], ◌∷◌, length, sum_by, Result, Ok, Err, arith, length-take}
use Rattle.std.specs.Prelude.{slice_index}
use Rattle.std.specs.Int.{w16, w32, byte_len}
use Rattle.std.proofs.lemmas.Bool.{leb-true}
use Rattle.tod_stamp.specs.Fields.{◌>>=◌, Left, Bad, bytes_at, number_at, within}
use Rattle.tod_stamp.specs.Fields.Bad.{Cut}
use Rattle.tod_stamp.specs.Names.{before_spaces}
use Rattle.write_trace.specs.declared.header.VolumeHead.{VolumeHead}
use Rattle.write_trace.specs.Headers.{cylinder_width, most_cylinders, tracks_of, is_trace_mark, is_new_serial, version_at, volume_at, volumes_at, base_at}
use Rattle.write_trace.specs.WholeTraces.{most_bytes}
use Rattle.write_trace.proofs.FieldSteps.{both_true}
use Rattle.write_trace.specs.UnreadBytes.{seen}
use Rattle.write_trace.specs.declared.window.TheConstants.{WINDOW_LENGTH}
use Rattle.write_trace.specs.HeaderParts.{header_front_at}
use Rattle.write_trace.proofs.Short.{IsShort, short_more, short_then, short_done, short_number, short_bytes, short_base, width_few, cut_is_short}

short_version : IsShort 4 version_at
unfolding version_at
short_version = short_then 4 0 (bytes_at 4 is_trace_mark) (λ m. Ok (slice_index m.0 3 - 48, m.1)) (short_bytes 4 is_trace_mark) (λ m. short_done (slice_index m 3 - 48))

volume_made : List ℕ → ℕ → VolumeHead
volume_made field cylinders = record { serial = before_spaces field; cylinders = cylinders }

short_volume : (version : ℕ) (seen : List (List ℕ)) → IsShort 10 (volume_at version seen)
unfolding volume_at volume_made
short_volume version seen =
    short_more (6 + (byte_len (cylinder_width version) + 0)) 10 (volume_at version seen) (omega (arith, width_few version))
    (short_then 6 (byte_len (cylinder_width version) + 0) (bytes_at 6 (is_new_serial seen)) (λ serial. number_at (cylinder_width version) (within 1 (most_cylinders version)) serial.1 >>= λ cylinders. Ok (volume_made serial.0 cylinders.0, cylinders.1)) (short_bytes 6 (is_new_serial seen))
    (λ serial. short_number (cylinder_width version) (within 1 (most_cylinders version)) 0 (λ cylinders. Ok (volume_made serial cylinders.0, cylinders.1)) (λ cylinders ranged. short_done (volume_made serial cylinders))))

short_volumes : (version count : ℕ) (seen : List (List ℕ)) → IsShort (10 * count) (volumes_at version count seen)
unfolding volumes_at
short_volumes version zero seen = short_done {A = List VolumeHead} []
short_volumes version (suc count) seen =
    short_more (10 + (10 * count + 0)) (10 * suc count) (volumes_at version (suc count) seen) (omega arith)
    (short_then 10 (10 * count + 0) (volume_at version seen) (λ first. volumes_at version count (first.0.serial ∷ seen) first.1 >>= λ others. Ok (first.0 ∷ others.0, others.1)) (short_volume version seen)
    (λ first. short_then (10 * count) 0 (volumes_at version count (first.serial ∷ seen)) (λ others. Ok (first ∷ others.0, others.1)) (short_volumes version count (first.serial ∷ seen)) (λ others. short_done {A = List VolumeHead} (first ∷ others))))

abbrev many_at : List VolumeHead → Left → Result (ℕ × Left) Bad
many_at volumes left = number_at w32 (λ n. nat_le n (sum_by tracks_of volumes)) left

-- what is read of a head after the count
abbrev counted : (version count : ℕ) → Left → Result ((ℕ × List VolumeHead × ℕ) × Left) Bad
counted version count left = volumes_at version count [] left >>= λ volumes. many_at volumes.0 volumes.1 >>= λ many. Ok ((version, volumes.0, many.0), many.1)

short_counted : (version count : ℕ) → count ≤ 32 → IsShort 324 (counted version count)
short_counted version count few =
    short_more (10 * count + (4 + 0)) 324 (counted version count) (omega (arith, few))
    (short_then (10 * count) (4 + 0) (volumes_at version count []) (λ volumes. many_at volumes.0 volumes.1 >>= λ many. Ok ((version, volumes.0, many.0), many.1)) (short_volumes version count [])
    (λ volumes. short_number w32 (λ n. nat_le n (sum_by tracks_of volumes)) 0 (λ many. Ok ((version, volumes, many.0), many.1)) (λ many ranged. short_done {A = ℕ × List VolumeHead × ℕ} (version, volumes, many))))

-- The longest head has 32 volumes of version 2.
pub short_head : IsShort 330 header_front_at
unfolding header_front_at
short_head =
    short_then 4 326 version_at (λ version. number_at w16 (within 1 32) version.1 >>= λ count. volumes_at version.0 count.0 [] count.1 >>= λ volumes. many_at volumes.0 volumes.1 >>= λ many. Ok ((version.0, volumes.0, many.0), many.1)) short_version
    (λ version. short_number w16 (within 1 32) 324 (λ count. volumes_at version count.0 [] count.1 >>= λ volumes. many_at volumes.0 volumes.1 >>= λ many. Ok ((version, volumes.0, many.0), many.1))
    (λ count ranged. short_counted version count (leb-true count 32 (both_true (nat_le 1 count) (nat_le count 32) ranged).1)))

-- ---- a window with room

-- Where a short part is cut and the trace's last byte isn't held, a window has room.
pub has_room : {A : Type 0} (most : ℕ) (part : Left → Result (A × Left) Bad) (held : Left) (place : ℕ) → IsShort most part → most ≤ WINDOW_LENGTH → part (seen held.place held.bytes) ≡ Err (Cut place)
    → held.place + length held.bytes ≤ most_bytes → length held.bytes < WINDOW_LENGTH
has_room most part held place short le cut unfilled =
    let few = cut_is_short most part (seen held.place held.bytes) place short cut in
    omega (arith, few, length-take (most_bytes - held.place) held.bytes)

pub head_has_room : (held : Left) (place : ℕ) → header_front_at (seen held.place held.bytes) ≡ Err (Cut place) → held.place + length held.bytes ≤ most_bytes → length held.bytes < WINDOW_LENGTH
head_has_room held place = has_room 330 header_front_at held place short_head (omega arith)

pub base_has_room : (version : ℕ) (volumes : List VolumeHead) (low : ℕ × ℕ) (held : Left) (place : ℕ) → base_at version volumes low (seen held.place held.bytes) ≡ Err (Cut place) → held.place + length held.bytes ≤ most_bytes → length held.bytes < WINDOW_LENGTH
base_has_room version volumes low held place = has_room (56670 + byte_len (cylinder_width version)) (base_at version volumes low) held place (short_base version volumes low) (omega (arith, width_few version))
