-- The header of a trace: its volumes and base tracks, their one spelling, and reading it with the first bad field. The version
-- of the format is a parameter: in version 1 a cylinder and a number of cylinders have two bytes, in version 2 four.
use Rattle.std.specs.Prelude.{ℕ, zero, suc, ◌+◌, ◌-◌, ◌*◌, ◌/◌, ◌%◌, ◌==◌, ◌&&◌, ◌||◌, not, List, [], ◌∷◌, ◌++◌, length, sum_by, Bool, true, Result, Ok, Err, nat_lt, nat_le, if◌then◌else◌, slice_index, codes, bytes_eq}
use Rattle.xrc_edge.specs.declared.limits.TheConstants.{MOST_CONTROL_VOLUMES, MOST_CYLINDERS, MOST_NARROW_CYLINDERS, TRACKS_OF_CYLINDER}
use Rattle.std.specs.List.{flat_map, list_any}
use Rattle.std.specs.Int.{Width, w16, w32, byte_len, to_be_bytes}
use Rattle.tod_stamp.specs.Fields.{◌>>=◌, Left, Bad, bytes_at, number_at, is_version, within}
use Rattle.tod_stamp.specs.Fields.Bad.{Cut, Broken}
use Rattle.tod_stamp.specs.Names.{is_serial, serial_field, is_field, before_spaces}
use Rattle.ckd_track.specs.declared.rec.Rec.{Rec}
use Rattle.ckd_track.specs.declared.fault.ImageError.{ImageError}
use Rattle.ckd_track.specs.declared.fault.ImageError.TheVariants.{Short}
use Rattle.ckd_track.specs.Tracks.{is_track}
use Rattle.ckd_track.specs.Images.{image, image_at}
use Rattle.write_trace.specs.declared.header.Header.{Header}
use Rattle.write_trace.specs.declared.header.VolumeHead.{VolumeHead}

-- a base track: the number of its volume, its own number there, and its records
abbrev pub Base : Type 0
Base = ℕ × ℕ × List Rec

-- ---- what the version decides

abbrev pub cylinder_width : (version : ℕ) → Width
cylinder_width version = if version == 1 then w16 else w32

abbrev pub most_cylinders : (version : ℕ) → ℕ
most_cylinders version = if version == 1 then MOST_NARROW_CYLINDERS else MOST_CYLINDERS

-- `XTR1` and `XTR2`
abbrev pub trace_mark : (version : ℕ) → List ℕ
trace_mark version = codes "XTR" ++ (48 + version) ∷ []

-- ---- tracks of volumes

-- Cylinders follow one another, each with so many tracks.
abbrev pub tracks_of : VolumeHead → ℕ
tracks_of v = TRACKS_OF_CYLINDER * v.cylinders

-- the cylinders of the volume of that number
abbrev pub cylinders_of : List VolumeHead → ℕ → ℕ
cylinders_of [] k = 0
cylinders_of (v ∷ volumes) zero = v.cylinders
cylinders_of (v ∷ volumes) (suc k) = cylinders_of volumes k

-- whether there is a volume of that number with a track of that number
abbrev pub is_track_of : List VolumeHead → (volume track : ℕ) → Bool
is_track_of volumes volume track = nat_lt volume (length volumes) && nat_lt track (TRACKS_OF_CYLINDER * cylinders_of volumes volume)

-- ---- the spelling

abbrev pub place_spelling : (version volume track : ℕ) → List ℕ
place_spelling version volume track = to_be_bytes w16 volume ++ to_be_bytes (cylinder_width version) (track / TRACKS_OF_CYLINDER) ++ to_be_bytes w16 (track % TRACKS_OF_CYLINDER)

abbrev pub volume_spelling : (version : ℕ) → VolumeHead → List ℕ
volume_spelling version v = serial_field v.serial ++ to_be_bytes (cylinder_width version) v.cylinders

abbrev pub base_spelling : (version : ℕ) → Base → List ℕ
base_spelling version b = place_spelling version b.0 b.1 ++ image b.2

-- the mark, the number of volumes and the volumes, the number of base tracks and the base tracks
abbrev pub header_spelling : Header → List ℕ
header_spelling h = trace_mark h.version
    ++ to_be_bytes w16 (length h.volumes) ++ flat_map (volume_spelling h.version) h.volumes
    ++ to_be_bytes w32 (length h.base) ++ flat_map (base_spelling h.version) h.base

-- the bytes of a volume in a header: those of its serial, and of its cylinders
abbrev pub volume_length : (version : ℕ) → ℕ
volume_length version = 6 + byte_len (cylinder_width version)

-- Where the serial of the volume of that number stands in a header: after the mark, the number of volumes, and the volumes before.
abbrev pub serial_place : (version volume : ℕ) → ℕ
serial_place version volume = 6 + volume * volume_length version

-- ---- the rules of a header

-- Each volume has a serial that no other has, and 1 to the most cylinders.
abbrev pub are_volumes : (version : ℕ) → List (List ℕ) → List VolumeHead → Bool
are_volumes version seen [] = true
are_volumes version seen (v ∷ volumes) =
    is_serial v.serial && not (list_any (bytes_eq v.serial) seen) && within 1 (most_cylinders version) v.cylinders && are_volumes version (v.serial ∷ seen) volumes

-- a place that isn't below another
abbrev pub is_from : (ℕ × ℕ) → (ℕ × ℕ) → Bool
is_from low at = nat_lt low.0 at.0 || (low.0 == at.0 && nat_le low.1 at.1)

-- Base tracks rise by volume and track from the place `low` on, and each is a track of a volume.
abbrev pub are_bases : List VolumeHead → (low : ℕ × ℕ) → List Base → Bool
are_bases volumes low [] = true
are_bases volumes low (b ∷ base) = is_track_of volumes b.0 b.1 && is_from low (b.0, b.1) && is_track b.2 && are_bases volumes (b.0, b.1 + 1) base

-- A header of either version has 1 to the most volumes and base tracks of theirs.
abbrev pub is_header : Header → Bool
is_header h = is_version h.version && within 1 MOST_CONTROL_VOLUMES (length h.volumes) && are_volumes h.version [] h.volumes && are_bases h.volumes (0, 0) h.base

-- ---- reading it, with the first bad field

-- the mark of a version
abbrev pub is_trace_mark : List ℕ → Bool
is_trace_mark bytes = bytes_eq bytes (trace_mark 1) || bytes_eq bytes (trace_mark 2)

unfoldable pub version_at : Left → Result (ℕ × Left) Bad
version_at left = do
  m ← bytes_at 4 is_trace_mark left
  Ok (slice_index m.0 3 - 48, m.1)

-- a field of a valid serial that isn't among those before
abbrev pub is_new_serial : List (List ℕ) → List ℕ → Bool
is_new_serial seen field = is_field 6 field && not (list_any (bytes_eq (before_spaces field)) seen)

unfoldable pub volume_at : (version : ℕ) → List (List ℕ) → Left → Result (VolumeHead × Left) Bad
volume_at version seen left = do
  serial ← bytes_at 6 (is_new_serial seen) left
  cylinders ← number_at (cylinder_width version) (within 1 (most_cylinders version)) serial.1
  Ok (record { serial = before_spaces serial.0; cylinders = cylinders.0 }, cylinders.1)

unfoldable pub volumes_at : (version count : ℕ) → List (List ℕ) → Left → Result (List VolumeHead × Left) Bad
volumes_at version zero seen left = Ok ([], left)
volumes_at version (suc count) seen left = do
  first ← volume_at version seen left
  others ← volumes_at version count (first.0.serial ∷ seen) first.1
  Ok (first.0 ∷ others.0, others.1)

-- a volume, a cylinder and a head in their ranges, as volume and track
unfoldable pub place_at : (version : ℕ) → List VolumeHead → Left → Result ((ℕ × ℕ) × Left) Bad
place_at version volumes left = do
  volume ← number_at w16 (λ n. nat_lt n (length volumes)) left
  cylinder ← number_at (cylinder_width version) (λ n. nat_lt n (cylinders_of volumes volume.0)) volume.1
  head ← number_at w16 (λ n. nat_lt n TRACKS_OF_CYLINDER) cylinder.1
  Ok ((volume.0, TRACKS_OF_CYLINDER * cylinder.0 + head.0), head.1)

-- Records as one field, whose place is its first byte: it is cut where they are, and broken where they break a rule.
abbrev pub as_field : Left → Result (List Rec × List ℕ) ImageError → Result (List Rec × Left) Bad
as_field left (Ok found) = Ok (found.0, record { place = left.place + (length left.bytes - length found.1); bytes = found.1 })
as_field left (Err Short) = Err (Cut left.place)
as_field left (Err bad) = Err (Broken left.place)

-- an image as one field
abbrev pub image_field : Left → Result (List Rec × Left) Bad
image_field left = as_field left (image_at left.bytes)

-- A base track stands from the place `low` on. Where the order is broken, the bad place is its volume field's; this is
-- the last of the three fields' rules.
unfoldable pub base_at : (version : ℕ) → List VolumeHead → (low : ℕ × ℕ) → Left → Result (Base × Left) Bad
base_at version volumes low left = do
  at ← place_at version volumes left
  recs ← if is_from low at.0 then image_field at.1 else Err (Broken left.place)
  Ok ((at.0.0, at.0.1, recs.0), recs.1)

unfoldable pub bases_at : (version : ℕ) → List VolumeHead → (count : ℕ) → (low : ℕ × ℕ) → Left → Result (List Base × Left) Bad
bases_at version volumes zero low left = Ok ([], left)
bases_at version volumes (suc count) low left = do
  first ← base_at version volumes low left
  others ← bases_at version volumes count (first.0.0, first.0.1 + 1) first.1
  Ok (first.0 ∷ others.0, others.1)

-- the header that the bytes begin with
unfoldable pub header_at : Left → Result (Header × Left) Bad
header_at left = do
  version ← version_at left
  count ← number_at w16 (within 1 MOST_CONTROL_VOLUMES) version.1
  volumes ← volumes_at version.0 count.0 [] count.1
  many ← number_at w32 (λ n. nat_le n (sum_by tracks_of volumes.0)) volumes.1
  base ← bases_at version.0 volumes.0 many.0 (0, 0) many.1
  Ok (record { version = version.0; volumes = volumes.0; base = base.0 }, base.1)
