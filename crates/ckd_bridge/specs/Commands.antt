-- What the commands write for what they read.
use Rattle.std.specs.Prelude.{◌≡◌, ◌⊎◌, ℕ, zero, suc, ◌*◌, ◌==◌, ◌&&◌, List, [], ◌∷◌, ◌++◌, Bool, Option, Result, Ok, Err, not, nat_le, if◌then◌else◌}
use Rattle.std.specs.Int.{w16, w32, to_be_bytes}
use Rattle.tod_stamp.specs.Fields.{◌>>=◌}
use Rattle.xrc_edge.specs.declared.limits.TheConstants.{MOST_NARROW_CYLINDERS, TRACKS_OF_CYLINDER}
use Rattle.ckd_track.specs.declared.rec.Rec.{Rec}
use Rattle.volume_label.specs.Labels.{volume_need}
use Rattle.write_trace.specs.declared.header.Header.{Header}
use Rattle.write_trace.specs.declared.header.VolumeHead.{VolumeHead}
use Rattle.write_trace.specs.Headers.{Base, trace_mark, volume_spelling}
use Rattle.ckd_image.specs.declared.shape.DeviceType.{DeviceType}
use Rattle.ckd_image.specs.declared.shape.ImageShape.{ImageShape}
use Rattle.ckd_image.specs.Shapes.{header_bytes, type_byte}
use Rattle.ckd_bridge.specs.declared.named_volume.NamedVolume.{NamedVolume}
use Rattle.ckd_bridge.specs.declared.stop.ImageFile.TheVariants.{First, Second}
use Rattle.ckd_bridge.specs.declared.stop.Refusal.{Refusal}
use Rattle.ckd_bridge.specs.declared.stop.Refusal.TheVariants.{NoLabel, OtherCylinders, OtherShape, TooLarge}
use Rattle.ckd_bridge.specs.declared.stop.Stop.{Stop}
use Rattle.ckd_bridge.specs.declared.stop.Stop.TheVariants.{NoMemory, ReadFault, WriteFault, Refused}
use Rattle.ckd_bridge.specs.Sinks.{Appends}
use Rattle.ckd_bridge.specs.Pieces.{AreGood, IsFirstRefusal, pieces_up_to}
use Rattle.ckd_bridge.specs.Tracks.{shape_of_image, track_of_device}
use Rattle.ckd_bridge.specs.Jobs.{captured_piece, exported_piece}

-- how many tracks a volume of this shape has
abbrev pub tracks_of_shape : ImageShape → ℕ
tracks_of_shape shape = TRACKS_OF_CYLINDER * shape.cylinders

-- Why a command is refused: there is no shape, or the piece of a track is refused, the first of them.
abbrev pub IsRefused : (shape : Result ImageShape Refusal) → (pieces : ImageShape → ℕ → Result (List ℕ) Refusal) → Refusal → Type 0
IsRefused shape pieces refusal = (shape ≡ Err refusal) ⊎ ((of : ImageShape) × (shape ≡ Ok of) × IsFirstRefusal (pieces of) (tracks_of_shape of) refusal)

-- How a command ends, by the shape that it finds, the pieces of tracks and the bytes that it is to write. It has written them; or it is
-- refused, and nothing is written. Else a file failed or memory ran out.
abbrev pub EndsBridge : (shape : Result ImageShape Refusal) → (pieces : ImageShape → ℕ → Result (List ℕ) Refusal) → (bytes : ImageShape → List ℕ) → (old new : Option (List ℕ)) → Result ImageShape Stop → Type 0
EndsBridge shape pieces bytes old new (Ok of) = (shape ≡ Ok of) × AreGood (pieces of) (tracks_of_shape of) × Appends (bytes of) old new
EndsBridge shape pieces bytes old new (Err NoMemory) = Unit {0}
EndsBridge shape pieces bytes old new (Err ReadFault) = Unit {0}
EndsBridge shape pieces bytes old new (Err WriteFault) = Unit {0}
EndsBridge shape pieces bytes old new (Err (Refused refusal)) = IsRefused shape pieces refusal × (new ≡ old)

-- ---- the trace of an import

abbrev pub imported_volume : (serial : List ℕ) → (cylinders : ℕ) → VolumeHead
imported_volume serial cylinders = record { serial = serial; cylinders = cylinders }

-- the header up to its base tracks
abbrev pub before_base : (serial : List ℕ) → (cylinders : ℕ) → List ℕ
before_base serial cylinders = trace_mark 1 ++ to_be_bytes w16 1 ++ volume_spelling 1 (imported_volume serial cylinders) ++ to_be_bytes w32 (TRACKS_OF_CYLINDER * cylinders)

-- the records that were read, or none
abbrev pub recs_or_none : Result (List Rec) Refusal → List Rec
recs_or_none (Ok recs) = recs
recs_or_none (Err refusal) = []

-- the image's tracks before a number, as base tracks
abbrev pub imported_tracks : DeviceType → (image : List ℕ) → (count : ℕ) → List Base
imported_tracks device_type image zero = []
imported_tracks device_type image (suc count) = imported_tracks device_type image count ++ (0, count, recs_or_none (track_of_device First device_type image count)) ∷ []

-- one volume, with the image's tracks
abbrev pub imported_header : (serial : List ℕ) → ImageShape → (image : List ℕ) → Header
imported_header serial shape image = record {
  version = 1;
  volumes = imported_volume serial shape.cylinders ∷ [];
  base = imported_tracks shape.device_type image (tracks_of_shape shape);
}

-- ---- the entries of a capture

abbrev pub is_same_shape : ImageShape → ImageShape → Bool
is_same_shape first second = type_byte first.device_type == type_byte second.device_type && first.cylinders == second.cylinders

abbrev pub same_shape : (cylinders : ℕ) → (first second : ImageShape) → Result ImageShape Refusal
same_shape cylinders first second =
    if not (is_same_shape first second) then Err OtherShape
    else if not (first.cylinders == cylinders) then Err OtherCylinders
    else Ok first

-- the one shape of both images, with these cylinders
abbrev pub captured_shape : (cylinders : ℕ) → (first second : List ℕ) → Result ImageShape Refusal
captured_shape cylinders first second = shape_of_image First first >>= λ a. shape_of_image Second second >>= λ b. same_shape cylinders a b

abbrev pub captured_bytes : ImageShape → NamedVolume → (stamp : ℕ) → (first second : List ℕ) → List ℕ
captured_bytes shape volume stamp first second = pieces_up_to (captured_piece shape volume stamp first second) (tracks_of_shape shape)

-- ---- the image of an export

-- The volume has no more cylinders than an image can, it has one at least, and its device is long enough for them.
abbrev pub exported_shape : DeviceType → (cylinders length : ℕ) → Result ImageShape Refusal
exported_shape device_type cylinders length =
    if not (nat_le cylinders MOST_NARROW_CYLINDERS) then Err TooLarge
    else if nat_le 1 cylinders && nat_le (volume_need cylinders) length then Ok (record { device_type = device_type; cylinders = cylinders })
    else Err NoLabel

abbrev pub exported_bytes : ImageShape → (volume : List ℕ) → List ℕ
exported_bytes shape volume = header_bytes shape.device_type ++ pieces_up_to (exported_piece shape.device_type volume) (tracks_of_shape shape)
