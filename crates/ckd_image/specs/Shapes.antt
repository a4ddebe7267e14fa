-- The header of a device image, its one spelling, and reading it.
use Rattle.std.specs.Prelude.{ℕ, ◌+◌, ◌-◌, ◌*◌, ◌/◌, ◌%◌, ◌==◌, ◌&&◌, ◌||◌, not, List, [], ◌∷◌, ◌++◌, take, drop, slice_range, slice_index, replicate, Bool, Option, Some, None, Result, Ok, Err, nat_le, nat_lt, codes, bytes_eq, if◌then◌else◌}
use Rattle.std.specs.Int.{w32, to_le_bytes, from_le_bytes}
use Rattle.tod_stamp.specs.Fields.{within}
use Rattle.xrc_edge.specs.declared.limits.TheConstants.{MOST_NARROW_CYLINDERS, TRACKS_OF_CYLINDER}
use Rattle.ckd_image.specs.declared.layout.TheConstants.{HEADER_LENGTH}
use Rattle.ckd_image.specs.declared.shape.DeviceType.{DeviceType}
use Rattle.ckd_image.specs.declared.shape.DeviceType.TheVariants.{Ibm3380, Ibm3390, Ibm9345}
use Rattle.ckd_image.specs.declared.shape.ImageShape.{ImageShape}
use Rattle.ckd_image.specs.declared.fault.ShapeFault.{ShapeFault}
use Rattle.ckd_image.specs.declared.fault.ShapeFault.TheVariants.{NoImage, Compressed, Heads, UnknownType, TrackSize, OneOfSeveral, Length}

-- the bytes of a track: those of the longest record that the device has, of what stands before and after it, up to a whole
-- number of blocks of 512
abbrev pub track_bytes : DeviceType → ℕ
track_bytes Ibm3380 = 47616
track_bytes Ibm3390 = 56832
track_bytes Ibm9345 = 46592

-- the last two digits of the type, one in each half of a byte
abbrev pub type_byte : DeviceType → ℕ
type_byte Ibm3380 = 128
type_byte Ibm3390 = 144
type_byte Ibm9345 = 69

abbrev pub type_of : (byte : ℕ) → Option DeviceType
type_of byte = if byte == 128 then Some Ibm3380 else if byte == 144 then Some Ibm3390 else if byte == 69 then Some Ibm9345 else None

-- the bytes of a cylinder
abbrev pub cylinder_bytes : DeviceType → ℕ
cylinder_bytes device_type = TRACKS_OF_CYLINDER * track_bytes device_type

-- where a track begins
abbrev pub track_place : DeviceType → (track : ℕ) → ℕ
track_place device_type track = HEADER_LENGTH + track * track_bytes device_type

abbrev pub image_length : ImageShape → ℕ
image_length shape = HEADER_LENGTH + shape.cylinders * cylinder_bytes shape.device_type

-- The mark, the tracks of a cylinder and the bytes of a track, least significant byte first, and the type.
abbrev pub header_front : DeviceType → List ℕ
header_front device_type = codes "CKD_P370" ++ to_le_bytes w32 TRACKS_OF_CYLINDER ++ to_le_bytes w32 (track_bytes device_type) ++ type_byte device_type ∷ []

-- The rest is zeros: the number 0 of a file that is its volume's only one, no highest cylinder, and what is reserved.
abbrev pub header_bytes : DeviceType → List ℕ
header_bytes device_type = header_front device_type ++ replicate 495 0

-- ---- reading it

-- a whole number of cylinders after the header, from 1 to the most
abbrev pub is_image_length : DeviceType → (length : ℕ) → Bool
is_image_length device_type length =
    let cylinders = (length - HEADER_LENGTH) / cylinder_bytes device_type in
    within 1 MOST_NARROW_CYLINDERS cylinders && length == HEADER_LENGTH + cylinders * cylinder_bytes device_type

-- the shape of an image of a type, by the bytes of its header and its length
abbrev pub shape_of_type : (bytes : List ℕ) → (length : ℕ) → Option DeviceType → Result ImageShape ShapeFault
shape_of_type bytes length None = Err UnknownType
shape_of_type bytes length (Some device_type) =
    if not (from_le_bytes w32 (slice_range bytes 12 16) == track_bytes device_type) then Err TrackSize
    else if not (slice_index bytes 17 == 0) then Err OneOfSeveral
    else if is_image_length device_type length then Ok (record { device_type = device_type; cylinders = (length - HEADER_LENGTH) / cylinder_bytes device_type })
    else Err Length

-- the mark of a compressed image, or of the shadow of an image
abbrev pub is_compressed_mark : List ℕ → Bool
is_compressed_mark mark = bytes_eq (codes "CKD_C370") mark || bytes_eq (codes "CKD_S370") mark

-- What a file of this length is, that begins with the 512 bytes. The highest cylinder of the file, and what is reserved, isn't looked at.
abbrev pub shape_at : (bytes : List ℕ) → (length : ℕ) → Result ImageShape ShapeFault
shape_at bytes length =
    if is_compressed_mark (take 8 bytes) then Err Compressed
    else if not (bytes_eq (codes "CKD_P370") (take 8 bytes)) then Err NoImage
    else if not (from_le_bytes w32 (slice_range bytes 8 12) == TRACKS_OF_CYLINDER) then Err Heads
    else shape_of_type bytes length (type_of (slice_index bytes 16))
