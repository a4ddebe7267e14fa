-- A slot's buffer begins with the image of a track, and is seen as that track.
use Rattle.std.specs.Prelude.{◌≡◌, ◌≤◌, ℕ, ◌+◌, List, [], ◌++◌, length, take, drop, Result, Ok, Err}
use Rattle.std.specs.List.{flat_map}
use Rattle.ckd_track.specs.declared.layout.TheConstants.{SLOT_LENGTH}
use Rattle.ckd_track.specs.declared.fault.ImageError.{ImageError}
use Rattle.ckd_track.specs.declared.rec.Rec.{Rec}
use Rattle.ckd_track.specs.Tracks.{IsTrack, capacity}
use Rattle.ckd_track.specs.Images.{image, image_at, record_spelling, records_at}

-- the records that were read, or none
abbrev pub records_of : Result (List Rec × List ℕ) ImageError → List Rec
records_of (Ok read) = read.0
records_of (Err e) = []

-- the track whose image the bytes begin with
abbrev pub track_of_image : List ℕ → List Rec
track_of_image bytes = records_of (image_at bytes)

-- The bytes are the image of a track, all of them.
pub record IsImage (bytes : List ℕ) : Type 0 where
  pub is_track : IsTrack (track_of_image bytes)
  pub spelled : bytes ≡ image (track_of_image bytes)

-- a buffer with bytes written at a place
abbrev pub with_bytes : (place : ℕ) → (bytes buffer : List ℕ) → List ℕ
with_bytes place bytes buffer = take place buffer ++ (bytes ++ drop (place + length bytes) buffer)

-- the length of a slot
abbrev pub slot_size : ℕ
slot_size = SLOT_LENGTH

-- The buffer is a slot's, and its first bytes are an image.
pub record HoldsImage (used : ℕ) (buffer : List ℕ) : Type 0 where
  pub sized : length buffer ≡ slot_size
  pub within : used ≤ length buffer
  pub begins : IsImage (take used buffer)

-- ---- records in a row, as a format's fields have them

-- the records that bytes spell in a row, that many
abbrev pub spelled_records : (count : ℕ) → List ℕ → List Rec
spelled_records count bytes = records_of (records_at count 0 0 capacity bytes)

-- The bytes spell that many records in a row, all of the bytes, with rising numbers and sizes that fit a track.
pub record SpellsRecords (count : ℕ) (bytes : List ℕ) : Type 0 where
  pub are_records : IsTrack (spelled_records count bytes)
  pub number : length (spelled_records count bytes) ≡ count
  pub spelled : bytes ≡ flat_map record_spelling (spelled_records count bytes)
