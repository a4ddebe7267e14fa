-- The one spelling of a track as bytes, and reading it.
use Rattle.std.specs.Prelude.{◌≡◌, ℕ, zero, suc, ◌+◌, ◌-◌, List, [], ◌∷◌, ◌++◌, length, take, drop, Result, Ok, Err, nat_lt, nat_le, if◌then◌else◌, slice_index, slice_range}
use Rattle.std.specs.List.{flat_map}
use Rattle.std.specs.Int.{w16, to_be_bytes, from_be_bytes}
use Rattle.tod_stamp.specs.Fields.{◌>>=◌, IsBytes}
use Rattle.ckd_track.specs.declared.layout.TheConstants.{LONGEST_IMAGE}
use Rattle.ckd_track.specs.declared.fault.ImageError.{ImageError}
use Rattle.ckd_track.specs.declared.fault.ImageError.TheVariants.{Short, TooBig, Order}
use Rattle.ckd_track.specs.declared.rec.Rec.{Rec}
use Rattle.ckd_track.specs.Tracks.{record_size, capacity, IsTrack}

-- number, length of the key, length of the content in two bytes, key, content
abbrev pub record_spelling : Rec → List ℕ
record_spelling rec = (rec.number ∷ length rec.key ∷ []) ++ to_be_bytes w16 (length rec.content) ++ rec.key ++ rec.content

-- the count of records in two bytes, and the records in order
abbrev pub image : List Rec → List ℕ
image recs = to_be_bytes w16 (length recs) ++ flat_map record_spelling recs

-- The longest image is that of one record without key that fills a track.
abbrev pub longest_image : ℕ
longest_image = LONGEST_IMAGE

-- A record after its first four bytes: its number must be above the last, its size must fit the room that is left, and then
-- key and content must be there.
unfoldable pub record_after_head : (place last room number key_length content_length : ℕ) → List ℕ → Result (Rec × List ℕ) ImageError
record_after_head place last room number key_length content_length bytes =
    if nat_le number last then Err (Order place)
    else if nat_lt room (8 + key_length + content_length) then Err TooBig
    else if nat_lt (length bytes) (key_length + content_length) then Err Short
    else Ok (record { number = number; key = take key_length bytes; content = take content_length (drop key_length bytes) }, drop (key_length + content_length) bytes)

-- A record at a place: first the four bytes of number and lengths must be there.
unfoldable pub record_at : (place last room : ℕ) → List ℕ → Result (Rec × List ℕ) ImageError
record_at place last room bytes =
    if nat_lt (length bytes) 4 then Err Short
    else record_after_head place last room (slice_index bytes 0) (slice_index bytes 1) (from_be_bytes w16 (slice_range bytes 2 4)) (drop 4 bytes)

-- that many records, one after another
unfoldable pub records_at : (count place last room : ℕ) → List ℕ → Result (List Rec × List ℕ) ImageError
records_at zero place last room bytes = Ok ([], bytes)
records_at (suc count) place last room bytes = do
  first ← record_at place last room bytes
  others ← records_at count (place + length (record_spelling first.0)) first.0.number (room - record_size first.0) first.1
  Ok (first.0 ∷ others.0, others.1)

-- The image that the bytes begin with, and the bytes after it. A count above 255 is refused at place 0.
unfoldable pub image_at : List ℕ → Result (List Rec × List ℕ) ImageError
image_at bytes =
    if nat_lt (length bytes) 2 then Err Short
    else if nat_lt 255 (from_be_bytes w16 (take 2 bytes)) then Err (Order 0)
    else records_at (from_be_bytes w16 (take 2 bytes)) 2 0 capacity (drop 2 bytes)

-- ---- the laws

-- What an image spells is read again, whatever follows.
abbrev pub ReadsBack : Type 0
ReadsBack = (track : List Rec) (rest : List ℕ) → IsTrack track → image_at (image track ++ rest) ≡ Ok (track, rest)

-- What is read was spelled so, and is a track.
abbrev pub ReadsImages : Type 0
ReadsImages = (bytes rest : List ℕ) (track : List Rec) → IsBytes bytes → image_at bytes ≡ Ok (track, rest) → IsTrack track × (bytes ≡ image track ++ rest)
