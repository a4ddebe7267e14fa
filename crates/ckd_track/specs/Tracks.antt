-- Tracks of count-key-data records: sizes, and which lists of records are tracks.
use Rattle.std.specs.Prelude.{ℕ, ◌+◌, ◌&&◌, List, [], ◌∷◌, length, sum_by, Bool, true, nat_le, IsTrue}
use Rattle.tod_stamp.specs.Fields.{within}
use Rattle.ckd_track.specs.declared.layout.TheConstants.{CAPACITY}
use Rattle.ckd_track.specs.declared.rec.Rec.{Rec}

-- the bytes that a track has room for
abbrev pub capacity : ℕ
capacity = CAPACITY

-- The size of a record is 8 for its count field, and the lengths of key and content.
abbrev pub record_size : Rec → ℕ
record_size rec = 8 + length rec.key + length rec.content

-- The size of a track is the sum over its records.
abbrev pub track_size : List Rec → ℕ
track_size recs = sum_by record_size recs

-- Numbers rise strictly from above `low`, up to 255, and keys have at most 255 bytes.
abbrev pub rises_above : ℕ → List Rec → Bool
rises_above low [] = true
rises_above low (rec ∷ recs) = within (low + 1) 255 rec.number && nat_le (length rec.key) 255 && rises_above rec.number recs

-- Records that stand above `low` on a track: strictly rising numbers, and sizes that add up to at most the capacity.
abbrev pub are_records_above : ℕ → List Rec → Bool
are_records_above low recs = rises_above low recs && nat_le (track_size recs) capacity

-- A track has records in strictly rising number from 1 to 255, keys of at most 255 bytes, and sizes that add up to at
-- most the capacity.
abbrev pub is_track : List Rec → Bool
is_track recs = are_records_above 0 recs

abbrev pub IsTrack : List Rec → Type 0
IsTrack recs = IsTrue (is_track recs)

-- the number of the last record, where `low` stands before the first
abbrev pub last_number : ℕ → List Rec → ℕ
last_number low [] = low
last_number low (rec ∷ recs) = last_number rec.number recs
