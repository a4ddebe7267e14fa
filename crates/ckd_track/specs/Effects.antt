-- What a write does to a track, and the rules that a write keeps by itself.
use Rattle.std.specs.Prelude.{ℕ, ◌-◌, ◌==◌, ◌&&◌, ◌||◌, List, [], ◌∷◌, ◌++◌, length, take, replicate, map, filter, Bool, true, nat_le, if◌then◌else◌}
use Rattle.std.specs.List.{list_any}
use Rattle.tod_stamp.specs.Fields.{within}
use Rattle.ckd_track.specs.declared.layout.TheConstants.{LONGEST_UPDATE}
use Rattle.ckd_track.specs.declared.rec.Rec.{Rec}
use Rattle.ckd_track.specs.declared.write.Kind.{Kind}
use Rattle.ckd_track.specs.declared.write.Kind.TheVariants.{Update, Format, Whole}
use Rattle.ckd_track.specs.Tracks.{record_size, track_size, capacity, are_records_above, is_track}

-- ---- updates

-- the bytes at a length: filled with zeros, or cut
abbrev pub fitted : ℕ → List ℕ → List ℕ
fitted len bytes = take len (bytes ++ replicate len 0)

-- A record with the number keeps its length; its content becomes the bytes, filled or cut.
abbrev pub updated_record : ℕ → List ℕ → Rec → Rec
updated_record number bytes rec = if rec.number == number then record rec { content = fitted (length rec.content) bytes } else rec

-- The same over a track. Where no record has the number the track is unchanged.
abbrev pub updated : ℕ → List ℕ → List Rec → List Rec
updated number bytes recs = map (updated_record number bytes) recs

-- ---- formats

-- whether a record has the number
abbrev pub has_record : ℕ → List Rec → Bool
has_record number recs = list_any (λ rec. rec.number == number) recs

-- the records with a number up to `after`
abbrev pub up_to : ℕ → List Rec → List Rec
up_to after recs = filter (λ rec. nat_le rec.number after) recs

-- the records up to the first that doesn't fit the room
abbrev pub fitting : ℕ → List Rec → List Rec
fitting room [] = []
fitting room (rec ∷ recs) = if nat_le (record_size rec) room then rec ∷ fitting (room - record_size rec) recs else []

-- Records above `after` are erased. Then the given ones are put in order, up to the first that doesn't fit. 0 stands for
-- the track's start. Where another `after` isn't found the track is unchanged.
abbrev pub formatted : ℕ → List Rec → List Rec → List Rec
formatted after given recs =
    if after == 0 || has_record after recs
    then up_to after recs ++ fitting (capacity - track_size (up_to after recs)) given
    else recs

-- ---- all kinds

-- what a write does to a track
abbrev pub apply : List Rec → Kind → List Rec
apply recs (Update number bytes) = updated number bytes recs
apply recs (Format after given) = formatted after given recs
apply recs (Whole track) = track

-- the most bytes that an update may have: as many as the content of one record without key that fills a track
abbrev pub longest_update : ℕ
longest_update = LONGEST_UPDATE

-- The rules of a write by itself. An update names a record from 1 to 255. The records of a format stand above `after`.
-- A whole track is one by its type.
abbrev pub keeps_rules : Kind → Bool
keeps_rules (Update number bytes) = within 1 255 number && nat_le (length bytes) longest_update
keeps_rules (Format after recs) = nat_le after 255 && are_records_above after recs
keeps_rules (Whole track) = true

-- The same of a kind that isn't a value of its Rust type, so that the records of a whole track are looked at too.
abbrev pub is_kind : Kind → Bool
is_kind (Update number bytes) = keeps_rules (Update number bytes)
is_kind (Format after recs) = keeps_rules (Format after recs)
is_kind (Whole track) = is_track track
