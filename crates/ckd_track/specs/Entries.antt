-- How a write is spelled: as the entry of a trace of version 1, in the form in which it waits in a queue, and as a delta.
use Rattle.std.specs.Prelude.{◌≡◌, ℕ, ◌/◌, ◌%◌, List, [], ◌∷◌, ◌++◌, length, Bool, true, false, IsTrue}
use Rattle.std.specs.List.{flat_map}
use Rattle.std.specs.Int.{w16, w32, w64, to_be_bytes}
use Rattle.xrc_edge.specs.declared.limits.TheConstants.{TRACKS_OF_CYLINDER}
use Rattle.ckd_track.specs.declared.layout.TheConstants.{LONGEST_ENTRY}
use Rattle.ckd_track.specs.declared.rec.Rec.{Rec}
use Rattle.ckd_track.specs.declared.write.Kind.{Kind}
use Rattle.ckd_track.specs.declared.write.Kind.TheVariants.{Update, Format, Whole}
use Rattle.ckd_track.specs.declared.write.Write.{Write}
use Rattle.ckd_track.specs.Effects.{is_kind, apply}
use Rattle.ckd_track.specs.Images.{image, record_spelling}

-- the tag of a kind; 1 is that of an idle entry
abbrev pub tag_of : Kind → ℕ
tag_of (Update number bytes) = 2
tag_of (Format after recs) = 3
tag_of (Whole track) = 4

-- the fields of a kind, which follow the track in an entry
abbrev pub kind_spelling : Kind → List ℕ
kind_spelling (Update number bytes) = number ∷ [] ++ to_be_bytes w16 (length bytes) ++ bytes
kind_spelling (Format after recs) = after ∷ length recs ∷ [] ++ flat_map record_spelling recs
kind_spelling (Whole track) = image track

abbrev pub cylinder_of : (track : ℕ) → ℕ
cylinder_of track = track / TRACKS_OF_CYLINDER

abbrev pub head_of_track : (track : ℕ) → ℕ
head_of_track track = track % TRACKS_OF_CYLINDER

-- The entry: tag, stamp, volume, cylinder, head, and the fields of the kind. Its cylinder has two bytes, so a track after
-- 65,536 cylinders has none.
abbrev pub write_spelling : Write → List ℕ
write_spelling write =
    tag_of write.kind ∷ [] ++ to_be_bytes w64 write.stamp.0 ++ to_be_bytes w16 write.volume ++ to_be_bytes w16 (cylinder_of write.track) ++ to_be_bytes w16 (head_of_track write.track) ++ kind_spelling write.kind

-- The longest entry is that of a whole track with one record that fills it.
abbrev pub longest_entry : ℕ
longest_entry = LONGEST_ENTRY

-- The queue form: the same with the track's number in four bytes in place of cylinder and head.
abbrev pub queue_form : Write → List ℕ
queue_form write = tag_of write.kind ∷ [] ++ to_be_bytes w64 write.stamp.0 ++ to_be_bytes w16 write.volume ++ to_be_bytes w32 write.track ++ kind_spelling write.kind

-- whether a kind changes a part of its track, as an update and a format do
abbrev pub changes_part : Kind → Bool
changes_part (Update number bytes) = true
changes_part (Format after recs) = true
changes_part (Whole track) = false

-- A delta's fields after the track: the tag of an update or a format, and its fields.
abbrev pub delta_spelling : Kind → List ℕ
delta_spelling kind = tag_of kind ∷ kind_spelling kind

-- ---- bytes that spell a write, and their effect

-- The bytes are the fields of a kind with this tag.
pub record IsFields (tag : ℕ) (fields : List ℕ) : Type 0 where
  pub kind : Kind
  pub keeps : IsTrue (is_kind kind)
  pub tagged : tag ≡ tag_of kind
  pub spelled : fields ≡ kind_spelling kind

-- What a kind with this tag and these fields does to a track was done to it.
abbrev pub AppliesFields : (tag : ℕ) → List ℕ → (old new : List Rec) → Type 0
AppliesFields tag fields old new = (kind : Kind) → IsTrue (is_kind kind) → tag ≡ tag_of kind → fields ≡ kind_spelling kind → new ≡ apply old kind

-- The bytes are the queue form of a write.
pub record IsQueueForm (entry : List ℕ) : Type 0 where
  pub write : Write
  pub keeps : IsTrue (is_kind write.kind)
  pub spelled : entry ≡ queue_form write

-- What a write with this queue form does to a track was done to it.
abbrev pub AppliesEntry : List ℕ → (old new : List Rec) → Type 0
AppliesEntry entry old new = (write : Write) → IsTrue (is_kind write.kind) → entry ≡ queue_form write → new ≡ apply old write.kind

-- The bytes are a delta's fields after the track.
pub record IsDelta (bytes : List ℕ) : Type 0 where
  pub kind : Kind
  pub part : IsTrue (changes_part kind)
  pub keeps : IsTrue (is_kind kind)
  pub spelled : bytes ≡ delta_spelling kind

-- What a write with these fields of a delta does to a track was done to it.
abbrev pub AppliesDelta : List ℕ → (old new : List Rec) → Type 0
AppliesDelta bytes old new = (kind : Kind) → IsTrue (is_kind kind) → bytes ≡ delta_spelling kind → new ≡ apply old kind
