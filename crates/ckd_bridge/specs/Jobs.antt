-- What a command makes of the files that it reads, track by track.
use Rattle.std.specs.Prelude.{◌≡◌, ℕ, ◌*◌, ◌≤◌, List, [], ◌∷◌, Result, Ok, IsTrue, bytes_eq, if◌then◌else◌}
use Rattle.tod_stamp.specs.Fields.{◌>>=◌, is_version}
use Rattle.xrc_edge.specs.declared.limits.TheConstants.{MOST_NARROW_CYLINDERS, TRACKS_OF_CYLINDER}
use Rattle.ckd_track.specs.declared.rec.Rec.{Rec}
use Rattle.ckd_track.specs.declared.write.Kind.TheVariants.{Whole}
use Rattle.ckd_track.specs.declared.write.Write.{Write}
use Rattle.ckd_track.specs.Images.{image}
use Rattle.volume_label.specs.Labels.{volume_need}
use Rattle.write_trace.specs.declared.entry.Entry.TheVariants.{Written}
use Rattle.write_trace.specs.Entries.{entry_spelling}
use Rattle.write_trace.specs.Headers.{base_spelling}
use Rattle.crash_plant.specs.Moments.{Standing}
use Rattle.ckd_image.specs.declared.shape.DeviceType.{DeviceType}
use Rattle.ckd_image.specs.declared.shape.ImageShape.{ImageShape}
use Rattle.ckd_image.specs.Shapes.{image_length, track_bytes}
use Rattle.ckd_image.specs.ImageTracks.{fitted_image_track}
use Rattle.ckd_bridge.specs.declared.named_volume.NamedVolume.{NamedVolume}
use Rattle.ckd_bridge.specs.declared.job.Job.{Job}
use Rattle.ckd_bridge.specs.declared.job.Job.TheVariants.{Capture, Export, Import}
use Rattle.ckd_bridge.specs.declared.stop.ImageFile.TheVariants.{First, Second}
use Rattle.ckd_bridge.specs.declared.stop.Refusal.{Refusal}
use Rattle.ckd_bridge.specs.declared.stop.Refusal.TheVariants.{NoRoom}
use Rattle.ckd_bridge.specs.Tracks.{there_or, track_of_device, track_of_slot}

abbrev pub job_cylinders : Job → ℕ
job_cylinders (Import shape) = shape.cylinders
job_cylinders (Capture shape volume stamp) = shape.cylinders
job_cylinders (Export device_type cylinders) = cylinders

-- how many tracks there are
abbrev pub job_count : Job → ℕ
job_count job = TRACKS_OF_CYLINDER * job_cylinders job

-- ---- the piece of a track

-- a whole track as a write
abbrev pub captured_write : (volume stamp number : ℕ) → List Rec → Write
captured_write volume stamp number recs = record { volume = volume; track = number; stamp = record { 0 = stamp }; kind = Whole recs }

-- A track that is the same in both images gives nothing, any other an entry of the trace's version.
abbrev pub changed_piece : NamedVolume → (stamp number : ℕ) → (before after : List Rec) → List ℕ
changed_piece volume stamp number before after = if bytes_eq (image before) (image after) then [] else entry_spelling volume.version (Written (captured_write volume.number stamp number after))

-- an image's track as a base track of a trace's first volume
abbrev pub imported_piece : ImageShape → (image : List ℕ) → (number : ℕ) → Result (List ℕ) Refusal
imported_piece shape image number = track_of_device First shape.device_type image number >>= λ recs. Ok (base_spelling 1 (0, number, recs))

-- what makes a track that of the second image
abbrev pub captured_after : ImageShape → NamedVolume → (stamp : ℕ) → (before : List Rec) → (second : List ℕ) → (number : ℕ) → Result (List ℕ) Refusal
captured_after shape volume stamp before second number = track_of_device Second shape.device_type second number >>= λ after. Ok (changed_piece volume stamp number before after)

-- the same from the first image
abbrev pub captured_piece : ImageShape → NamedVolume → (stamp : ℕ) → (first second : List ℕ) → (number : ℕ) → Result (List ℕ) Refusal
captured_piece shape volume stamp first second number = track_of_device First shape.device_type first number >>= λ before. captured_after shape volume stamp before second number

-- a volume's track as an image has it, with zeros after its end mark
abbrev pub exported_piece : DeviceType → (volume : List ℕ) → (number : ℕ) → Result (List ℕ) Refusal
exported_piece device_type volume number = track_of_slot volume number >>= λ recs. there_or (NoRoom number) (fitted_image_track (track_bytes device_type) number recs)

-- `first` and `second` are the bytes of the files.
abbrev pub piece_of : Job → (first second : List ℕ) → (number : ℕ) → Result (List ℕ) Refusal
piece_of (Import shape) first second number = imported_piece shape first number
piece_of (Capture shape volume stamp) first second number = captured_piece shape volume stamp.0 first second number
piece_of (Export device_type cylinders) first second number = exported_piece device_type first number

-- ---- the files of a job

-- The files are long enough for the tracks, there are no more than an image may have, a stamp is at least 1, and a version is known.
abbrev pub AreFilesReady : Job → (first second : Standing) → Type 0
AreFilesReady (Import shape) first second = (image_length shape ≤ first.length_is) × (shape.cylinders ≤ MOST_NARROW_CYLINDERS)
AreFilesReady (Capture shape volume stamp) first second =
    (image_length shape ≤ first.length_is) × (image_length shape ≤ second.length_is) × (shape.cylinders ≤ MOST_NARROW_CYLINDERS) × (1 ≤ stamp.0) × IsTrue (is_version volume.version)
AreFilesReady (Export device_type cylinders) first second = (volume_need cylinders ≤ first.length_is) × (cylinders ≤ MOST_NARROW_CYLINDERS)

-- Both files hold the same bytes as before.
pub record ReadSame (first second new_first new_second : Standing) : Type 0 where
  pub first_bytes : new_first.bytes ≡ first.bytes
  pub second_bytes : new_second.bytes ≡ second.bytes

-- Both files have the same lengths as before.
pub record SameLengths (first second new_first new_second : Standing) : Type 0 where
  pub first_length : new_first.length_is ≡ first.length_is
  pub second_length : new_second.length_is ≡ second.length_is

-- the counts of both files
abbrev pub fault_counts : (first second : Standing) → List ℕ
fault_counts first second = first.faults ∷ second.faults ∷ []
