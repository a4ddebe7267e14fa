-- The files of a job, read again and again.
use Rattle.std.proofs.Common.{◌≡◌, ℕ, ◌+◌, ◌-◌, ◌*◌, ◌<◌, ◌≤◌, List, drop, sym, ap, subst, ◌∙◌, arith}
use Rattle.std.specs.Prelude.{slice_range}
use Rattle.tod_stamp.specs.Fields.{IsBytes}
use Rattle.tod_stamp.proofs.FieldLaws.{IsBytes-drop, IsBytes-take}
use Rattle.xrc_edge.specs.declared.limits.TheConstants.{TRACKS_OF_CYLINDER}
use Rattle.crash_plant.specs.Moments.{Standing}
use Rattle.ckd_track.specs.SlotPlaces.{slot_end}
use Rattle.volume_label.specs.Labels.{volume_need}
use Rattle.ckd_image.specs.declared.layout.TheConstants.{HEADER_LENGTH}
use Rattle.ckd_image.specs.declared.shape.DeviceType.{DeviceType}
use Rattle.ckd_image.specs.declared.shape.DeviceType.TheVariants.{Ibm3380, Ibm3390, Ibm9345}
use Rattle.ckd_image.specs.Shapes.{cylinder_bytes, image_length, track_bytes, track_place}
use Rattle.ckd_bridge.specs.declared.job.Job.{Job}
use Rattle.ckd_bridge.specs.declared.job.Job.TheVariants.{Capture, Export, Import}
use Rattle.ckd_bridge.specs.Jobs.{AreFilesReady, ReadSame, SameLengths, piece_of}

-- a track lies in its image
pub within_image : (device_type : DeviceType) (number cylinders length : ℕ) → number < TRACKS_OF_CYLINDER * cylinders → HEADER_LENGTH + cylinders * cylinder_bytes device_type ≤ length
    → track_place device_type number + track_bytes device_type ≤ length
within_image Ibm3380 number cylinders length lt fits = omega (arith, lt, fits)
within_image Ibm3390 number cylinders length lt fits = omega (arith, lt, fits)
within_image Ibm9345 number cylinders length lt fits = omega (arith, lt, fits)

-- a slot lies on its volume
pub within_volume : (number cylinders length : ℕ) → number < TRACKS_OF_CYLINDER * cylinders → volume_need cylinders ≤ length → slot_end number ≤ length
within_volume number cylinders length lt fits = omega (arith, lt, fits)

pub lengths_then : (a b c d e f : Standing) → SameLengths a b c d → SameLengths c d e f → SameLengths a b e f
lengths_then a b c d e f one two = record { first_length = two.first_length ∙ one.first_length; second_length = two.second_length ∙ one.second_length }

pub bytes_then : (a b c d e f : Standing) → ReadSame a b c d → ReadSame c d e f → ReadSame a b e f
bytes_then a b c d e f one two = record { first_bytes = two.first_bytes ∙ one.first_bytes; second_bytes = two.second_bytes ∙ one.second_bytes }

pub still_ready : (job : Job) (a b c d : Standing) → AreFilesReady job a b → SameLengths a b c d → AreFilesReady job c d
still_ready (Import shape) a b c d ready same = (subst (λ n. image_length shape ≤ n) (sym same.first_length) ready.0, ready.1)
still_ready (Capture shape volume stamp) a b c d ready same =
    (subst (λ n. image_length shape ≤ n) (sym same.first_length) ready.0, subst (λ n. image_length shape ≤ n) (sym same.second_length) ready.1, ready.2, ready.3, ready.4)
still_ready (Export device_type cylinders) a b c d ready same = (subst (λ n. volume_need cylinders ≤ n) (sym same.first_length) ready.0, ready.1)

pub same_pieces : (job : Job) (a b c d : Standing) (k : ℕ) → ReadSame a b c d → piece_of job c.bytes d.bytes k ≡ piece_of job a.bytes b.bytes k
same_pieces job a b c d k same = ap (λ (t : List ℕ). piece_of job t d.bytes k) same.first_bytes ∙ ap (λ (t : List ℕ). piece_of job a.bytes t k) same.second_bytes

pub IsBytes-slice : (a b : ℕ) (bytes : List ℕ) → IsBytes bytes → IsBytes (slice_range bytes a b)
IsBytes-slice a b bytes fits = IsBytes-take (b - a) (drop a bytes) (IsBytes-drop a bytes fits)
