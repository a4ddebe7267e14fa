-- Shapes and tracks of images, and tracks of volume devices, by the bytes of their files, or why they are refused.
use Rattle.std.specs.Prelude.{ℕ, ◌+◌, List, length, slice_range, Option, Some, None, Result, Ok, Err, nat_lt, if◌then◌else◌}
use Rattle.ckd_track.specs.declared.rec.Rec.{Rec}
use Rattle.ckd_track.specs.Images.{image_at}
use Rattle.ckd_track.specs.SlotPlaces.{slot_end, slot_place, track_read}
use Rattle.ckd_image.specs.declared.layout.TheConstants.{HEADER_LENGTH}
use Rattle.ckd_image.specs.declared.shape.DeviceType.{DeviceType}
use Rattle.ckd_image.specs.declared.shape.ImageShape.{ImageShape}
use Rattle.ckd_image.specs.declared.fault.ShapeFault.{ShapeFault}
use Rattle.ckd_image.specs.declared.fault.ShapeFault.TheVariants.{NoImage}
use Rattle.ckd_image.specs.declared.fault.TrackFault.{TrackFault}
use Rattle.ckd_image.specs.Shapes.{shape_at, track_bytes, track_place}
use Rattle.ckd_image.specs.ImageTracks.{device_track_at}
use Rattle.ckd_bridge.specs.declared.stop.ImageFile.{ImageFile}
use Rattle.ckd_bridge.specs.declared.stop.Refusal.{Refusal}
use Rattle.ckd_bridge.specs.declared.stop.Refusal.TheVariants.{Image, NoTrack, Track}

-- ---- images

abbrev pub named_shape : ImageFile → Result ImageShape ShapeFault → Result ImageShape Refusal
named_shape file (Ok shape) = Ok shape
named_shape file (Err fault) = Err (Image file fault)

-- the shape of an image; a file that is shorter than a header is none
abbrev pub shape_of_image : ImageFile → (image : List ℕ) → Result ImageShape Refusal
shape_of_image file image = if nat_lt (length image) HEADER_LENGTH then Err (Image file NoImage) else named_shape file (shape_at (slice_range image 0 HEADER_LENGTH) (length image))

abbrev pub named_track : ImageFile → (number : ℕ) → Result (List Rec) TrackFault → Result (List Rec) Refusal
named_track file number (Ok recs) = Ok recs
named_track file number (Err fault) = Err (Track file number fault)

-- the records of a track of an image
abbrev pub track_of_device : ImageFile → DeviceType → (image : List ℕ) → (number : ℕ) → Result (List Rec) Refusal
track_of_device file device_type image number =
    named_track file number (device_track_at number (slice_range image (track_place device_type number) (track_place device_type number + track_bytes device_type)))

-- ---- volume devices

abbrev pub there_or : {X : Type 0} → Refusal → Option X → Result X Refusal
there_or refusal (Some x) = Ok x
there_or refusal None = Err refusal

-- the track whose image the slot begins with
abbrev pub track_of_slot : (volume : List ℕ) → (number : ℕ) → Result (List Rec) Refusal
track_of_slot volume number = there_or (NoTrack number) (track_read (image_at (slice_range volume (slot_place number) (slot_end number))))
