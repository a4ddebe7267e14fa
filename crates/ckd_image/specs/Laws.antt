-- The laws of device images: what is spelled is read again, and what is read was spelled so.
use Rattle.std.specs.Prelude.{◌≡◌, ◌≤◌, ◌<◌, ◌*◌, ℕ, List, ◌++◌, Ok, IsTrue}
use Rattle.tod_stamp.specs.Fields.{IsBytes, within}
use Rattle.xrc_edge.specs.declared.limits.TheConstants.{MOST_NARROW_CYLINDERS, TRACKS_OF_CYLINDER}
use Rattle.ckd_track.specs.declared.rec.Rec.{Rec}
use Rattle.ckd_track.specs.Tracks.{IsTrack}
use Rattle.ckd_image.specs.declared.shape.ImageShape.{ImageShape}
use Rattle.ckd_image.specs.Shapes.{header_bytes, image_length, shape_at}
use Rattle.ckd_image.specs.ImageTracks.{image_track, device_track_at}

-- What a track spells is read again, whatever stands after its end mark.
abbrev pub ImageTracksReadBack : Type 0
ImageTracksReadBack = (track : ℕ) (recs : List Rec) (rest : List ℕ) → IsTrack recs → device_track_at track (image_track track recs ++ rest) ≡ Ok recs

-- What is read is a track and was spelled so, up to what stands after its end mark.
abbrev pub ImageTracksAreSpelled : Type 0
ImageTracksAreSpelled = (track : ℕ) (bytes : List ℕ) (recs : List Rec) → IsBytes bytes → device_track_at track bytes ≡ Ok recs →
    IsTrack recs × (rest : List ℕ) × (bytes ≡ image_track track recs ++ rest)

-- What the header of a shape spells is read again as this shape.
abbrev pub HeadersOfImagesReadBack : Type 0
HeadersOfImagesReadBack = (shape : ImageShape) → IsTrue (within 1 MOST_NARROW_CYLINDERS shape.cylinders) → shape_at (header_bytes shape.device_type) (image_length shape) ≡ Ok shape
