-- Where the slot of a track lies on a volume, and the track whose image it begins with.
use Rattle.std.specs.Prelude.{ℕ, ◌+◌, ◌*◌, List, drop, Option, Some, None, Result, Ok, Err}
use Rattle.ckd_track.specs.declared.layout.TheConstants.{FIRST_SLOT, SLOT_LENGTH}
use Rattle.ckd_track.specs.declared.fault.ImageError.{ImageError}
use Rattle.ckd_track.specs.declared.rec.Rec.{Rec}
use Rattle.ckd_track.specs.Images.{image_at}

-- the place of a track's slot, after the label's block
abbrev pub slot_place : (track : ℕ) → ℕ
slot_place track = FIRST_SLOT + track * SLOT_LENGTH

-- where the slot of a track ends
abbrev pub slot_end : (track : ℕ) → ℕ
slot_end track = slot_place track + SLOT_LENGTH

abbrev pub track_read : Result (List Rec × List ℕ) ImageError → Option (List Rec)
track_read (Ok found) = Some found.0
track_read (Err bad) = None

-- the track whose image the slot begins with, or no track
abbrev pub slot_track : (volume : List ℕ) → (track : ℕ) → Option (List Rec)
slot_track volume track = track_read (image_at (drop (slot_place track) volume))
