-- What the primary volumes of a controller hold: their tracks by place, and what writes make of one.
use Rattle.std.specs.Prelude.{ℕ, ◌==◌, ◌&&◌, List, [], ◌∷◌, fold, Bool, Option, unwrap_or, if◌then◌else◌}
use Rattle.std.specs.Map.{lookup}
use Rattle.ckd_track.specs.declared.rec.Rec.{Rec}
use Rattle.ckd_track.specs.declared.write.Write.{Write}
use Rattle.ckd_track.specs.Effects.{apply}
use Rattle.write_trace.specs.declared.header.VolumeHead.{VolumeHead}
use Rattle.write_trace.specs.Headers.{Base}

-- a place, which is the number of a volume and that of a track there, and what that track holds
abbrev pub PlacedTrack : Type 0
PlacedTrack = (ℕ × ℕ) × List Rec

pub record PrimaryState : Type 0 where
  pub volumes : List VolumeHead
  -- the tracks that are listed, each place once; the others are empty
  pub held : List PlacedTrack
  -- up to when the writes of the trace are in the tracks
  pub time : ℕ

abbrev pub is_place : (volume track : ℕ) → (ℕ × ℕ) → Bool
is_place volume track place = volume == place.0 && track == place.1

abbrev pub found : List PlacedTrack → (volume track : ℕ) → Option (List Rec)
found held volume track = lookup (is_place volume track) held

abbrev pub track_in : List PlacedTrack → (volume track : ℕ) → List Rec
track_in held volume track = unwrap_or (found held volume track) []

-- what a track holds
abbrev pub track_of : PrimaryState → (volume track : ℕ) → List Rec
track_of state volume track = track_in state.held volume track

-- the base track that a header lists, or the empty track
abbrev pub base_in : List Base → (volume track : ℕ) → List Rec
base_in [] volume track = []
base_in (b ∷ base) volume track = if b.0 == volume && b.1 == track then b.2 else base_in base volume track

-- a write on that track
abbrev pub is_on : (volume track : ℕ) → Write → Bool
is_on volume track w = w.volume == volume && w.track == track

-- the track after these writes
abbrev pub after_writes : List Rec → List Write → List Rec
after_writes recs writes = fold (λ recs w. apply recs w.kind) recs writes
