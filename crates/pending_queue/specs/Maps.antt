-- Tracks that are put into a map, one after another.
use Rattle.std.specs.Prelude.{ℕ, List, fold, Bool}
use Rattle.change_map.specs.Sets.{with_track}

-- the set with more tracks
abbrev pub with_tracks : List Bool → (tracks : List ℕ) → List Bool
with_tracks set tracks = fold with_track set tracks
