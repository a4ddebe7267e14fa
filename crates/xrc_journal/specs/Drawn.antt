-- Which tracks a set says to have an image among the items of a body.
use Rattle.std.specs.Prelude.{◌≡◌, ℕ, List, take, drop, false}
use Rattle.std.specs.Int.{w16, w32, from_be_bytes}
use Rattle.xrc_journal.specs.declared.drawn.DrawnTracks.{DrawnTracks}
use Rattle.xrc_journal.specs.Items.{is_drawn}

-- The set has these tracks and no others, unless it was given up.
abbrev pub AreDrawn : DrawnTracks → List (ℕ × ℕ) → Type 0
AreDrawn known drawn = known.given_up ≡ false → (device track : ℕ) → is_drawn known.tracks.keys device track ≡ is_drawn drawn device track

-- the device and the track of it at the front of fields
abbrev pub device_and_track : List ℕ → ℕ × ℕ
device_and_track fields = (from_be_bytes w16 (take 2 fields), from_be_bytes w32 (take 4 (drop 2 fields)))
