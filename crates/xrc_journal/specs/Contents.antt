-- The tracks of which items are, and the content of a track, changed by items in turn.
use Rattle.std.specs.Prelude.{ℕ, ◌==◌, ◌&&◌, List, [], fold, Bool, false, Option, Some, unwrap_or, IsTrue, if◌then◌else◌}
use Rattle.std.specs.List.{list_any}
use Rattle.ckd_track.specs.declared.rec.Rec.{Rec}
use Rattle.ckd_track.specs.Effects.{apply}
use Rattle.xrc_journal.specs.Items.{Item}
use Rattle.xrc_journal.specs.Items.Item.{Image, Delta, Pair, Gone}

-- whether an item is of a device's track
abbrev pub is_of_track : (device track : ℕ) → Item → Bool
is_of_track device track (Image d x recs) = d == device && x == track
is_of_track device track (Delta d x kind) = d == device && x == track
is_of_track device track (Pair version row) = false
is_of_track device track (Gone d) = false

-- Some item is of this track of the device.
abbrev pub HasItem : (device track : ℕ) → List Item → Type 0
HasItem device track items = IsTrue (list_any (is_of_track device track) items)

-- What an item leaves of a device's track: an image sets it, and a change applies to it, or to the empty track where there is none.
abbrev pub content_by : (device track : ℕ) → Option (List Rec) → Item → Option (List Rec)
content_by device track old (Image d x recs) = if d == device && x == track then Some recs else old
content_by device track old (Delta d x kind) = if d == device && x == track then Some (apply (unwrap_or old []) kind) else old
content_by device track old (Pair version row) = old
content_by device track old (Gone d) = old

-- what items in turn leave of it
abbrev pub content_through : (device track : ℕ) → List Item → Option (List Rec) → Option (List Rec)
content_through device track items old = fold (content_by device track) old items
