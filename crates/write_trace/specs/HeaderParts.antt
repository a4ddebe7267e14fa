-- The parts of a header as they are read one after another: its head, and then each base track.
use Rattle.std.specs.Prelude.{ℕ, List, [], ◌∷◌, sum_by, Result, Ok, nat_le}
use Rattle.xrc_edge.specs.declared.limits.TheConstants.{MOST_CONTROL_VOLUMES}
use Rattle.std.specs.Int.{w16, w32}
use Rattle.tod_stamp.specs.Fields.{◌>>=◌, Left, Bad, number_at, within}
use Rattle.write_trace.specs.declared.header.VolumeHead.{VolumeHead}
use Rattle.write_trace.specs.Headers.{tracks_of, version_at, volumes_at}

-- the serials of volumes in front of those that were seen before, the newest first
abbrev pub seen_after : List (List ℕ) → List VolumeHead → List (List ℕ)
seen_after seen [] = seen
seen_after seen (v ∷ volumes) = seen_after (v.serial ∷ seen) volumes

-- the head of a header: the version by its mark, the volumes, and the number of base tracks
unfoldable pub header_front_at : Left → Result ((ℕ × List VolumeHead × ℕ) × Left) Bad
header_front_at left = do
  version ← version_at left
  count ← number_at w16 (within 1 MOST_CONTROL_VOLUMES) version.1
  volumes ← volumes_at version.0 count.0 [] count.1
  many ← number_at w32 (λ n. nat_le n (sum_by tracks_of volumes.0)) volumes.1
  Ok ((version.0, volumes.0, many.0), many.1)
