-- Records that are counted, and the sum of the bytes of their contents.
use Rattle.std.specs.Prelude.{◌≤◌, ◌<◌, ◌^◌, ℕ, ◌+◌, ◌*◌, List, length, sum, sum_by}
use Rattle.xrc_edge.specs.declared.limits.TheConstants.{MOST_CYLINDERS, TRACKS_OF_CYLINDER}
use Rattle.ckd_track.specs.declared.layout.TheConstants.{CAPACITY}
use Rattle.ckd_track.specs.declared.rec.Rec.{Rec}
use Rattle.workload.specs.declared.tally.Tally.{Tally}

abbrev pub content_sum : Rec → ℕ
content_sum rec = sum rec.content

abbrev pub no_tally : Tally
no_tally = record { records = 0; sum = 0 }

-- with these records, too
abbrev pub with_records : Tally → List Rec → Tally
with_records tally recs = record { records = tally.records + length recs; sum = tally.sum + sum_by content_sum recs }

-- ---- how far counts go

-- No track has more records, nor contents with a greater sum: each byte is below 256.
abbrev pub most_of_track : ℕ
most_of_track = 255 * CAPACITY

-- That many tracks more may be counted.
pub record HasRoomForTracks (tracks : ℕ) (tally : Tally) : Type 0 where
  pub records : tally.records + tracks * most_of_track < 2 ^ 64
  pub sum : tally.sum + tracks * most_of_track < 2 ^ 64

-- No more than that many were counted.
pub record HasGrown (tracks : ℕ) (old new : Tally) : Type 0 where
  pub records : new.records ≤ old.records + tracks * most_of_track
  pub sum : new.sum ≤ old.sum + tracks * most_of_track

-- the tracks of the longest volume
abbrev pub most_tracks : ℕ
most_tracks = TRACKS_OF_CYLINDER * MOST_CYLINDERS
