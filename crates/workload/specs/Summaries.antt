-- The line that sums up what a run of a generated input left: how many pairs there are and how many are duplex, how many records the
-- tracks of the duplex pairs' volumes hold, the sum of the bytes of their contents, and the time that the devices mean.
use Rattle.std.specs.Prelude.{◌≡◌, ◌≤◌, ℕ, ◌*◌, List, [], ◌∷◌, ◌++◌, length, Bool, None, unwrap_or, codes, count_by, decimal, sum_by, if◌then◌else◌, IsTrue}
use Rattle.std.specs.List.{All, flat_map, range_with_len}
use Rattle.xrc_edge.specs.declared.limits.TheConstants.{TRACKS_OF_CYLINDER}
use Rattle.tod_stamp.specs.Stamps.{stamp_text}
use Rattle.ckd_track.specs.declared.rec.Rec.{Rec}
use Rattle.ckd_track.specs.SlotPlaces.{slot_track}
use Rattle.crash_plant.specs.declared.device.Device.TheVariants.{Volume}
use Rattle.crash_plant.specs.Calls.{NoneLent}
use Rattle.crash_plant.specs.NewPlants.{SameConsole, SameDevices}
use Rattle.crash_plant.specs.Moments.{PlantState}
use Rattle.pair_table.specs.declared.row.PairRow.{PairRow}
use Rattle.pair_table.specs.States.{is_duplex}
use Rattle.pair_table.specs.Tables.{are_below}
use Rattle.site_means.specs.declared.means.Means.{Means}
use Rattle.site_means.specs.Answers.{Mean, first_short}
use Rattle.site_means.specs.Images.{Images}
use Rattle.site_means.specs.Meaning.{meaning}
use Rattle.volume_label.specs.Labels.{volume_need}
use Rattle.workload.specs.declared.layout.TheConstants.{CONTROLS, WRITES}
use Rattle.workload.specs.Scripts.{generated_lines}
use Rattle.workload.specs.Tallies.{content_sum}

-- ---- what is counted

abbrev pub is_duplex_pair : PairRow → Bool
is_duplex_pair row = is_duplex row.state

-- the records of a track, as its slot on the volume holds them; none where the slot holds no track
abbrev pub slot_records : (volume : List ℕ) → (track : ℕ) → List Rec
slot_records volume track = unwrap_or (slot_track volume track) []

-- those of all tracks of a pair
abbrev pub row_records : (volume : List ℕ) → PairRow → List Rec
row_records volume row = flat_map (slot_records volume) (range_with_len 0 (TRACKS_OF_CYLINDER * row.cylinders))

-- those of a pair, if it is duplex
abbrev pub pair_records : Images → PairRow → List Rec
pair_records images row = if is_duplex_pair row then row_records (images (Volume row.device)) row else []

-- those of all pairs
abbrev pub duplex_records : Images → List PairRow → List Rec
duplex_records images rows = flat_map (pair_records images) rows

-- ---- the line

-- a word, a space and a number
abbrev pub count_text : (word : List ℕ) → (number : ℕ) → List ℕ
count_text word number = word ++ 32 ∷ decimal number

-- the line of these counts: the number of the input; the pairs; the duplex ones; records and the sum of their bytes; and the time
abbrev pub counts_line : (number pairs duplex records sum time : ℕ) → List ℕ
counts_line number pairs duplex records sum time =
    count_text (codes "GENERATE") number ++ count_text (codes " LINES") (length generated_lines) ++ count_text (codes " PAIRS") pairs
    ++ count_text (codes " WRITES") (CONTROLS * WRITES) ++ count_text (codes " DUPLEX") duplex ++ count_text (codes " RECORDS") records
    ++ count_text (codes " SUM") sum ++ codes " T=" ++ stamp_text time ++ 10 ∷ []

-- the line of what these images mean and hold
abbrev pub summary_line : (number : ℕ) → Images → Means → List ℕ
summary_line number images means =
    let rows = means.table.rows in
    let recs = duplex_records images rows in
    counts_line number (length rows) (count_by is_duplex_pair rows) (length recs) (sum_by content_sum recs) means.time.0

-- ---- when it may be told

-- A pair's volume is long enough for the slots of its tracks.
abbrev pub HasTracks : PlantState → PairRow → Type 0
HasTracks plant row = volume_need row.cylinders ≤ plant.lengths (Volume row.device)

-- No volume is lent, the rows name the plant's devices, and each duplex pair's volume is long enough.
pub record HaveTracks (plant : PlantState) (rows : List PairRow) : Type 0 where
  pub home : NoneLent plant
  pub below : IsTrue (are_below plant.volumes rows)
  pub each : All (λ row. IsTrue (is_duplex_pair row) → HasTracks plant row) rows

-- No volume is lent; the control, the state and the journals are long enough; and the devices mean something, by which each duplex
-- pair's volume is long enough.
pub record MayBeSummedUp (plant : PlantState) : Type 0 where
  pub home : NoneLent plant
  pub long : first_short plant ≡ None
  pub means : Means
  pub meant : Mean (meaning plant plant.bytes) means
  pub each : All (λ row. IsTrue (is_duplex_pair row) → HasTracks plant row) means.table.rows

-- ---- what it leaves

-- All devices and the console are as they were.
pub record LeavesAsItWas (old new : PlantState) : Type 0 where
  pub devices : SameDevices old new
  pub console : SameConsole old new
