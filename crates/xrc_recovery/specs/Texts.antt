-- What is said of a site that was recovered, advanced or copied: a line of the session and the time, and one line of each pair in the order
-- of the rows. And what is said of a pair that lacks a target.
use Rattle.std.specs.Prelude.{ℕ, List, [], ◌∷◌, ◌++◌, Bool, true, false, codes}
use Rattle.tod_stamp.specs.Stamps.{stamp_text}
use Rattle.crash_plant.specs.declared.device.Device.TheVariants.{Volume}
use Rattle.pair_table.specs.declared.row.PairState.{PairState}
use Rattle.pair_table.specs.declared.row.PairState.TheVariants.{Pending, Copy, Duplex, Suspended}
use Rattle.pair_table.specs.declared.row.PairRow.{PairRow}
use Rattle.pair_table.specs.Devices.{is_among}
use Rattle.pair_table.specs.States.{cause_word}
use Rattle.xrecover.specs.declared.labelling.Labelling.{Labelling}
use Rattle.xrecover.specs.declared.labelling.Labelling.TheVariants.{AsPrimary, AsItIs}
use Rattle.xrc_status.specs.Stops.{device_text, status_line}

-- A site whose labels stay is advanced.
abbrev pub site_word : Labelling → List ℕ
site_word AsPrimary = codes "RECOVERED "
site_word AsItIs = codes "ADVANCED "

abbrev pub copy_word : List ℕ
copy_word = codes "COPIED "

-- Each line ends with a line feed.
abbrev pub site_line : (word session : List ℕ) → (time : ℕ) → List ℕ
site_line word session time = word ++ session ++ codes " T=" ++ stamp_text time ++ 10 ∷ []

-- how far a pair is; a duplex pair whose volume failed, or its target, has another word
abbrev pub state_text : (has_failed : Bool) → PairState → List ℕ
state_text has_failed Pending = codes "PENDING"
state_text has_failed Copy = codes "COPY"
state_text false Duplex = codes "DUPLEX"
state_text true Duplex = codes "FAULT"
state_text has_failed (Suspended cause since) = codes "SUSPENDED " ++ cause_word cause ++ codes " SINCE " ++ stamp_text since.0

abbrev pub pair_line : (failed : List ℕ) → PairRow → List ℕ
pair_line failed row = codes "PAIR " ++ row.primary ++ codes " " ++ row.secondary ++ codes " " ++ state_text (is_among row.device failed) row.state ++ 10 ∷ []

abbrev pub pair_lines : (failed : List ℕ) → List PairRow → List ℕ
pair_lines failed [] = []
pair_lines failed (row ∷ rows) = pair_line failed row ++ pair_lines failed rows

abbrev pub site_text : (word session : List ℕ) → (time : ℕ) → List PairRow → (failed : List ℕ) → List ℕ
site_text word session time rows failed = site_line word session time ++ pair_lines failed rows

abbrev pub recovered_text : Labelling → (session : List ℕ) → (time : ℕ) → List PairRow → (failed : List ℕ) → List ℕ
recovered_text labelling = site_text (site_word labelling)

abbrev pub copied_text : (session : List ℕ) → (time : ℕ) → List PairRow → (failed : List ℕ) → List ℕ
copied_text = site_text copy_word

-- ---- no target

-- A copy that lacks a target ends with a status of its own, and its line names the volume that has none.
abbrev pub no_target_status : ℕ
no_target_status = 26

abbrev pub no_target_line : (device : ℕ) → List ℕ
no_target_line device = status_line no_target_status (device_text (Volume device))
