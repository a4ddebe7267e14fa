-- A mark: the site after it, the deed that it is, and what is written for it.
use Rattle.std.specs.Prelude.{◌≡◌, ◌≢◌, ◌<◌, ◌-◌, ◌^◌, ◌≤◌, ◌⊎◌, ◌↔◌, ℕ, ◌||◌, cond, List, [], ◌∷◌, Bool, true, false, Some, Ok, Err, Result, OnOk, IsErrOf, IsTrue, slice_index_or}
use Rattle.std.specs.List.{Contains, list_any}
use Rattle.crash_plant.specs.declared.layout.TheConstants.{CONTROL_LENGTH, STATE_LENGTH}
use Rattle.crash_plant.specs.declared.device.Device.{Device}
use Rattle.crash_plant.specs.declared.device.Device.TheVariants.{Control, State, Journal, Volume}
use Rattle.crash_plant.specs.Calls.{WorksOn}
use Rattle.crash_plant.specs.Choices.{AllFollow, Choice}
use Rattle.crash_plant.specs.Moments.{Follows, IsDurable, PlantState, Same, on}
use Rattle.control_set.specs.declared.value.Mark.{Mark}
use Rattle.control_set.specs.Marks.{IsMark}
use Rattle.control_set.specs.Slots.{IsNext, chosen_mark, lengths_of}
use Rattle.state_set.specs.Slots.{Stored, state_of}
use Rattle.xrc_journal.specs.Contents.{is_of_track}
use Rattle.pair_table.specs.declared.level.Level.{Level}
use Rattle.pair_table.specs.declared.row.PairRow.{PairRow}
use Rattle.pair_table.specs.declared.row.PairState.TheVariants.{Duplex}
use Rattle.pair_table.specs.Tables.{Table, are_below, with_rows}
use Rattle.site_store.specs.declared.store_error.StoreError.{StoreError}
use Rattle.site_store.specs.declared.store_error.StoreError.TheVariants.{Spent}
use Rattle.site_store.specs.Sites.{SiteState, has_failed, is_written}
use Rattle.site_store.specs.Jobs.{has_device}
use Rattle.site_store.specs.Standing.{SiteStands, StandsFast}
use Rattle.site_store.specs.DoneDeeds.{BeginsDeeds, DoesDeeds}
use Rattle.site_store.specs.Exceptions.{Exceptions}
use Rattle.record_rows.specs.Deeds.Deed.{Marked}
use Rattle.site_store.specs.Records.{VolumesStay, after_mark}
use Rattle.record_rows.specs.Records.{rows_with_hits}
use Rattle.site_store.specs.Placements.{is_mark_spent}

-- A mark may be made: no change waits to be logged, and no item waits for the device of a duplex row.
pub record MayMark (tells : Type 0) (site : SiteState) (plant : PlantState) : Type 0 where
  pub fast : StandsFast tells site plant
  pub level : site.is_ahead ≡ false
  pub idle : (row : PairRow) → Contains site.told row → row.state ≡ Duplex → has_device row.device site.waiting ≡ false

-- A track for which an item waits is excepted too: its item isn't applied before the mark.
abbrev pub excepted_with_waiting : SiteState → Exceptions → Exceptions
excepted_with_waiting site excepted d x = excepted d x || list_any (is_of_track d x) site.waiting

-- the rows of a mark once these jobs have failed: those on the devices with the hits, and with the rows that these reach
abbrev pub rows_at_mark : (reach : Level) → SiteState → (failed : List Bool) → List PairRow
rows_at_mark reach site failed = rows_with_hits reach site.time failed site.told

-- the site after the next mark with these rows: a change that waits to be logged waits on, and its table stays ahead of them
abbrev pub after_next_mark : (ended : Bool) → (rows : List PairRow) → (failed : List Bool) → SiteState → SiteState
after_next_mark ended rows failed site = record (after_mark ended rows failed site) { table = cond site.is_ahead site.table (with_rows site.table rows); is_ahead = site.is_ahead }

-- A mark with these rows is the next deed.
pub record MakesMark (tells : Type 0) (ended : Bool) (rows : List PairRow) (site next : SiteState) (old new : PlantState) (result : Result (Unit {0}) StoreError) : Type 0 where
  pub begins : tells → (e : Exceptions) → SiteStands e site old
      → BeginsDeeds (excepted_with_waiting site e) site.told (Marked site.at ended rows ∷ []) old new
  pub does : tells
      → OnOk result ((e : Exceptions) → SiteStands e site old → DoesDeeds (excepted_with_waiting site e) site.told (Marked site.at ended rows ∷ []) old new)
  -- The volumes stay as they are, and those that were written and whose job hasn't failed are synced.
  pub volumes : VolumesStay tells old new
  pub durable : tells → OnOk result ((d : ℕ) → is_written site d ≡ true → has_failed next d ≡ false → IsDurable (on new (Volume d)))

-- The mark's rows tell the hits of all jobs that have failed by then.
abbrev pub DoesMark : (tells : Type 0) → (site next : SiteState) → (ended : Bool) → (old new : PlantState) → Result (Unit {0}) StoreError → Type 0
DoesMark tells site next ended old new result = MakesMark tells ended (rows_at_mark site.level site next.failed) site next old new result

-- After Ok the mark counts, and its rows tell the hits of all jobs that have failed by then, those of its own syncs among them. The
-- numbers are spent where the mark that counts has the last one; nothing is called then.
pub record Marks {P : Type 0} (site next : SiteState) (ended : Bool) (was is : P) (result : Result (Unit {0}) StoreError) : Type 0 where
  pub next_is : OnOk result (next ≡ after_mark ended (rows_at_mark site.level site next.failed) next.failed site)
  pub spent : IsErrOf result Spent ↔ (is_mark_spent site ≡ true)
  pub nothing : IsErrOf result Spent → (next ≡ site) × (is ≡ was)

-- A mark may be put at the site's spot: its number isn't spent, and each volume that was written and whose job hasn't failed is synced.
pub record MayPutMark (tells : Type 0) (site : SiteState) (plant : PlantState) : Type 0 where
  pub fast : StandsFast tells site plant
  pub idle : (row : PairRow) → Contains site.told row → row.state ≡ Duplex → has_device row.device site.waiting ≡ false
  pub number : site.mark.number < 2 ^ 64 - 2
  pub synced : tells → (d : ℕ) → is_written site d ≡ true → has_failed site d ≡ false → IsDurable (on plant (Volume d))

-- A mark may be written after its state with these rows, which it names by their session.
pub record MayWriteMark (tells : Type 0) (mark : Mark) (table : Table) (plant : PlantState) : Type 0 where
  pub control : CONTROL_LENGTH ≤ plant.lengths Control
  pub state : STATE_LENGTH ≤ plant.lengths State
  pub devices : IsTrue (are_below plant.volumes table.rows)
  pub keeps : IsMark (lengths_of plant) mark
  pub session : mark.session ≡ table.session
  pub next : tells → IsNext (chosen_mark (lengths_of plant) (plant.bytes Control)) mark.number
  pub durable : tells → IsDurable (on plant Control)

-- ---- what is written

-- the devices on which a mark is written
abbrev pub IsMarked : Device → Type 0
IsMarked Control = Unit {0}
IsMarked State = Unit {0}
IsMarked (Journal j) = ⊥
IsMarked (Volume v) = ⊥

-- While a mark is put after its state, the chosen mark is as it was, or is the new one and its slot of the state holds what was put
-- there. The other slot of the state, and all other devices, are as they were.
pub record PutsMark (lengths : List ℕ) (volumes : ℕ) (mark : Mark) (stored : Stored) (b c : Choice) : Type 0 where
  pub chosen : (chosen_mark lengths (c Control) ≡ chosen_mark lengths (b Control)) ⊎ ((chosen_mark lengths (c Control) ≡ Ok (Some mark)) × (state_of volumes mark.session mark.state_slot (c State) ≡ Ok stored))
  pub state : (session : List ℕ) (slot : ℕ) → slot ≤ 1 → slot ≢ mark.state_slot → state_of volumes session slot (c State) ≡ state_of volumes session slot (b State)
  pub others : (d : Device) → ¬ IsMarked d → c d ≡ b d

-- So it is at every moment of calls.
abbrev pub AllPutMark : Mark → Stored → (old new : PlantState) → Type 0
AllPutMark mark stored old new = AllFollow (PutsMark (lengths_of old) old.volumes mark stored) old new

-- a volume that is written by this list
abbrev pub IsAmong : (written : List Bool) → Device → Type 0
IsAmong written Control = ⊥
IsAmong written State = ⊥
IsAmong written (Journal j) = ⊥
IsAmong written (Volume v) = slice_index_or written v false ≡ true

-- Calls sync devices among these, and do nothing else: what reads give stays, and a crash leaves nothing that it couldn't leave before.
pub record Syncs (tells : Type 0) (among : Device → Type 0) (old new : PlantState) : Type 0 where
  pub same : tells → (d : Device) → new.bytes d ≡ old.bytes d
  pub moments : tells → (d : Device) → Follows Same (on old d) (on new d)
  pub only : WorksOn tells among old new

-- The mark counts, and its slot of the state holds what was put there, whatever a crash leaves.
pub record MarkIsPut (mark : Mark) (stored : Stored) (plant : PlantState) : Type 0 where
  pub chosen : chosen_mark (lengths_of plant) (plant.bytes Control) ≡ Ok (Some mark)
  pub holds : state_of plant.volumes mark.session mark.state_slot (plant.bytes State) ≡ Ok stored
  pub control : IsDurable (on plant Control)
  pub state : IsDurable (on plant State)

-- an answer without its value
abbrev pub unit_of : {T : Type 0} → Result T StoreError → Result (Unit {0}) StoreError
unit_of (Ok value) = Ok tt
unit_of (Err error) = Err error
