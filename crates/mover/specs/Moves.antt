-- What the mover does: the deeds of its site, kept of its calls, and what it knows of rows.
use Rattle.std.specs.Prelude.{◌≡◌, ◌⊎◌, ℕ, ◌+◌, ◌-◌, ◌*◌, ◌^◌, ◌<◌, ◌≤◌, ◌==◌, ◌&&◌, ◌||◌, not, if◌then◌else◌, List, [], ◌∷◌, ◌++◌, length, map, Bool, true, false, find, slice_index_or, Option, Some, None, Result, OnOk, IsErrOf, IsSomeAnd, IsTrue}
use Rattle.std.specs.List.{All, Contains, list_all, list_any}
use Rattle.xrc_edge.specs.declared.limits.TheConstants.{TRACKS_OF_CYLINDER}
use Rattle.tod_stamp.specs.declared.stamp.Stamp.{Stamp}
use Rattle.ckd_track.specs.declared.write.Cause.{Cause}
use Rattle.crash_plant.specs.declared.device.Device.{Device}
use Rattle.crash_plant.specs.declared.device.Device.TheVariants.{Volume}
use Rattle.crash_plant.specs.Moments.{PlantState}
use Rattle.pair_table.specs.declared.row.PairRow.{PairRow}
use Rattle.pair_table.specs.declared.row.PairState.{PairState}
use Rattle.pair_table.specs.declared.row.PairState.TheVariants.{Duplex}
use Rattle.pair_table.specs.Devices.{is_among}
use Rattle.pair_table.specs.Rows.{is_suspended}
use Rattle.pair_table.specs.Tables.{in_state, with_rows}
use Rattle.group_state.specs.Groups.{Shown}
use Rattle.group_state.specs.Runs.{Answer, shown_by}
use Rattle.record_rows.specs.Deeds.{Deed, rows_after_deeds, rows_by_deed, time_meant_after}
use Rattle.record_rows.specs.Deeds.Deed.{Logged, Changed, Marked}
use Rattle.record_rows.specs.Hits.{hit_now}
use Rattle.pair_table.specs.States.{is_device_suspended}
use Rattle.record_rows.specs.ToldRows.{InPlaces}
use Rattle.row_changes.specs.Changes.Due.{NoneDue}
use Rattle.row_changes.specs.Spans.{hit_count}
use Rattle.site_store.specs.DeedChanges.{AreByChanges, DeedOfChanges, changes_of, deeds_of}
use Rattle.site_store.specs.DoneDeeds.{BeginsDeeds, DoesDeeds}
use Rattle.site_store.specs.Exceptions.{Exceptions, excepted_after}
use Rattle.fed_logs.specs.Moves.{AreEntriesLive, AreQuiet, HasRowIn, IsDuplex, Plans, MakesDeeds, MakesAllDeeds, is_mark_due_after}
use Rattle.turn_group.specs.Calls.{MadeCall, as_answer}
use Rattle.turn_group.specs.Notes.{KnownVolume}
use Rattle.turn_group.specs.Seats.{MoverSeatState}
use Rattle.site_store.specs.declared.store_error.StoreError.{StoreError}
use Rattle.site_store.specs.declared.store_error.StoreError.TheVariants.{Spent}
use Rattle.applier.specs.Returns.{WorksOnLent}
use Rattle.site_store.specs.Applying.{excepted_by_apply}
use Rattle.site_store.specs.Causes.{FailByCounts, HasStoreCause}
use Rattle.site_store.specs.Jobs.{has_device}
use Rattle.site_store.specs.Records.{IsStore}
use Rattle.site_store.specs.Sites.{SiteState, is_written}
pub use Rattle.site_store.specs.Sites.{is_mark_due}
use Rattle.site_store.specs.Standing.{MayRecord, SiteStands, StandsFast}
use Rattle.mover.specs.Dropping.{AreOfControls, OwesExactly}
use Rattle.mover.specs.Groups.{is_at_limit}
use Rattle.mover.specs.Numbers.{IsSiteSpent}
use Rattle.mover.specs.Slots.{WritesSlots}
use Rattle.mover.specs.Steps.{AreMade}

-- ---- rows and volumes

abbrev pub is_row_of_volume : (control volume : ℕ) → PairRow → Bool
is_row_of_volume k v r = r.control == k && r.volume == v

-- the row of a controller's volume, where there is one
abbrev pub row_of_volume : (control volume : ℕ) → List PairRow → Option PairRow
row_of_volume k v rows = find (is_row_of_volume k v) rows

-- A volume is that of a row which isn't suspended, and of the row's tracks.
abbrev pub IsOfLive : (control : ℕ) → KnownVolume → PairRow → Type 0
IsOfLive k u r = (is_suspended r.state ≡ false) × (u.tracks ≡ TRACKS_OF_CYLINDER * r.cylinders)

-- The pair of a row stays. A suspended row stays as it is unless its own device suspends it. A duplex row stays duplex unless it is suspended.
pub record KeepsPair (r s : PairRow) : Type 0 where
  pub same : s ≡ in_state s.state r
  pub live : is_suspended s.state ≡ false → is_suspended r.state ≡ false
  pub gone : IsTrue (is_suspended r.state) → (s.state ≡ r.state) ⊎ IsTrue (is_device_suspended s.state)
  pub duplex : r.state ≡ Duplex → is_suspended s.state ≡ false → s.state ≡ Duplex

-- So it is of the row in each place.
abbrev pub KeepPairs : (rows next : List PairRow) → Type 0
KeepPairs = InPlaces KeepsPair

-- The pair of a row stays, and its state too unless the row is suspended: by its own device, if it was suspended before.
pub record Fades (r s : PairRow) : Type 0 where
  pub same : s ≡ in_state s.state r
  pub fades : (s.state ≡ r.state) ⊎ IsTrue (is_suspended s.state)
  pub gone : IsTrue (is_suspended r.state) → (s.state ≡ r.state) ⊎ IsTrue (is_device_suspended s.state)

-- A relation holds between each row before a deed and the one in its place after it, for each of these deeds.
abbrev pub InPlacesByDeeds : (is : PairRow → PairRow → Type 0) → List PairRow → List Deed → Type 0
InPlacesByDeeds is rows [] = Unit {0}
InPlacesByDeeds is rows (deed ∷ deeds) = InPlaces is rows (rows_by_deed deed) × InPlacesByDeeds is (rows_by_deed deed) deeds

-- the volumes of a controller that are known
abbrev pub known_at_control : (control : ℕ) → List (List KnownVolume) → List KnownVolume
known_at_control k known = slice_index_or known k []

abbrev pub names_number : (volume : ℕ) → KnownVolume → Bool
names_number v u = u.number == v

abbrev pub is_carried_as : (volume : ℕ) → KnownVolume → Bool
is_carried_as v u = u.number == v && u.carried

abbrev pub are_numbers_distinct : List KnownVolume → Bool
are_numbers_distinct [] = true
are_numbers_distinct (u ∷ known) = not (list_any (names_number u.number) known) && are_numbers_distinct known

-- The rows that aren't suspended are those of the carried volumes. Each row's controller is known.
pub record KnowsRows (known : List (List KnownVolume)) (rows : List PairRow) : Type 0 where
  pub controls : AreOfControls (length known) rows
  pub distinct : (k : ℕ) → IsTrue (are_numbers_distinct (known_at_control k known))
  pub live : (k : ℕ) (u : KnownVolume) → Contains (known_at_control k known) u → IsTrue u.carried → IsSomeAnd (row_of_volume k u.number rows) (IsOfLive k u)
  pub carried : (r : PairRow) → Contains rows r → is_suspended r.state ≡ false → IsTrue (list_any (is_carried_as r.volume) (known_at_control r.control known))

-- The last cut is the time that is meant; but while a session starts, which has no rows yet, the cut may be below it.
pub record IsInStep (last time : ℕ) (rows : List PairRow) : Type 0 where
  pub up : last ≤ time
  pub same : (rows ≡ []) ⊎ (last ≡ time)

-- ---- the mover's seat

-- It stays at its table, with the same controllers.
pub record IsStillAt (old new : MoverSeatState) : Type 0 where
  pub here : new.table ≡ old.table
  pub begun : new.first ≡ old.first
  pub all : new.seats ≡ old.seats
  pub controls : length new.known ≡ length old.known

-- If each form took a limit before, each has then.
abbrev pub KeepsLimit : (limit : ℕ) → (seat next : MoverSeatState) → Type 0
KeepsLimit limit seat next = IsTrue (list_all (is_at_limit limit) (map as_answer seat.calls)) → IsTrue (list_all (is_at_limit limit) (map as_answer next.calls))

-- ---- when the mover may go on

-- What it knows stands to the site as its part of a round asks, and each failure of a volume with a row was told.
pub record KnowsSite (limit : ℕ) (seat : MoverSeatState) (site : SiteState) : Type 0 where
  pub rows : KnowsRows seat.known site.told
  pub controls : length seat.known ≤ site.controls
  pub in_step : IsInStep seat.last.0 site.time site.told
  pub below : site.time ≤ limit
  pub told : hit_now site.failed site.told ≡ []

-- Before a round: every item of the site was applied, and no group was logged since the last mark.
pub record MayMove (tells : Type 0) (limit : ℕ) (seat : MoverSeatState) (site : SiteState) (plant : PlantState) : Type 0 where
  pub rests : MayRecord tells site plant
  pub marked : site.since ≡ 0
  pub knows : KnowsSite limit seat site

-- In a round: items of the site may wait.
pub record MaySettle (tells : Type 0) (limit : ℕ) (seat : MoverSeatState) (site : SiteState) (plant : PlantState) : Type 0 where
  pub fast : StandsFast tells site plant
  pub level : site.is_ahead ≡ false
  pub knows : KnowsSite limit seat site

-- After Ok the next round may come, up to the same limit.
abbrev pub SettlesFor : (tells : Type 0) → (seat next : MoverSeatState) → (site after : SiteState) → (old new : PlantState) → Result (Unit {0}) StoreError
    → Type 0
SettlesFor tells seat next site after old new result = (limit : ℕ) → MaySettle tells limit seat site old → OnOk result (MayMove tells limit next after new)

-- ---- deeds

-- What is meant of a site after calls is what deeds leave. Its table is another in its rows alone.
pub record IsLeftAfter (site next : SiteState) (deeds : List Deed) : Type 0 where
  pub level : next.level ≡ site.level
  pub controls : next.controls ≡ site.controls
  pub table : next.table ≡ with_rows site.table next.table.rows
  pub rows : next.told ≡ rows_after_deeds deeds site.told
  pub time : next.time ≡ time_meant_after deeds site.time

-- Calls of a site did deeds, and every crash now leaves the site. Tracks may be excepted at first, but for those of which an image waits to
-- be applied. None is excepted then that the deeds don't except, and of which no image waits.
pub record Did (excepted : Exceptions) (site next : SiteState) (deeds : List Deed) (old new : PlantState) : Type 0 where
  pub does : DoesDeeds (excepted_by_apply site excepted) site.told deeds old new
  pub still : Exceptions
  pub stands : SiteStands still next new
  pub fewer : (d x : ℕ) → excepted_after site.told deeds (excepted_by_apply site excepted) d x ≡ false → excepted_by_apply next still d x ≡ false

-- At every moment of calls of a site the first of the deeds are seen, whatever tracks are excepted at first. After Ok all of them are done.
abbrev pub BeginsAll : (site : SiteState) → List Deed → (old new : PlantState) → Type 0
BeginsAll site deeds old new = (excepted : Exceptions) → SiteStands excepted site old → BeginsDeeds (excepted_by_apply site excepted) site.told deeds old new

abbrev pub DidAll : (site next : SiteState) → List Deed → (old new : PlantState) → Type 0
DidAll site next deeds old new = (excepted : Exceptions) → SiteStands excepted site old → Did excepted site next deeds old new

-- The session goes on by its mark, if it did before.
abbrev pub SessionGoesOn : (site next : SiteState) → Type 0
SessionGoesOn site next = site.mark.ended ≡ false → next.mark.ended ≡ false

-- A group may have entries of a row that is live just before its record, or that its own device has suspended there.
abbrev pub MayHaveEntries : PairState → Type 0
MayHaveEntries state = (is_suspended state ≡ false) ⊎ IsTrue (is_device_suspended state)

-- The entries of each group are of such rows.
abbrev pub LogsEntriesOf : List PairRow → List Deed → Type 0
LogsEntriesOf rows [] = Unit {0}
LogsEntriesOf rows (Logged cut entries next ∷ deeds) = All (λ e. HasRowIn MayHaveEntries e.head.control e.head.volume rows) entries × LogsEntriesOf next deeds
LogsEntriesOf rows (Changed at next ∷ deeds) = LogsEntriesOf next deeds
LogsEntriesOf rows (Marked spot ended next ∷ deeds) = LogsEntriesOf next deeds

-- Plans of duplex rows are known to be done.
abbrev pub KnowsDuplex : List PairRow → Plans → Type 0
KnowsDuplex rows done = (k v : ℕ) → HasRowIn IsDuplex k v rows → IsTrue (done k v)

-- All calls were kept, and what is known of plans stands to the rows again.
pub record KeepsAll (site next : SiteState) (done : Plans) (answers : List Answer) (deeds : List Deed) : Type 0 where
  pub known : Plans
  pub makes : MakesAllDeeds site.time site.told done answers deeds next.time next.told known
  pub knows : KnowsDuplex next.told known

-- What was kept of the calls, and of all calls.
abbrev pub Makes : (site : SiteState) → List Answer → List Deed → Type 0
Makes site answers deeds = (done : Plans) → KnowsDuplex site.told done → MakesDeeds site.time site.told done answers deeds

abbrev pub MakesAll : (site next : SiteState) → List Answer → List Deed → Type 0
MakesAll site next answers deeds = (done : Plans) → KnowsDuplex site.told done → KeepsAll site next done answers deeds

-- Each break that a form shows has the form's cut as its time.
abbrev pub is_broken_at : (cut : ℕ) → (ℕ × Stamp × Cause) → Bool
is_broken_at cut b = b.1.0 == cut

abbrev pub shows_at_cut : Option Shown → Bool
shows_at_cut None = true
shows_at_cut (Some shown) = list_all (is_broken_at shown.cut.0) shown.breaks

abbrev pub is_shown_at_cut : Answer → Bool
is_shown_at_cut answer = shows_at_cut (shown_by answer.reply)

abbrev pub are_shown_at_cuts : List Answer → Bool
are_shown_at_cuts answers = list_all is_shown_at_cut answers

-- a count that stands at its end: a fault raises it no more
abbrev pub most_faults : ℕ
most_faults = 2 ^ 64 - 1

-- A device is hit at most as often as its count of faults rose, unless the count stands at its end.
abbrev pub AreHitsCounted : List DeedOfChanges → (old new : PlantState) → Type 0
AreHitsCounted steps old new = (d : ℕ) → new.faults (Volume d) < most_faults → hit_count d (changes_of steps) + old.faults (Volume d) ≤ new.faults (Volume d)

-- The mover's calls, and the deeds of its site with the changes of rows that they make. The deeds are what was kept of the calls, in order. So
-- the groups with an entry that were logged are the first of those that the forms gave, and after Ok all of them.
--   changes: each row is changed at the time that is meant, if each break that a form showed is
--   made: each deed is a record or a mark that tells failures, or the record of a group that a form showed, and at the end nothing is due
--   going: the session goes on by the mark
--   pairs: each deed keeps each row's pair
--   live: each group's entries are of rows that were live when it was formed, by the mark that was due before, too
--   entries: none of these is suspended just before its record but by its own device
--   is_left, owed: after Ok the site is what the deeds leave, and the volume of each row was dropped exactly for what it owes more
--   due: after Ok a mark is due exactly if one is due after the deeds
--   begins: at every moment the first of the deeds are seen, from each track that isn't excepted
--   did: after Ok all of them are done
pub record Moved (tells : Type 0) (seat next : MoverSeatState) (site after : SiteState) (old new : PlantState) (result : Result (Unit {0}) StoreError) : Type 0 where
  pub gained : List MadeCall
  pub calls : next.calls ≡ seat.calls ++ gained
  pub steps : List DeedOfChanges
  pub changes : IsTrue (are_shown_at_cuts (map as_answer gained)) → AreByChanges site.level site.time site.told steps
  pub made : site.mark.ended ≡ false → AreMade site.level false (map as_answer gained) site.time site.told NoneDue steps NoneDue
  pub going : OnOk result (SessionGoesOn site after)
  pub pairs : InPlacesByDeeds KeepsPair site.told (deeds_of steps)
  pub counted : AreHitsCounted steps old new
  pub live : AreEntriesLive (is_mark_due site) site.told (deeds_of steps)
  pub entries : LogsEntriesOf site.told (deeds_of steps)
  pub makes : Makes site (map as_answer gained) (deeds_of steps)
  pub all : OnOk result (MakesAll site after (map as_answer gained) (deeds_of steps))
  pub is_left : OnOk result (IsLeftAfter site after (deeds_of steps))
  pub owed : OnOk result (OwesExactly site.told after.told (map as_answer gained) (deeds_of steps))
  pub due : OnOk result (is_mark_due after ≡ is_mark_due_after (is_mark_due site) (deeds_of steps))
  pub begins : tells → BeginsAll site (deeds_of steps) old new
  pub did : tells → OnOk result (DidAll site after (deeds_of steps) old new)

-- how many hits of a device no record and no mark has told yet
abbrev pub untold_hits : SiteState → (device : ℕ) → ℕ
untold_hits site d = if is_among d (hit_now site.failed site.told) then 1 else 0

abbrev pub none_untold : (device : ℕ) → ℕ
none_untold d = 0

-- The same with the hits that weren't told before, and without those that aren't told yet.
abbrev pub AreHitsToldBy : SiteState → List DeedOfChanges → (left : (device : ℕ) → ℕ) → (old new : PlantState) → Type 0
AreHitsToldBy site steps left old new =
    (d : ℕ) → new.faults (Volume d) < most_faults → hit_count d (changes_of steps) + old.faults (Volume d) + left d ≤ new.faults (Volume d) + untold_hits site d

-- The rows after quiet deeds, whose time is the one before them.
pub record IsQuiet (site after : SiteState) (deeds : List Deed) : Type 0 where
  pub suspends : AreQuiet site.time site.told deeds after.told
  pub time : after.time ≡ site.time
  pub still : KeepPairs site.told after.told

-- The deeds of a site between two calls of the mover: they are quiet, and no call is made.
pub record SiteMoved (tells : Type 0) (site after : SiteState) (old new : PlantState) (result : Result (Unit {0}) StoreError) : Type 0 where
  pub steps : List DeedOfChanges
  pub changes : AreByChanges site.level site.time site.told steps
  pub made : site.mark.ended ≡ false → (answers : List Answer) → AreMade site.level false answers site.time site.told NoneDue steps NoneDue
  pub going : OnOk result (SessionGoesOn site after)
  pub fades : InPlacesByDeeds Fades site.told (deeds_of steps)
  pub later : (d : ℕ) → old.faults (Volume d) ≤ new.faults (Volume d)
  pub counted : AreHitsToldBy site steps none_untold old new
  pub counted_all : OnOk result (AreHitsToldBy site steps (untold_hits after) old new)
  pub quiet : (next : List PairRow) × AreQuiet site.time site.told (deeds_of steps) next
  pub all : OnOk result (IsQuiet site after (deeds_of steps))
  pub is_left : OnOk result (IsLeftAfter site after (deeds_of steps))
  pub due : OnOk result (is_mark_due after ≡ is_mark_due_after (is_mark_due site) (deeds_of steps))
  pub begins : tells → BeginsAll site (deeds_of steps) old new
  pub did : tells → OnOk result (DidAll site after (deeds_of steps) old new)

-- ---- devices

-- some row is on a device
abbrev pub is_device_of_row : (device : ℕ) → List PairRow → Bool
is_device_of_row d rows = list_any (λ r. r.device == d) rows

-- whether the mover works on a volume: it is some row's, a mark still syncs it, or items wait for it
abbrev pub is_worked_on : SiteState → (volume : ℕ) → Bool
is_worked_on site v = is_device_of_row v site.told || is_written site v || has_device v site.waiting

-- the devices on which the mover works: those of the site's records and marks, and these volumes
abbrev pub IsOfMover : SiteState → Device → Type 0
IsOfMover site device = IsStore device ⊎ ((v : ℕ) × (device ≡ Volume v) × IsTrue (is_worked_on site v))

-- Calls of the mover work on these devices alone, and hear and say nothing. A fault is one of the control, the state or a journal, whose count
-- rose, and a volume's job fails exactly if its count rose. Spent comes only where the numbers are spent by then.
pub record MoverWorks (tells : Type 0) (site after : SiteState) (old new : PlantState) (result : Result (Unit {0}) StoreError) : Type 0 where
  pub others : WorksOnLent tells (IsOfMover site) old new
  pub cause : HasStoreCause old.faults new.faults result
  pub failed : FailByCounts site.failed after.failed old.faults new.faults
  -- It works on no other volume from then on.
  pub rest : OnOk result ((v : ℕ) → IsTrue (is_worked_on after v) → IsTrue (is_worked_on site v))
  -- Of volumes it writes only slots: those of tracks of rows that aren't suspended, and of items that waited at first.
  pub slots : WritesSlots tells site after old new result
  pub spent : IsErrOf result Spent → IsSiteSpent tells after new
