-- The site after a command's change and after a mark.
use Rattle.std.specs.Prelude.{◌≡◌, ◌≢◌, ◌<◌, ◌≤◌, ℕ, List, [], ◌∷◌, length, map, take, Bool, Some, None, Ok, OnOk, Result}
use Rattle.std.specs.List.{All, Contains}
use Rattle.crash_plant.specs.Choices.{AtNow, Choice, IsChoice}
use Rattle.crash_plant.specs.Moments.{PlantState}
use Rattle.pair_table.specs.declared.command.Change.{Change}
use Rattle.pair_table.specs.declared.command.Command.{Command}
use Rattle.pair_table.specs.declared.row.PairRow.{PairRow}
use Rattle.pair_table.specs.declared.row.PairState.TheVariants.{Duplex}
use Rattle.pair_table.specs.Commands.{answer}
use Rattle.pair_table.specs.Naming.{Naming}
use Rattle.passages.specs.Telling.{told_by}
use Rattle.record_rows.specs.Deeds.{Deed, entries_by_deed, rows_after_deeds, rows_by_deed, time_by_deed, time_meant_after}
use Rattle.record_rows.specs.Deeds.Deed.{Logged, Changed, Marked}
use Rattle.record_rows.specs.Hits.{hit_now}
use Rattle.site_store.specs.DoneDeeds.{BeginsDeeds, DoesDeeds, PassedDeed, points_of, with_next}
use Rattle.site_store.specs.Exceptions.{Exceptions, excepted_after}
use Rattle.site_store.specs.Seeing.{SeesAfter}
use Rattle.site_means.specs.Images.{shape_of}
use Rattle.consistency.specs.Bearing.{GoesThroughPoints, ShowsPoint}
use Rattle.consistency.specs.Leads.{Point}
use Rattle.consistency.specs.Ways.{Way}
use Rattle.mover.specs.OwedTracks.{ExceptedAreOwed}
use Rattle.xrc_session.specs.AppliedEnds.{HasEmptyWalk}
use Rattle.xrc_session.specs.EpochPauses.{Between, StandsBetween}
use Rattle.xrc_session.specs.CarriedLaws.{FitsOn, IsWithoutEntries, between_taken}
use Rattle.xrc_session.specs.Taking.{IfAdds, MayTake, after_calls, calls_of_change}
use Rattle.site_store.specs.declared.store_error.StoreError.{StoreError}
use Rattle.site_store.specs.IdleSites.{IsSiteIdle}
use Rattle.site_store.specs.Changing.{DoesChange, LogsChange, MayChange, change_deeds_of, changed_items, table_with_hits}
use Rattle.site_store.specs.Commands.{IsToLog, LabelsFit, MayDo, after_command, excepted_by_change}
use Rattle.site_store.specs.Marking.{Marks, MayMark, excepted_with_waiting, rows_at_mark}
use Rattle.site_store.specs.Sites.{SiteState}
use Rattle.site_store.specs.Standing.{Leaves, SiteStands, none_excepted}

-- ---- failures are told

-- Each failure of a volume with a row is told: no device is hit now.
abbrev pub AllAreTold : SiteState → Type 0
AllAreTold site = hit_now site.failed site.told ≡ []

-- So it is after a command, which leaves the rows on the devices, and lets a job be used again.
abbrev pub ToldAfterCommands : Type 0
ToldAfterCommands = (names : Naming) (session : List ℕ) (command : Command) (at : ℕ) (change : Change) (site : SiteState) → AllAreTold site
    → AllAreTold (after_command names session command at change site)

-- So it is after a change that was logged, by whichever way its record came, and where there was nothing to log.
abbrev pub ToldAfterChanges : {P : Type 0} → (was is : P) → (old : PlantState) → Type 0
ToldAfterChanges was is old = (cut : ℕ) (change : Change) (site next : SiteState) (result : Result (Unit {0}) StoreError) → AllAreTold site
    → LogsChange cut change site next old was is result → OnOk result (AllAreTold next)

-- After a mark it is so whatever was told before: the mark tells the failures of its own syncs, too.
abbrev pub ToldAfterMarks : {P : Type 0} → (was is : P) → Type 0
ToldAfterMarks was is = (site next : SiteState) (ended : Bool) (result : Result (Unit {0}) StoreError) → Marks site next ended was is result → OnOk result (AllAreTold next)

-- ---- the site is idle

-- The change of a command to an idle site may be logged at a time that isn't before the site's.
abbrev pub CommandsMayBeLogged : (tells : Type 0) → PlantState → Type 0
CommandsMayBeLogged tells plant = (names : Naming) (session : List ℕ) (command : Command) (at cut : ℕ) (change : Change) (site : SiteState) → IsSiteIdle tells site plant
    → LabelsFit plant names → answer names site.table session command ≡ Ok change → site.time ≤ cut → IsToLog change (after_command names session command at change site)
    → MayChange tells cut change (after_command names session command at change site) plant

-- After a change that was logged the site is idle, and so it is after a mark.
abbrev pub IdleAfterChanges : {P : Type 0} → (tells : Type 0) → (was is : P) → (old new : PlantState) → Type 0
IdleAfterChanges tells was is old new = (cut : ℕ) (change : Change) (site next : SiteState) (result : Result (Unit {0}) StoreError) → MayChange tells cut change site old
    → OnOk result (Leaves tells (λ e. e) site next old new) → LogsChange cut change site next old was is result → OnOk result (IsSiteIdle tells next new)

abbrev pub IdleAfterMarks : {P : Type 0} → (tells : Type 0) → (was is : P) → (old new : PlantState) → Type 0
IdleAfterMarks tells was is old new = (site next : SiteState) (ended : Bool) (result : Result (Unit {0}) StoreError) → MayMark tells site old
    → OnOk result (Leaves tells (λ e. none_excepted) site next old new) → Marks site next ended was is result → OnOk result (IsSiteIdle tells next new)

-- ---- another command may come

-- A command may come to the site after a change that was logged, and after a mark, if it may come before. No job is lost.
abbrev pub CommandsComeAfterChanges : {P : Type 0} → (was is : P) → (old : PlantState) → Type 0
CommandsComeAfterChanges was is old = (names : Naming) (cut : ℕ) (change : Change) (site next : SiteState) (result : Result (Unit {0}) StoreError) → MayDo names site → length next.failed ≡ length site.failed
    → LogsChange cut change site next old was is result → OnOk result (MayDo names next)

abbrev pub CommandsComeAfterMarks : {P : Type 0} → (was is : P) → Type 0
CommandsComeAfterMarks was is = (names : Naming) (site next : SiteState) (ended : Bool) (result : Result (Unit {0}) StoreError) → MayDo names site → site.told ≡ site.table.rows
    → length next.failed ≡ length site.failed → Marks site next ended was is result → OnOk result (MayDo names next)

-- ---- what is excepted

-- A command lets the tracks of an added pair's device be excepted, if this has failed. The state stands for the rows with these too, where each
-- failure is told.
abbrev pub RowsStandAfterCommands : PlantState → Type 0
RowsStandAfterCommands start = (b : Between) (change : Change) (site : SiteState) → StandsBetween start b → site.told ≡ b.point.rows → AllAreTold site
    → StandsBetween start (record b { excepted = excepted_by_change change site b.excepted })

-- A change of a site comes to be logged at the time that is meant, from rows for which the shared state stands. It may be taken over with the
-- rows after its record, once these jobs have failed.
pub record IsOfChange (start : PlantState) (b : Between) (cut : ℕ) (change : Change) (failed : List Bool) (site : SiteState) (after : List PairRow) : Type 0 where
  pub stands : StandsBetween start b
  pub told : site.told ≡ b.point.rows
  pub at : cut ≡ b.point.time
  pub logged : changed_items change site.table.rows ≢ [] → after ≡ table_with_hits cut failed site
  pub may : MayTake b.group change b.point.rows after
  pub adds : IfAdds change after (FitsOn start b.size)

-- Such a change is logged, with deeds.
pub record LogsFrom (tells : Type 0) (b : Between) (cut : ℕ) (change : Change) (site next : SiteState) (after : List PairRow) (old new : PlantState) : Type 0 where
  pub is_of : IsOfChange old b cut change next.failed site after
  pub result : Result (Unit {0}) StoreError
  pub does : DoesChange tells cut change site next old new result
  pub deeds : List Deed
  pub deeds_are : deeds ≡ change_deeds_of change does.placement site cut next.failed

-- What its record excepts, and a mark that the record needs first, is owed once the change was taken over.
abbrev pub ExceptedAfterChangesAreOwed : (tells : Type 0) → (old new : PlantState) → Type 0
ExceptedAfterChangesAreOwed tells old new = (b : Between) (cut : ℕ) (change : Change) (site next : SiteState) (after : List PairRow) (logs : LogsFrom tells b cut change site next after old new)
    → ExceptedAreOwed b.size (excepted_after site.told logs.deeds b.excepted) (after_calls (calls_of_change change b.group b.point.rows after) b.group) after

-- So the state stands for the rows after it.
abbrev pub RowsStandAfterChanges : (tells : Type 0) → (old new : PlantState) → Type 0
RowsStandAfterChanges tells old new = (b : Between) (cut : ℕ) (change : Change) (site next : SiteState) (after : List PairRow) (logs : LogsFrom tells b cut change site next after old new)
    → DoesDeeds b.excepted site.told logs.deeds old new → (some : (c : Choice) × IsChoice new new.clock c)
    → StandsBetween new (record (between_taken change after b) { excepted = excepted_after site.told logs.deeds b.excepted })

-- A site that stands with some exceptions stands with those after deeds without entries, which are more.
abbrev pub SitesStandAfterDeeds : PlantState → Type 0
SitesStandAfterDeeds plant = (excepted : Exceptions) (rows : List PairRow) (deeds : List Deed) (site : SiteState) → All IsWithoutEntries deeds → SiteStands excepted site plant
    → SiteStands (excepted_after rows deeds excepted) site plant

-- ---- what is shown

-- the flag that is meant after deeds: that of the last mark among them
abbrev pub flag_after : List Deed → Bool → Bool
flag_after [] flag = flag
flag_after (Logged cut entries rows ∷ deeds) flag = flag_after deeds flag
flag_after (Changed time rows ∷ deeds) flag = flag_after deeds flag
flag_after (Marked spot ended rows ∷ deeds) flag = flag_after deeds ended

-- A point has the time, the rows and the flag that are meant after deeds from another on.
pub record IsPointAfter (deeds : List Deed) (p q : Point) : Type 0 where
  pub time : q.time ≡ time_meant_after deeds p.time
  pub rows : q.rows ≡ rows_after_deeds deeds p.rows
  pub ended : q.is_ended ≡ flag_after deeds p.is_ended

-- A deed without an entry, at the time that is meant, after which a row is duplex only if it was.
pub record KeepsTracks (time : ℕ) (rows : List PairRow) (deed : Deed) : Type 0 where
  pub entries : entries_by_deed deed ≡ []
  pub at : time_by_deed time deed ≡ time
  pub duplex : (r : PairRow) → Contains (rows_by_deed deed) r → r.state ≡ Duplex → Contains rows r

abbrev pub KeepTracks : (time : ℕ) → List PairRow → List Deed → Type 0
KeepTracks time rows [] = Unit {0}
KeepTracks time rows (deed ∷ deeds) = KeepsTracks time rows deed × KeepTracks time (rows_by_deed deed) deeds

-- The deeds of a change are such, and so is a mark that tells failures.
abbrev pub ChangesKeepTracks : (tells : Type 0) → (old new : PlantState) → Type 0
ChangesKeepTracks tells old new = (b : Between) (cut : ℕ) (change : Change) (site next : SiteState) (after : List PairRow) (logs : LogsFrom tells b cut change site next after old new)
    → KeepTracks b.point.time site.told logs.deeds

abbrev pub MarksKeepTracks : Type 0
MarksKeepTracks = (site : SiteState) (time : ℕ) (ended : Bool) (failed : List Bool) → KeepTracks time site.told (Marked site.at ended (rows_at_mark site.level site failed) ∷ [])

-- The point that is meant is shown before such deeds, whose rows are those of the point.
pub record ShowsBefore (start : PlantState) (b : Between) (rows : List PairRow) (deeds : List Deed) : Type 0 where
  pub stands : StandsBetween start b
  pub shows : AtNow (ShowsPoint b.run (shape_of start) b.point) start
  pub same : rows ≡ b.point.rows
  pub keep : KeepTracks b.point.time rows deeds

-- A mark at a site for which no item waits excepts no more tracks than are excepted.
abbrev pub IdleMarksExceptNoMore : (old new : PlantState) → Type 0
IdleMarksExceptNoMore old new = (excepted : Exceptions) (site : SiteState) (rows : List PairRow) (deeds : List Deed) → site.waiting ≡ []
    → (DoesDeeds (excepted_with_waiting site excepted) rows deeds old new → DoesDeeds excepted rows deeds old new)
    × (BeginsDeeds (excepted_with_waiting site excepted) rows deeds old new → BeginsDeeds excepted rows deeds old new)

-- What a choice shows after them is the point after them.
abbrev pub DeedsShowPoints : PlantState → Type 0
DeedsShowPoints start = (b : Between) (rows : List PairRow) (deeds : List Deed) → ShowsBefore start b rows deeds → (q : Point) → IsPointAfter deeds b.point q → (c : Choice) → SeesAfter start b.excepted rows deeds c
    → ShowsPoint b.run (shape_of start) q c

-- Points tell of the first of these deeds.
pub record ArePointsAfter (deeds : List Deed) (p : Point) (told : List Deed → Point) : Type 0 where
  pub first : told [] ≡ p
  pub after : (n : ℕ) → n ≤ length deeds → IsPointAfter (take n deeds) p (told (take n deeds))

-- Calls that begin the deeds pass the points after them, and the next one is on its way. Calls that do them all pass all, and then the last one
-- is shown.
abbrev pub DeedsPassPoints : (old new : PlantState) → Type 0
DeedsPassPoints old new = (b : Between) (rows : List PairRow) (deeds : List Deed) → ShowsBefore old b rows deeds → (told : List Deed → Point) (way : PassedDeed → Way) → ArePointsAfter deeds b.point told → 0 < old.clock
    → (begins : BeginsDeeds b.excepted rows deeds old new)
    → GoesThroughPoints b.run new old.clock b.point (map (told_by told way) (points_of [] begins.moments deeds)) new.clock (Some (told (with_next (length begins.moments) deeds)))

abbrev pub DoneDeedsPassAll : (old new : PlantState) → Type 0
DoneDeedsPassAll old new = (b : Between) (rows : List PairRow) (deeds : List Deed) → ShowsBefore old b rows deeds → (told : List Deed → Point) (way : PassedDeed → Way) → ArePointsAfter deeds b.point told → 0 < old.clock
    → (does : DoesDeeds b.excepted rows deeds old new) → GoesThroughPoints b.run new old.clock b.point (map (told_by told way) (points_of [] does.moments deeds)) new.clock None

abbrev pub DoneDeedsShowLast : (old new : PlantState) → Type 0
DoneDeedsShowLast old new = (b : Between) (rows : List PairRow) (deeds : List Deed) → ShowsBefore old b rows deeds → DoesDeeds b.excepted rows deeds old new → (q : Point) → IsPointAfter deeds b.point q
    → AtNow (ShowsPoint b.run (shape_of new) q) new

-- ---- the walk after a mark

-- A mark names the spot of the next record, so that after it no record stands.
abbrev pub MarksBeginWalks : {P : Type 0} → (was is : P) → Type 0
MarksBeginWalks was is = (site next : SiteState) (ended : Bool) (result : Result (Unit {0}) StoreError) → Marks site next ended was is result → OnOk result (next.at ≡ next.mark.at)

-- Whatever a crash leaves then, no record is walked: what slots hold is what volumes hold.
abbrev pub NothingIsWalked : PlantState → Type 0
NothingIsWalked plant = (excepted : Exceptions) (site : SiteState) → SiteStands excepted site plant → site.at ≡ site.mark.at → AtNow (HasEmptyWalk plant) plant
