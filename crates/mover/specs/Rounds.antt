-- The work of an epoch: what it asks of lanes, seats and site, and what it leaves.
use Rattle.std.specs.Prelude.{◌≡◌, ◌⊎◌, ℕ, ◌+◌, ◌<◌, ◌≤◌, List, length, map, Option, Some, Result, Ok, Err, IsSomeAnd, IsTrue, slice_index_or}
use Rattle.std.specs.List.{list_all}
use Rattle.xrc_edge.specs.declared.limits.TheConstants.{MOST_CONTROLS}
use Rattle.crash_plant.specs.Moments.{PlantState}
use Rattle.pair_table.specs.States.{is_settled}
use Rattle.group_state.specs.Groups.{Group}
use Rattle.fed_logs.specs.declared.reading.Reading.TheVariants as readings
use Rattle.fed_logs.specs.Reads.{ReadsOn}
use Rattle.fed_logs.specs.Limits.{GoesUpTo}
use Rattle.turn_group.specs.Calls.{as_answer}
use Rattle.turn_group.specs.Seats.{MoverSeatState, ReaderSeatState, TurnState, calls_at, new_mover, new_readers, seat_at}
use Rattle.site_store.specs.declared.store_error.StoreError.{StoreError}
use Rattle.site_store.specs.Sites.{SiteState}
use Rattle.mover.specs.declared.ends.RoundsEnd.{RoundsEnd}
use Rattle.mover.specs.declared.ends.RoundsEnd.TheVariants as ends
use Rattle.mover.specs.declared.lane.Lane.{Lane}
use Rattle.mover.specs.Readers.{LaneReaderState}
use Rattle.mover.specs.Moves.{IsStillAt, KeepsLimit, Moved, MoverWorks}
use Rattle.mover.specs.Numbers.{UsesNumbers}
use Rattle.mover.specs.Lanes.{AllLanesRead, BreaksInRound, HasFaultFrom, IsReaderOf, IsSameLane, StandsLast}

-- ---- before

-- There is a lane for each controller, and lane k is controller k's.
pub record AreLanesOf {S : Type 0} (first : Group) (limit : ℕ) (lanes : List (Lane S)) : Type 0 where
  pub many : length lanes ≡ length first.controls
  pub each : (k : ℕ) (d : Lane S) → k < length lanes → IsSomeAnd (slice_index_or lanes k d).reader (IsReaderOf first k limit)

-- The seats are all of a table that was just made, without calls. A group state has few controllers.
pub record AreNewSeats (at : TurnState) (mover : MoverSeatState) (readers : List (Option ReaderSeatState)) : Type 0 where
  pub few : length at.first.controls ≤ MOST_CONTROLS
  pub mover_is : mover ≡ new_mover at.table at.first (length at.first.controls + 1)
  pub readers_are : readers ≡ new_readers at.table at.first (length at.first.controls)

-- ---- after

-- What a lane's reader did in the turns of its seat: its calls read on, each as far towards the limit as its trace lets it.
pub record Read {S : Type 0} (left : S → Option (List ℕ)) (faults : S → ℕ) (limit : ℕ) (seat : Option ReaderSeatState) (old new : Lane S) (was is : LaneReaderState) : Type 0 where
  pub same : IsSameLane was.feed is.feed
  pub reads_on : ReadsOn (left old.source) (left new.source) was.feed is.feed (map as_answer (calls_at seat))
  pub up_to : GoesUpTo limit (left old.source) (left new.source) was.feed is.feed (map as_answer (calls_at seat))
  pub below : BreaksInRound limit (left old.source) was.feed is.feed (map as_answer (calls_at seat))
  pub fault : HasFaultFrom was.feed.halted (faults old.source) (faults new.source) is.feed.halted
  pub within : is.feed.side.upto ≤ limit
  pub stands : StandsLast is.last limit is.feed

-- Each lane's reader read on by the calls of the seat at its controller's place.
pub record AllRead {S : Type 0} (left : S → Option (List ℕ)) (faults : S → ℕ) (limit : ℕ) (seats : List (Option ReaderSeatState)) (old new : List (Lane S)) : Type 0 where
  pub each : (k : ℕ) (d : Lane S) → k < length old → let a = slice_index_or old k d in let b = slice_index_or new k d in
      IsSomeAnd a.reader (λ was. IsSomeAnd b.reader (Read left faults limit (seat_at seats k) a b was))

-- The reader is at the limit, or has broken.
abbrev pub IsDone : LaneReaderState → Type 0
IsDone r = (r.last ≡ Some readings.AtLimit) ⊎ (r.last ≡ Some readings.Broken)

-- The last cut and the site's time are the limit, no row is pending or copying, and each reader is at the limit or has broken.
pub record HasReached {S : Type 0} (limit : ℕ) (lanes : List (Lane S)) (seat : MoverSeatState) (site : SiteState) : Type 0 where
  pub cut : seat.last.0 ≡ limit
  pub time : site.time ≡ limit
  pub settled : IsTrue (list_all (λ r. is_settled r.state) site.told)
  pub done : (k : ℕ) (d : Lane S) → k < length lanes → IsSomeAnd (slice_index_or lanes k d).reader IsDone

-- Rounds, however many: each lane's reader did its parts and still sits, and the mover moved and stays at its table.
--   limited: each form took the limit, if each had before
pub record DoesRounds {S : Type 0} (tells : Type 0) (left : S → Option (List ℕ)) (faults : S → ℕ) (at : TurnState) (limit : ℕ) (lanes after : List (Lane S)) (seat next : MoverSeatState) (site then : SiteState) (old new : PlantState) (result : Result (Unit {0}) StoreError) : Type 0 where
  pub read : AllLanesRead left faults at limit lanes after
  pub moved : Moved tells seat next site then old new result
  pub limited : KeepsLimit limit seat next
  pub still : IsStillAt seat next
  pub works : MoverWorks tells site then old new result
  pub numbers : UsesNumbers seat next site then result

-- how the site's calls ended: well, but for an error that is answered
abbrev pub store_result : RoundsEnd → Result (Unit {0}) StoreError
store_result ends.Reached = Ok tt
store_result (ends.Store error) = Err error
store_result ends.NoMemory = Ok tt

-- All seats are back in their places, at their table: one for each controller of the state that it was made with.
pub record SeatsAreBack (at : TurnState) (mover : MoverSeatState) (readers : List (Option ReaderSeatState)) : Type 0 where
  pub mover_at : mover.table ≡ at.table
  pub begun : mover.first ≡ at.first
  pub all : mover.seats ≡ length readers + 1
  pub many : length readers ≡ length at.first.controls
  pub each : (k : ℕ) → k < length readers → IsSomeAnd (seat_at readers k) (λ seat. (seat.table ≡ at.table) × (seat.control ≡ k))
