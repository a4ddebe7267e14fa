-- Lanes: what a reader is while it sits at a table, and what its part of a round does.
use Rattle.std.specs.Prelude.{◌≡◌, ◌⊎◌, ◌<◌, ◌≤◌, ℕ, List, [], ◌∷◌, ◌++◌, length, map, Option, Some, None, false, IsSomeAnd, IsTrue, is_some, slice_get, slice_set, slice_index_or}
use Rattle.std.specs.List.{list_all}
use Rattle.write_trace.specs.declared.header.VolumeHead.{VolumeHead}
use Rattle.sidefile.specs.declared.hand.Halt.{Halt}
use Rattle.sidefile.specs.declared.hand.Halt.TheVariants as halts
use Rattle.sidefile.specs.Halts.{broken_in}
use Rattle.sidefile.specs.AheadEntries.{IsAhead}
use Rattle.sidefile.specs.States.{SidefileState}
use Rattle.primary_ctl.specs.States.{PrimaryState}
use Rattle.tod_stamp.specs.declared.stamp.Stamp.{Stamp}
use Rattle.ckd_track.specs.declared.write.Batch.{Batch}
use Rattle.ckd_track.specs.declared.write.Cause.{Cause}
use Rattle.pending_queue.specs.declared.room.Room.{Room}
use Rattle.group_state.specs.declared.joining.CopyJoin.TheVariants as copyings
use Rattle.group_state.specs.Controls.{is_reporting}
use Rattle.group_state.specs.Groups.{Group, control_at}
use Rattle.group_state.specs.Runs.{Answer}
use Rattle.fed_logs.specs.ShownBreaks.{is_break_below}
use Rattle.fed_logs.specs.declared.reading.Reading.{Reading}
use Rattle.fed_logs.specs.declared.reading.Reading.TheVariants as readings
use Rattle.fed_logs.specs.LaneFeeds.{FeedState}
use Rattle.write_trace.specs.declared.trace.Trace.{Trace}
use Rattle.fed_logs.specs.Reads.{HasBroken, ReadsOn}
use Rattle.fed_logs.specs.Limits.{GoesUpTo}
use Rattle.fed_logs.specs.Steps.{held_answer, wanted_answer}
use Rattle.fed_logs.specs.Reporters.{IsToldBy, StandsAs, HasFaultBy, ReportsOn, ReportsUpTo, BreaksBelow, IsHaltBelow, break_bound, copying_answers}
use Rattle.turn_group.specs.Calls.{as_answer}
use Rattle.turn_group.specs.Seats.{TurnState, ReaderSeatState, calls_at, seat_at}
use Rattle.mover.specs.declared.lane.Lane.{Lane}
use Rattle.mover.specs.Readers.{LaneReaderState, SitsAt, reporter_of, IsOfHeader}

-- ---- a lane's reader

-- the reader of a lane, once it has one
abbrev pub reader_in : {S : Type 0} → Lane S → Option LaneReaderState
reader_in lane = lane.reader

abbrev pub heads_of : FeedState → List VolumeHead
heads_of feed = feed.side.reader.volumes

-- the reader that a lane is opened with
abbrev pub first_reader : SidefileState → PrimaryState → LaneReaderState
first_reader side primary = record { feed = record { side = side; primary = primary; held = None; halted = side.halted }; seat = None; last = None }

abbrev pub broken_by : Option LaneReaderState → Option (Stamp × Cause)
broken_by None = None
broken_by (Some r) = broken_in r.feed.halted

abbrev pub last_of : Option LaneReaderState → Option Reading
last_of None = None
last_of (Some r) = r.last

-- A reader that lacked memory may not be used again.
abbrev pub MayGoOn : FeedState → Type 0
MayGoOn feed = ¬ (feed.halted ≡ Some halts.NoMemory)

-- A reader is as its last part of a round tells; before its first one in an epoch it may be used.
abbrev pub StandsLast : Option Reading → (limit : ℕ) → FeedState → Type 0
StandsLast None limit feed = MayGoOn feed
StandsLast (Some reading) limit feed = StandsAs reading limit feed

-- The feed has broken as its trace does.
abbrev pub HadBroken : Trace → FeedState → Type 0
HadBroken t feed = (cause : Cause) × (upto : Stamp) × (feed.halted ≡ Some (halts.Broken cause upto)) × HasBroken t cause upto.0 feed

-- ---- a reader's seat

-- Calls on a feed, whose trace has these volumes, read on, and the seat reported them.
abbrev pub SeatReports : List VolumeHead → (before now : Option (List ℕ)) → (old new : FeedState) → (seat next : ReaderSeatState) → Type 0
SeatReports heads before now old new seat next = ReportsOn before now old new (reporter_of heads seat) (reporter_of heads next)

-- The calls that the seat reported took a limit: they go as far towards it as the trace lets them, and the breaks are below it.
pub record SeatTakesLimit (heads : List VolumeHead) (limit : ℕ) (before now : Option (List ℕ)) (old new : FeedState) (seat next : ReaderSeatState) : Type 0 where
  pub up_to : ReportsUpTo limit before now old new (reporter_of heads seat) (reporter_of heads next)
  pub below : BreaksBelow limit before old new (reporter_of heads seat) (reporter_of heads next)

-- It is so whatever bytes the source has left, since it is asked for none, and whatever the limit is.
pub record SeatCopies (heads : List VolumeHead) (feed : FeedState) (seat next : ReaderSeatState) : Type 0 where
  pub reads : (left : Option (List ℕ)) → SeatReports heads left left feed feed seat next
  pub takes : (limit : ℕ) (left : Option (List ℕ)) → SeatTakesLimit heads limit left left feed feed seat next

-- ---- how a part of a round ends

-- The last calls of some have a property.
pub record EndsIn (Is : List Answer → Type 0) (before after : List Answer) : Type 0 where
  pub earlier : List Answer
  pub last : List Answer
  pub answers : after ≡ (before ++ earlier) ++ last
  pub so : Is last

-- The last call reported the batch that is held, which was refused for this room.
abbrev pub IsRefusal : Room → FeedState → List Answer → Type 0
IsRefusal room feed last = (batch : Batch) × (feed.held ≡ Some batch) × (last ≡ held_answer batch room ∷ [])

-- The last calls asked for a track, and none was wanted; or there was no room for the one that was.
abbrev pub AreLastCopies : (control : ℕ) → FeedState → List Answer → Type 0
AreLastCopies k feed last =
    (last ≡ wanted_answer k None ∷ []) ⊎ ((volume track : ℕ) × (at : Stamp) × (room : Room) × (last ≡ copying_answers k feed.primary volume track at (copyings.Held room)))

-- A reader is done for a round where its batch was refused, at the limit once no track is wanted or one was refused, and after a halt.
abbrev pub AreLastOf : Reading → (control : ℕ) → FeedState → List Answer → Type 0
AreLastOf readings.Joined k feed last = ⊥
AreLastOf (readings.Held room) k feed last = IsRefusal room feed last
AreLastOf readings.AtLimit k feed last = AreLastCopies k feed last
AreLastOf readings.Broken k feed last = Unit {0}
AreLastOf readings.NoMemory k feed last = Unit {0}

-- the answered calls of a seat
abbrev pub answers_at : ReaderSeatState → List Answer
answers_at seat = map as_answer seat.calls

-- ---- a reader that sits

-- A seat reports for a feed, at a table.
pub record TellsFor (at : TurnState) (feed : FeedState) (seat : ReaderSeatState) : Type 0 where
  pub sits : SitsAt at (heads_of feed) seat
  pub told : IsToldBy feed (reporter_of (heads_of feed) seat)

-- A reader sits at a table: its seat reports for its feed, which has reported up to the limit at most.
pub record Sits (at : TurnState) (limit : ℕ) (r : LaneReaderState) : Type 0 where
  pub seat : ReaderSeatState
  pub has : r.seat ≡ Some seat
  pub tells_for : TellsFor at r.feed seat
  pub within : r.feed.side.upto ≤ limit
  pub stands : StandsLast r.last limit r.feed

-- It sits, and may be used.
abbrev pub MayRead : (at : TurnState) → (limit : ℕ) → LaneReaderState → Type 0
MayRead at limit r = Sits at limit r × MayGoOn r.feed

abbrev pub IsLaneSeated : {S : Type 0} → (at : TurnState) → (limit : ℕ) → Lane S → Type 0
IsLaneSeated at limit lane = IsSomeAnd lane.reader (Sits at limit)

abbrev pub MayLaneRead : {S : Type 0} → (at : TurnState) → (limit : ℕ) → Lane S → Type 0
MayLaneRead at limit lane = IsSomeAnd lane.reader (MayRead at limit)

-- ---- a reader's part of a round

-- the answered calls of a reader's seat
abbrev pub answers_of : LaneReaderState → List Answer
answers_of r = map as_answer (calls_at r.seat)

-- The count of the source's faults rose only where the feed broke by one, and none rises after that.
abbrev pub HasFaultFrom : Option Halt → (faults risen : ℕ) → Option Halt → Type 0
HasFaultFrom None faults risen now = HasFaultBy faults risen now
HasFaultFrom (Some halt) faults risen now = risen ≡ faults

-- A feed stays one of its controller and of its trace's volumes.
pub record IsSameLane (old new : FeedState) : Type 0 where
  pub control : new.side.control ≡ old.side.control
  pub heads : heads_of new ≡ heads_of old

-- The breaks that these calls of a reader report are below a limit, if bytes are ahead of its feed. So is the break by which the feed halts.
pub record BreaksInRound (limit : ℕ) (before : Option (List ℕ)) (old new : FeedState) (gained : List Answer) : Type 0 where
  pub told : (bytes : List ℕ) → IsAhead old.side.reader before bytes → IsTrue (list_all (is_break_below (break_bound limit)) gained)
  pub halts : old.halted ≡ None → (bytes : List ℕ) → IsAhead old.side.reader before bytes → IsHaltBelow limit new.halted

-- A reader's calls up to a limit, in turns of its seat, read on, as far as its trace lets them.
pub record ReadsInRound (limit : ℕ) (before now : Option (List ℕ)) (faults risen : ℕ) (old new : LaneReaderState) : Type 0 where
  pub gained : List Answer
  pub answers : answers_of new ≡ answers_of old ++ gained
  pub same : IsSameLane old.feed new.feed
  pub reads_on : ReadsOn before now old.feed new.feed gained
  pub up_to : GoesUpTo limit before now old.feed new.feed gained
  pub below : BreaksInRound limit before old.feed new.feed gained
  pub fault : HasFaultFrom old.feed.halted faults risen new.feed.halted

-- So did the reader of a source.
abbrev pub SourceRead : {S : Type 0} → (left : S → Option (List ℕ)) → (faults : S → ℕ) → (limit : ℕ) → (source then : S) → (old new : LaneReaderState) → Type 0
SourceRead left faults limit source then old new = ReadsInRound limit (left source) (left then) (faults source) (faults then) old new

-- A reader did its part of a round to the end, and keeps what became of it.
pub record DidPart (old new : LaneReaderState) : Type 0 where
  pub reading : Reading
  pub is : new.last ≡ Some reading
  pub ends : EndsIn (AreLastOf reading new.feed.side.control new.feed) (answers_of old) (answers_of new)

-- The lane's reader did its part, and still sits where it sat.
abbrev pub LaneReads : {S : Type 0} → (left : S → Option (List ℕ)) → (faults : S → ℕ) → (at : TurnState) → (limit : ℕ) → (old new : Lane S) → Type 0
LaneReads left faults at limit old new =
    IsSomeAnd old.reader (λ was. IsSomeAnd new.reader (λ is. Sits at limit is × SourceRead left faults limit old.source new.source was is))

-- It did so to the end.
abbrev pub DidLanePart : {S : Type 0} → (old new : Lane S) → Type 0
DidLanePart old new = IsSomeAnd old.reader (λ was. IsSomeAnd new.reader (DidPart was))

-- So did all lanes.
pub record AllLanesRead {S : Type 0} (left : S → Option (List ℕ)) (faults : S → ℕ) (at : TurnState) (limit : ℕ) (old new : List (Lane S)) : Type 0 where
  pub same : length new ≡ length old
  pub each : (k : ℕ) (d : Lane S) → k < length old → LaneReads left faults at limit (slice_index_or old k d) (slice_index_or new k d)

-- All lanes did so to the end.
pub record DidAllParts {S : Type 0} (old new : List (Lane S)) : Type 0 where
  pub each : (k : ℕ) (d : Lane S) → k < length old → DidLanePart (slice_index_or old k d) (slice_index_or new k d)

-- ---- before a table is made

-- What an epoch needs of the reader of a controller: it stands as the controller does in the shared state, whose volumes have the tracks that
-- the header of its trace gives them. The controller reports exactly if the reader hasn't broken.
pub record IsReaderOf (first : Group) (k limit : ℕ) (r : LaneReaderState) : Type 0 where
  pub control : r.feed.side.control ≡ k
  pub sized : IsOfHeader (heads_of r.feed) (control_at first k)
  pub floor : r.feed.halted ≡ None → (control_at first k).floor.0 ≡ r.feed.primary.time
  pub reporting : r.feed.halted ≡ None → IsTrue (is_reporting (control_at first k).phase)
  pub broken : (cause : Cause) (upto : Stamp) → r.feed.halted ≡ Some (halts.Broken cause upto) → is_reporting (control_at first k).phase ≡ false
  pub within : r.feed.side.upto ≤ limit
  pub goes : MayGoOn r.feed

-- ---- seats handed out and back

abbrev pub HasReader : {S : Type 0} → Lane S → Type 0
HasReader lane = IsTrue (is_some lane.reader)

-- a reader with a seat, before its first part in an epoch
abbrev pub with_seat : Option ReaderSeatState → Option LaneReaderState → Option LaneReaderState
with_seat seat None = None
with_seat seat (Some r) = Some (record r { seat = seat; last = None })

-- The lane's reader took the seat of its place.
abbrev pub LaneTakesSeat : {S : Type 0} → List (Option ReaderSeatState) → (k : ℕ) → (old new : Lane S) → Type 0
LaneTakesSeat seats k old new = (new.source ≡ old.source) × (new.reader ≡ with_seat (seat_at seats k) old.reader)

-- The lane's reader has the seat of a controller.
abbrev pub HasSeatOf : {S : Type 0} → (k : ℕ) → Lane S → Type 0
HasSeatOf k lane = IsSomeAnd lane.reader (λ r. IsSomeAnd r.seat (λ seat. seat.control ≡ k))

-- The place of the seat of a lane's reader is empty.
abbrev pub HasFreePlace : {S : Type 0} → List (Option ReaderSeatState) → Lane S → Type 0
HasFreePlace seats lane = IsSomeAnd lane.reader (λ r. IsSomeAnd r.seat (λ seat. slice_get seats seat.control ≡ Some None))

-- The lane's reader gave its seat.
abbrev pub GivesSeat : {S : Type 0} → (seats then : List (Option ReaderSeatState)) → (old new : Lane S) → Type 0
GivesSeat seats then old new =
    (new.source ≡ old.source) × IsSomeAnd old.reader (λ r. IsSomeAnd r.seat (λ seat. (then ≡ slice_set seats seat.control (Some seat)) × (new.reader ≡ Some (record r { seat = None }))))

-- The lane's reader gave its seat back to its place.
abbrev pub LaneGivesSeat : {S : Type 0} → List (Option ReaderSeatState) → (k : ℕ) → (old new : Lane S) → Type 0
LaneGivesSeat seats k old new =
    (new.source ≡ old.source) × IsSomeAnd old.reader (λ r. (seat_at seats k ≡ r.seat) × (new.reader ≡ Some (record r { seat = None })))
