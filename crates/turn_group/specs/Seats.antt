-- What seats are to their callers, when a seat may make a call, and what it is after it.
use Rattle.std.specs.Prelude.{◌≡◌, ℕ, suc, ◌≤◌, List, [], ◌∷◌, ◌++◌, length, map, Bool, false, Option, Some, None, IsTrue, nat_lt, slice_index_or}
use Rattle.std.specs.List.{list_all, range_with_len}
use Rattle.atomic_table.specs.Seated.{TableId}
use Rattle.atomic_table.specs.declared.shared.Seat.{Seat}
use Rattle.tod_stamp.specs.declared.stamp.Stamp.{Stamp}
use Rattle.xrc_edge.specs.Order.{is_in_order}
use Rattle.ckd_track.specs.Writes.{is_earlier}
use Rattle.ckd_track.specs.declared.write.Batch.{Batch}
use Rattle.cut_core.specs.LegalHistories.{are_in}
use Rattle.pending_queue.specs.Entries.{all_keep_rules}
use Rattle.turn.specs.declared.view.View.{View}
use Rattle.turn.specs.Turn.{ticketed, HasCalled}
use Rattle.group_state.specs.Volumes.{volume_of, passes}
use Rattle.group_state.specs.Controls.{is_reporting}
use Rattle.group_state.specs.Groups.{Group, new_group, control_at}
use Rattle.group_state.specs.SoundStates.{IsGroupSound, are_within, is_track_within}
use Rattle.group_state.specs.Machine.{Call, Reply}
use Rattle.turn_group.specs.Notes.{KnownVolume, SeatNote, volumes_known, last_after, known_after, floor_after, note_after}
use Rattle.group_state.specs.Calls.{reporting_after}
use Rattle.turn_group.specs.Notes.SeatNote.{MoverNote, ReaderNote}
use Rattle.turn_group.specs.Calls.{MadeCall}
use Rattle.group_state.specs.Calls.{is_by_reader, is_by_mover}

-- A table: its identity, and the state that it was made with.
pub record TurnState : Type 0 where
  pub table : TableId
  pub first : Group

-- A controller's seat knows its table, the state that the table was made with, the controller's number and floor, and whether the controller
-- still reports. It keeps its calls in order.
pub record ReaderSeatState : Type 0 where
  pub table : TableId
  pub first : Group
  pub control : ℕ
  pub floor : Stamp
  pub reporting : Bool
  pub calls : List MadeCall

-- The mover's seat knows the last cut, the volumes of each controller, and how many seats are not handed in.
pub record MoverSeatState : Type 0 where
  pub table : TableId
  pub first : Group
  pub last : Stamp
  pub known : List (List KnownVolume)
  pub seats : ℕ
  pub calls : List MadeCall

-- ---- at the start

abbrev pub new_reader : TableId → Group → (control : ℕ) → ReaderSeatState
new_reader table first k = record { table = table; first = first; control = k; floor = (control_at first k).floor; reporting = is_reporting (control_at first k).phase; calls = [] }

-- the seats of so many controllers, each at its controller's place
abbrev pub new_readers : TableId → Group → (controls : ℕ) → List (Option ReaderSeatState)
new_readers table first n = map (λ k. Some (new_reader table first k)) (range_with_len 0 n)

abbrev pub new_mover : TableId → Group → (seats : ℕ) → MoverSeatState
new_mover table first n = record { table = table; first = first; last = first.last; known = volumes_known first; seats = n; calls = [] }

-- ---- when a reader's seat may make a call

-- the controller still reports, and no earlier time than before
pub record SeatMayReport (seat : ReaderSeatState) (upto : Stamp) : Type 0 where
  pub reporting : IsTrue seat.reporting
  pub up : seat.floor.0 ≤ upto.0

-- A batch is of the seat's controller. Each stamp is above the floor and at most `upto`, stamps don't fall, and tracks are below those of
-- the volumes that the table was made with.
pub record SeatMayJoin (seat : ReaderSeatState) (b : Batch) : Type 0 where
  pub control : b.control ≡ seat.control
  pub rules : IsTrue (all_keep_rules b.writes)
  pub tells : SeatMayReport seat b.upto
  pub within : IsTrue (are_in seat.floor.0 b.upto.0 b.writes)
  pub order : IsTrue (is_in_order is_earlier b.writes)
  pub tracks : IsTrue (are_within (control_at seat.first seat.control).volumes b.writes)

-- A copied track is as of the floor.
pub record SeatMayCopy (seat : ReaderSeatState) (volume track : ℕ) (at : Stamp) : Type 0 where
  pub reporting : IsTrue seat.reporting
  pub floor : at ≡ seat.floor
  pub within : IsTrue (is_track_within (control_at seat.first seat.control).volumes volume track)

-- ---- what a reader copies next

-- whether a controller has the volume, and the volume has the track
abbrev pub is_track_of_control : (first : Group) → (control volume track : ℕ) → Bool
is_track_of_control first k v x = passes (λ u. nat_lt x (length u.map)) (volume_of v (control_at first k).volumes)

-- ---- after a call

abbrev pub reader_after : (ticket : ℕ) → Call → Reply → ReaderSeatState → ReaderSeatState
reader_after t call reply seat = record seat { floor = floor_after call reply seat.floor; reporting = reporting_after call seat.reporting; calls = seat.calls ++ ticketed t call reply ∷ [] }

abbrev pub mover_after : (ticket : ℕ) → Call → Reply → MoverSeatState → MoverSeatState
mover_after t call reply seat = record seat { last = last_after call reply seat.last; known = known_after call seat.known; calls = seat.calls ++ ticketed t call reply ∷ [] }

-- The seat made this call with this reply, in a turn of its own.
pub record ReaderCalled (old : ReaderSeatState) (call : Call) (reply : Reply) (new : ReaderSeatState) : Type 0 where
  pub ticket : ℕ
  pub after : new ≡ reader_after ticket call reply old

pub record MoverCalled (old : MoverSeatState) (call : Call) (reply : Reply) (new : MoverSeatState) : Type 0 where
  pub ticket : ℕ
  pub after : new ≡ mover_after ticket call reply old

-- ---- lists of seats

abbrev pub seat_at : List (Option ReaderSeatState) → (control : ℕ) → Option ReaderSeatState
seat_at seats k = slice_index_or seats k None

-- the calls of the seat at a place, where there is one
abbrev pub calls_at : Option ReaderSeatState → List MadeCall
calls_at None = []
calls_at (Some seat) = seat.calls

-- a seat of this table is at the place
abbrev pub IsSeated : TableId → Option ReaderSeatState → Type 0
IsSeated table None = ⊥
IsSeated table (Some seat) = seat.table ≡ table

-- what holds of each item and its place, where places are counted from a number on
abbrev pub AllFrom : {A : Type 0} → (ℕ → A → Type 0) → (first : ℕ) → List A → Type 0
AllFrom P k [] = Unit {0}
AllFrom P k (x ∷ xs) = P k x × AllFrom P (suc k) xs

abbrev pub IsAtPlace : ℕ → Option ReaderSeatState → Type 0
IsAtPlace k None = Unit {0}
IsAtPlace k (Some seat) = seat.control ≡ k

-- each seat is at its controller's place
abbrev pub AreAtTheirPlaces : List (Option ReaderSeatState) → Type 0
AreAtTheirPlaces seats = AllFrom IsAtPlace 0 seats

-- the calls at a place are of that place's reader
abbrev pub IsOwn : ℕ → List MadeCall → Type 0
IsOwn k own = IsTrue (list_all (λ (made : MadeCall). is_by_reader k made.event) own)

-- ---- what is seen of a view of the table

abbrev pub SeatView : Type 0
SeatView = View Group Call Reply SeatNote

abbrev pub SeatPlace : Type 0
SeatPlace = Seat (Option Group) SeatView

abbrev pub first_or : Option Group → Group
first_or None = new_group 0 0 0
first_or (Some first) = first

-- the one note of a seat
abbrev pub note_in : List SeatNote → SeatNote
note_in [] = MoverNote (record { 0 = 0 }) []
note_in (note ∷ notes) = note

-- One call of the seat, after which its note is the one after the call.
abbrev pub CalledAt : (old : SeatPlace) → Call → Reply → (new : SeatPlace) → Type 0
CalledAt old call reply new = HasCalled old call reply (note_after call reply (note_in old.me.0.notes)) new

abbrev pub floor_in : SeatNote → Stamp
floor_in (MoverNote last known) = last
floor_in (ReaderNote k floor reporting) = floor

abbrev pub reporting_in : SeatNote → Bool
reporting_in (MoverNote last known) = false
reporting_in (ReaderNote k floor reporting) = reporting

abbrev pub known_in : SeatNote → List (List KnownVolume)
known_in (MoverNote last known) = known
known_in (ReaderNote k floor reporting) = []

-- the volumes that the mover's seat knows
abbrev pub known_at : SeatPlace → List (List KnownVolume)
known_at place = known_in (note_in place.me.0.notes)

abbrev pub reader_view : TableId → (control : ℕ) → SeatView → ReaderSeatState
reader_view table k v = record { table = table; first = first_or v.first; control = k; floor = floor_in (note_in v.notes); reporting = reporting_in (note_in v.notes); calls = v.mine }

abbrev pub mover_view : TableId → SeatView → MoverSeatState
mover_view table v = record { table = table; first = first_or v.first; last = floor_in (note_in v.notes); known = known_in (note_in v.notes); seats = v.seats; calls = v.mine }

abbrev pub reader_note : (control : ℕ) → List SeatNote → SeatNote
reader_note k notes = ReaderNote k (floor_in (note_in notes)) (reporting_in (note_in notes))

abbrev pub mover_note : List SeatNote → SeatNote
mover_note notes = MoverNote (floor_in (note_in notes)) (known_in (note_in notes))

-- A seat's view is sound: it has one note, its own calls alone, and the state that the table was made with, which is sound.
pub record IsViewSound (note : SeatNote) (is_own : Call → Bool) (v : SeatView) : Type 0 where
  pub noted : v.notes ≡ note ∷ []
  pub begun : v.first ≡ Some (first_or v.first)
  pub kept : IsGroupSound (first_or v.first)
  pub own : IsTrue (list_all (λ (made : MadeCall). is_own made.event) v.mine)
  pub unjoined : v.joined ≡ []

abbrev pub IsReaderView : (control : ℕ) → SeatView → Type 0
IsReaderView k v = IsViewSound (reader_note k v.notes) (is_by_reader k) v

abbrev pub IsMoverView : SeatView → Type 0
IsMoverView v = IsViewSound (mover_note v.notes) is_by_mover v
