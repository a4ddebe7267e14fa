-- What a seat knows of the state that is due, and what a call makes of it.
use Rattle.std.specs.Prelude.{◌≡◌, ℕ, suc, ◌<◌, ◌==◌, ◌&&◌, nat_lt, List, [], ◌∷◌, length, map, Bool, false, Option, Some, None, if◌then◌else◌, slice_index_or, slice_set}
use Rattle.tod_stamp.specs.declared.stamp.Stamp.{Stamp}
use Rattle.std.specs.List.{list_any}
use Rattle.pending_queue.specs.Entries.{WaitingEntry}
use Rattle.group_state.specs.declared.volume.Volume.{Volume}
use Rattle.group_state.specs.Controls.{ControlState, is_reporting}
use Rattle.turn.specs.Turn.{AllTrue}
use Rattle.group_state.specs.Groups.{Group, Shown, control_at}
use Rattle.group_state.specs.Machine.{Call, Reply}
use Rattle.group_state.specs.Calls.{reporting_after}
use Rattle.group_state.specs.Machine.Call.{Join, Raise, Break, Form, Drop}
use Rattle.group_state.specs.Machine.Reply.{Joined}
use Rattle.group_state.specs.Runs.{shown_by}

-- a volume of a controller: its number, whether it is carried, and how many tracks it has
pub record KnownVolume : Type 0 where
  pub number : ℕ
  pub carried : Bool
  pub tracks : ℕ

abbrev pub known_volume : Volume → KnownVolume
known_volume u = record { number = u.number; carried = u.carried; tracks = length u.map }

abbrev pub known_of : ControlState → List KnownVolume
known_of c = map known_volume c.volumes

-- the volumes of each controller
abbrev pub volumes_known : Group → List (List KnownVolume)
volumes_known s = map known_of s.controls

-- whether an entry is on a track of a volume that is carried
abbrev pub is_of_carried : List (List KnownVolume) → WaitingEntry → Bool
is_of_carried known e = list_any (λ (u : KnownVolume). u.number == e.head.volume && (u.carried && nat_lt e.head.track u.tracks)) (slice_index_or known e.head.control [])

-- The mover knows the last cut and the volumes of each controller. A reader knows its controller's number and floor, and whether the
-- controller still reports.
pub data SeatNote : Type 0 where
  MoverNote : (last : Stamp) → (known : List (List KnownVolume)) → SeatNote
  ReaderNote : (control : ℕ) → (floor : Stamp) → (reporting : Bool) → SeatNote

-- The mover's note is about part 0 of the state, and the one of controller k about part k + 1.
abbrev pub part_of : SeatNote → ℕ
part_of (MoverNote last known) = 0
part_of (ReaderNote k floor reporting) = suc k

-- a controller has reported up to a time, and it still reports or has broken
abbrev pub IsReportedAs : (floor : Stamp) → (reporting : Bool) → ControlState → Type 0
IsReportedAs floor reporting c = (c.floor ≡ floor) × (is_reporting c.phase ≡ reporting)

-- a note is true of a state
abbrev pub says : Group → SeatNote → Type 0
says s (MoverNote last known) = (s.last ≡ last) × (volumes_known s ≡ known)
says s (ReaderNote k floor reporting) = (k < length s.controls) × IsReportedAs floor reporting (control_at s k)

-- What is true of these notes was true of those before, whatever the state.
abbrev pub KeepsNotes : (before now : List SeatNote) → Type 0
KeepsNotes before now = (s : Group) → AllTrue says s now → AllTrue says s before

-- ---- the notes at the start

abbrev pub reader_notes : (first : ℕ) → List ControlState → List SeatNote
reader_notes k [] = []
reader_notes k (c ∷ controls) = ReaderNote k c.floor (is_reporting c.phase) ∷ reader_notes (suc k) controls

-- the mover's first, then each reader's
abbrev pub notes_of : Group → List SeatNote
notes_of s = MoverNote s.last (volumes_known s) ∷ reader_notes 0 s.controls

-- ---- what a call makes of the note of the seat that makes it

abbrev pub without_carrying : (volume : ℕ) → List KnownVolume → List KnownVolume
without_carrying v [] = []
without_carrying v (u ∷ known) = if u.number == v then record u { carried = false } ∷ known else u ∷ without_carrying v known

-- A drop ends the carrying of its volume; no other call of a seat changes what is carried.
abbrev pub known_after : Call → List (List KnownVolume) → List (List KnownVolume)
known_after (Drop k v all) known = slice_set known k (without_carrying v (slice_index_or known k []))
known_after call known = known

abbrev pub last_by : Option Shown → (last : Stamp) → Stamp
last_by None last = last
last_by (Some shown) last = shown.cut

-- the last cut is the one that a form shows
abbrev pub last_after : Call → Reply → (last : Stamp) → Stamp
last_after (Form limit) reply last = last_by (shown_by reply) last
last_after call reply last = last

-- the floor is the time of a batch that was joined, of a raise or of a break
abbrev pub floor_after : Call → Reply → (floor : Stamp) → Stamp
floor_after (Join b) Joined floor = b.upto
floor_after (Raise k upto) reply floor = upto
floor_after (Break k upto cause) reply floor = upto
floor_after call reply floor = floor

abbrev pub note_after : Call → Reply → SeatNote → SeatNote
note_after call reply (MoverNote last known) = MoverNote (last_after call reply last) (known_after call known)
note_after call reply (ReaderNote k floor reporting) = ReaderNote k (floor_after call reply floor) (reporting_after call reporting)
