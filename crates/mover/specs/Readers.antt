-- A lane's reader as contracts see it, and its seat.
use Rattle.std.specs.Prelude.{◌≡◌, ◌*◌, ◌==◌, ◌&&◌, nat_lt, Bool, List, [], length, map, Option, IsTrue}
use Rattle.std.specs.List.{list_all}
use Rattle.xrc_edge.specs.declared.limits.TheConstants.{TRACKS_OF_CYLINDER}
use Rattle.write_trace.specs.declared.header.VolumeHead.{VolumeHead}
use Rattle.write_trace.specs.Headers.{cylinders_of}
use Rattle.group_state.specs.declared.volume.Volume.{Volume}
use Rattle.group_state.specs.Controls.{ControlState}
use Rattle.group_state.specs.Groups.{control_at, new_group}
use Rattle.fed_logs.specs.declared.reading.Reading.{Reading}
use Rattle.fed_logs.specs.LaneFeeds.{FeedState}
use Rattle.fed_logs.specs.Reporters.{ReporterState}
use Rattle.turn_group.specs.Calls.{as_answer}
use Rattle.turn_group.specs.Seats.{ReaderSeatState, TurnState}

-- A reader: its feed, its seat while it has one, and what became of its part of the last round, if there was one in this epoch.
pub record LaneReaderState : Type 0 where
  pub feed : FeedState
  pub seat : Option ReaderSeatState
  pub last : Option Reading

-- ---- sizes

-- a volume has a number of the header's volumes, and as many tracks as that one
abbrev pub is_of_header : List VolumeHead → Volume → Bool
is_of_header heads u = nat_lt u.number (length heads) && length u.map == TRACKS_OF_CYLINDER * cylinders_of heads u.number

-- Each volume that a controller carries or keeps a map of has there as many tracks as the header of its trace gives it.
abbrev pub IsOfHeader : List VolumeHead → ControlState → Type 0
IsOfHeader heads c = IsTrue (list_all (is_of_header heads) c.volumes)

-- ---- seats

abbrev pub no_table : TurnState
no_table = record { table = record { words = 0; slots = 0; views_name = 0; atom = 0; block = 0; offset = 0; slot_names = [] }; first = new_group 0 0 0 }

-- A seat is at a table, and the volumes there are those of its controller's trace.
pub record SitsAt (at : TurnState) (heads : List VolumeHead) (seat : ReaderSeatState) : Type 0 where
  pub here : seat.table ≡ at.table
  pub begun : seat.first ≡ at.first
  pub sized : IsOfHeader heads (control_at at.first seat.control)

-- A seat as what a feed reports, whose trace has these volumes.
abbrev pub reporter_of : List VolumeHead → ReaderSeatState → ReporterState
reporter_of heads seat = record {
  control = seat.control;
  volumes = heads;
  floor = seat.floor.0;
  reporting = seat.reporting;
  answers = map as_answer seat.calls;
}
