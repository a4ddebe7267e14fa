-- What the images that a crash leaves must mean, where a run stands between two lines.
use Rattle.std.specs.Prelude.{◌≡◌, ◌⊎◌, ℕ, ◌+◌, ◌≤◌, ◌<◌, ◌*◌, not, List, [], ◌∷◌, ◌++◌, map, Bool, true, false, Option, Some, None, is_none, slice_get, IsTrue}
use Rattle.xrc_edge.specs.declared.limits.TheConstants.{TRACKS_OF_CYLINDER}
use Rattle.write_trace.specs.declared.header.VolumeHead.{VolumeHead}
use Rattle.write_trace.specs.declared.trace.Trace.{Trace}
use Rattle.sidefile.specs.Breaks.{break_time}
use Rattle.primary_ctl.specs.Primaries.{primary}
use Rattle.pair_table.specs.declared.level.Level.{Level}
use Rattle.pair_table.specs.declared.names.NamedDevice.{NamedDevice}
use Rattle.pair_table.specs.declared.names.NamedVolume.{NamedVolume}
use Rattle.pair_table.specs.declared.row.PairRow.{PairRow}
use Rattle.pair_table.specs.declared.row.PairState.TheVariants.{Duplex}
use Rattle.pair_table.specs.Commands.{is_end}
use Rattle.pair_table.specs.Naming.{Naming}
use Rattle.pair_table.specs.Refusals.{refusal}
use Rattle.pair_table.specs.Tables.{Table}
use Rattle.row_changes.specs.Changes.{Timed, after_changes}
use Rattle.row_changes.specs.Spans.{AreCounted, Toward}
use Rattle.site_means.specs.Images.{Images, Shape}
use Rattle.site_means.specs.Sight.{content_in}
use Rattle.xrc_command.specs.declared.line.Line.{Line}
use Rattle.consistency.specs.Steps.{IsCommanded, names_at, table_after_line}

-- What stays over a run: the session's name, the traces, the labels as the session's start read them, the level of that start, and by
-- how much the count of faults of each volume rises over the run.
pub record ScriptRun : Type 0 where
  pub session : List ℕ
  pub traces : List Trace
  pub labels : List NamedDevice
  pub level : Level
  pub rises : (device : ℕ) → ℕ

abbrev pub breaks_of : ScriptRun → List (Option ℕ)
breaks_of run = map break_time run.traces

-- ---- the names

-- the volumes that a controller's header names, from this one on
abbrev pub volumes_named : (control volume : ℕ) → List VolumeHead → List NamedVolume
volumes_named control volume [] = []
volumes_named control volume (head ∷ heads) = record { serial = head.serial; control = control; volume = volume; cylinders = head.cylinders } ∷ volumes_named control (volume + 1) heads

-- the volumes that the headers of the traces name, from this controller on
abbrev pub primaries_named : (control : ℕ) → List Trace → List NamedVolume
primaries_named control [] = []
primaries_named control (t ∷ traces) = volumes_named control 0 t.header.volumes ++ primaries_named (control + 1) traces

abbrev pub names_of : ScriptRun → Naming
names_of run = record { primaries = primaries_named 0 run.traces; labels = run.labels; broken = [] }

-- ---- where a run stands

-- Where a run stands after some lines were answered: the table as the devices had it when the last reply had just been said whole,
-- the stamp after `T=` in that reply, all changes of rows in the steps up to there, and the next line, where it was heard whole.
pub record Stage : Type 0 where
  pub table : Table
  pub replied : ℕ
  pub past : List Timed
  pub next : Option Line

-- ---- the ended flag

abbrev pub accepts : ScriptRun → Table → Line → Bool
accepts run table line = is_none (refusal (names_at line.time.0 (breaks_of run) (names_of run)) table line.session line.command)

-- whether the next line is an end that the command table accepts
abbrev pub accepts_end : ScriptRun → Table → Option Line → Bool
accepts_end run table None = false
accepts_end run table (Some line) = elim (is_end line.command) [ true ↦ accepts run table line | false ↦ false ]

-- The ended flag is 1 after an accepted end was answered, free from when one was heard whole to its reply, and else 0.
abbrev pub IsFlag : ScriptRun → Stage → Bool → Type 0
IsFlag run s flag = IsTrue (accepts_end run s.table s.next) ⊎ (flag ≡ s.table.is_ended)

-- ---- the time

-- The time is the replied one where no further line was heard whole, or the session has ended. Else it lies from that to the line's
-- time.
abbrev pub IsTime : Stage → ℕ → Type 0
IsTime s time = (s.replied ≤ time) × elim s.next [
  | None ↦ time ≡ s.replied
  | Some line ↦ elim s.table.is_ended [ true ↦ time ≡ s.replied | false ↦ time ≤ line.time.0 ]
]

-- ---- the rows

-- The rows are on their way: they come from those at the last reply by changes up to the time.
pub record AreOnTheWay (run : ScriptRun) (s : Stage) (time : ℕ) (rows : List PairRow) : Type 0 where
  pub changes : List Timed
  pub toward : Toward run.level (breaks_of run) (not (is_none s.next)) s.replied time s.table.rows changes
  pub counted : AreCounted run.rises (s.past ++ changes)
  pub made : rows ≡ after_changes run.level changes s.table.rows

-- At the time of the next line they are those after its command, or after hits that follow it.
pub record AreAfterLine (run : ScriptRun) (s : Stage) (time : ℕ) (rows : List PairRow) : Type 0 where
  pub line : Line
  pub heard : s.next ≡ Some line
  pub at : time ≡ line.time.0
  pub changes : List Timed
  pub hits : List Timed
  pub commanded : IsCommanded run.level (breaks_of run) (names_of run) s.replied s.table line changes hits
  pub counted : AreCounted run.rises (s.past ++ changes ++ hits)
  pub made : rows ≡ (table_after_line run.level (breaks_of run) (names_of run) s.table line changes hits).rows

-- After the session has ended there are no changes.
abbrev pub AreRows : ScriptRun → Stage → ℕ → List PairRow → Type 0
AreRows run s time rows = elim s.table.is_ended [
  | true ↦ rows ≡ s.table.rows
  | false ↦ AreOnTheWay run s time rows ⊎ AreAfterLine run s time rows
]

-- ---- the tracks

-- the tracks of a primary
abbrev pub tracks_of_row : PairRow → ℕ
tracks_of_row r = TRACKS_OF_CYLINDER * r.cylinders

-- Each duplex row's device has on each track the primary's track at the time: after exactly the writes stamped up to it.
abbrev pub HoldsPrimaries : ScriptRun → Shape → Images → List PairRow → ℕ → Type 0
HoldsPrimaries run shape images rows time = (place : ℕ) (r : PairRow) → slice_get rows place ≡ Some r → r.state ≡ Duplex
    → (track : ℕ) → track < tracks_of_row r → content_in shape images r.device track ≡ Some (primary run.traces time r.control r.volume track)
