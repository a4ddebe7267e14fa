-- The lanes of a session over several epochs, and the traces that their sources turn out to give.
use Rattle.std.specs.Prelude.{◌≡◌, ℕ, ◌+◌, ◌-◌, ◌*◌, ◌<◌, ◌≤◌, ◌==◌, not, List, [], ◌∷◌, ◌++◌, length, map, take, Bool, Option, Some, None, is_some, Result, Ok, if◌then◌else◌, slice_get, slice_index_or}
use Rattle.std.specs.List.{All}
use Rattle.xrc_edge.specs.declared.limits.TheConstants.{TRACKS_OF_CYLINDER}
use Rattle.write_trace.specs.declared.header.VolumeHead.{VolumeHead}
use Rattle.write_trace.specs.declared.trace.HeaderError.{HeaderError}
use Rattle.write_trace.specs.declared.trace.Trace.{Trace}
use Rattle.write_trace.specs.WholeTraces.{trace_of}
use Rattle.write_trace.specs.Headers.{cylinders_of}
use Rattle.pair_table.specs.declared.names.NamedVolume.{NamedVolume}
use Rattle.pair_table.specs.Naming.{Naming, with_broken}
use Rattle.group_state.specs.Runs.{Answer}
use Rattle.consistency.specs.Stages.{volumes_named}
use Rattle.fed_logs.specs.Logs.{Sizes}
use Rattle.mover.specs.declared.lane.Lane.{Lane}
use Rattle.mover.specs.Readers.{LaneReaderState}
use Rattle.mover.specs.Lanes.{broken_by, heads_of, reader_in}
use Rattle.mover.specs.Epochs.{AllTurnOut, LaneWent}
use Rattle.mover.specs.Moves.{most_faults}

-- ---- headers

abbrev pub heads_of_reader : Option LaneReaderState → List VolumeHead
heads_of_reader None = []
heads_of_reader (Some r) = heads_of r.feed

-- the volumes that the headers of the lanes' traces name, from this controller on
abbrev pub primaries_in : {S : Type 0} → (control : ℕ) → List (Lane S) → List NamedVolume
primaries_in k [] = []
primaries_in k (lane ∷ lanes) = volumes_named k 0 (heads_of_reader (reader_in lane)) ++ primaries_in (k + 1) lanes

-- Each lane's reader knows a volume of its trace.
abbrev pub HaveVolumes : {S : Type 0} → List (Lane S) → Type 0
HaveVolumes lanes = (k : ℕ) (d : Lane _) → k < length lanes → 1 ≤ length (heads_of_reader (reader_in (slice_index_or lanes k d)))

-- The traces have the volumes that the lanes' readers know.
abbrev pub HaveHeadsOf : {S : Type 0} → List (Lane S) → List Trace → Type 0
HaveHeadsOf lanes traces = map (λ t. t.header.volumes) traces ≡ map (λ lane. heads_of_reader (reader_in lane)) lanes

abbrev pub tracks_of_volume : Option Trace → (volume : ℕ) → ℕ
tracks_of_volume None v = 0
tracks_of_volume (Some t) v = TRACKS_OF_CYLINDER * cylinders_of t.header.volumes v

-- how many tracks the volumes of traces have
abbrev pub sizes_of : List Trace → Sizes
sizes_of traces = λ k v. tracks_of_volume (slice_get traces k) v

-- ---- reading

-- the names once these lanes' controllers were named that have broken
abbrev pub with_lanes_broken : {S : Type 0} → (control : ℕ) → List (Lane S) → Naming → Naming
with_lanes_broken k [] names = names
with_lanes_broken k (lane ∷ lanes) names = with_lanes_broken (k + 1) lanes (if is_some (broken_by (reader_in lane)) then with_broken k names else names)

-- No lane has its reader yet.
abbrev pub HaveNoReader : {S : Type 0} → List (Lane S) → Type 0
HaveNoReader lanes = All (λ lane. reader_in lane ≡ None) lanes

-- Each lane's reader went on, by some calls.
pub record AllWent {S : Type 0} (left : S → Option (List ℕ)) (faults : S → ℕ) (old new : List (Lane S)) : Type 0 where
  pub many : length new ≡ length old
  pub each : (k : ℕ) (d : Lane S) → k < length old → (run : List Answer) × LaneWent left faults run (slice_index_or old k d) (slice_index_or new k d)

-- ---- what sources gave

-- What a source held when a call began, what it has left when the call ends, and whether it failed meanwhile.
pub record SourceBytes : Type 0 where
  pub held : List ℕ
  pub rest : List ℕ
  pub has_failed : Bool

-- all bytes that it held, or those that it gave before it failed
abbrev pub bytes_given : SourceBytes → List ℕ
bytes_given s = if s.has_failed then take (length s.held - length s.rest) s.held else s.held

-- the trace of these bytes, or why its header is refused
abbrev pub trace_given : SourceBytes → Result Trace HeaderError
trace_given s = trace_of s.has_failed (bytes_given s)

-- A source tells its bytes, and its count of faults, which ends below the largest number, tells whether it failed.
pub record SourceTold {S : Type 0} (left : S → Option (List ℕ)) (faults : S → ℕ) (before now : S) (s : SourceBytes) : Type 0 where
  pub held : left before ≡ Some s.held
  pub rest : left now ≡ Some s.rest
  pub failed : s.has_failed ≡ not (faults now == faults before)
  pub below : faults now < most_faults

-- So does the source of each lane.
pub record AllTold {S : Type 0} (left : S → Option (List ℕ)) (faults : S → ℕ) (before now : List (Lane S)) (sources : List SourceBytes) : Type 0 where
  pub many : length sources ≡ length before
  pub each : (k : ℕ) (d : Lane S) (s : SourceBytes) → slice_get sources k ≡ Some s → SourceTold left faults (slice_index_or before k d).source (slice_index_or now k d).source s

-- These are the traces of what the sources gave.
abbrev pub AreTracesGiven : List SourceBytes → List Trace → Type 0
AreTracesGiven sources traces = map trace_given sources ≡ map (λ t. Ok t) traces

-- Lanes that were just opened after the headers: whatever their sources turn out to give by a later time is the traces of these lanes, if each
-- lane's reader went on to then.
abbrev pub TurnOutFrom : {S : Type 0} → (left : S → Option (List ℕ)) → (faults : S → ℕ) → (before opened : List (Lane S)) → Type 0
TurnOutFrom left faults before opened = (last : _) (sources : List SourceBytes) (traces : List Trace) → AllTold left faults before last sources → AreTracesGiven sources traces → AllWent left faults opened last
    → AllTurnOut left traces opened last × HaveHeadsOf opened traces
