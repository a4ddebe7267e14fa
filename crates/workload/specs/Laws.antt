-- The laws of generated inputs.
use Rattle.std.specs.Prelude.{◌≡◌, ◌<◌, ℕ, map, false, Ok, IsTrue}
use Rattle.std.specs.List.{All}
use Rattle.xrc_edge.specs.Order.{never_fall}
use Rattle.write_trace.specs.declared.trace.Trace.{Trace}
use Rattle.write_trace.specs.declared.trace.TraceEnd.TheVariants.{Ended}
use Rattle.write_trace.specs.WholeTraces.{trace_of}
use Rattle.xrc_command.specs.declared.line.Line.{Line}
use Rattle.xrc_command.specs.Lines.{IsLine}
use Rattle.workload.specs.declared.layout.TheConstants.{CONTENT, CONTROLS, CYLINDERS, FIRST_STAMP, JOURNALS, PAIRS, RECORDS, VOLUMES, WRITES}
use Rattle.workload.specs.Traces.{generated_entries, generated_header, generated_trace}
use Rattle.workload.specs.Scripts.{generated_line_text, generated_lines}

-- The definitions of a generated input name its numbers. Here each name has its number.
pub record IsInputFixed : Type 0 where
  pub controls : CONTROLS ≡ 4
  pub volumes : VOLUMES ≡ 2
  pub cylinders : CYLINDERS ≡ 1
  pub records : RECORDS ≡ 4
  pub content : CONTENT ≡ 8
  pub writes : WRITES ≡ 500
  pub first_stamp : FIRST_STAMP ≡ 1000
  pub pairs : PAIRS ≡ 8
  pub journals : JOURNALS ≡ 2

-- the trace of a controller: its header and all its writes, and a clean end
abbrev pub whole_generated : (number control : ℕ) → Trace
whole_generated number control = record { header = generated_header control; entries = generated_entries number control; end = Ended }

-- The bytes of each trace are that trace, if no call on its source fails.
abbrev pub TracesAreGood : Type 0
TracesAreGood = (number control : ℕ) → control < CONTROLS → trace_of false (generated_trace number control) ≡ Ok (whole_generated number control)

-- Each line of the script spells its command, and their times never fall.
abbrev pub ScriptsAreRead : Type 0
ScriptsAreRead = All (λ line. IsLine line (generated_line_text line)) generated_lines × IsTrue (never_fall 1 (map (λ (line : Line). line.time.0) generated_lines))
