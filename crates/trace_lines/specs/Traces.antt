-- What the lines of a text say together: the trace that they spell, or the first line that is refused and why.
use Rattle.std.specs.Prelude.{◌≡◌, ℕ, ◌+◌, ◌==◌, ◌&&◌, List, [], ◌∷◌, ◌++◌, length, Bool, Option, Some, None, Result, Ok, Err, not, if◌then◌else◌}
use Rattle.tod_stamp.specs.Fields.{is_version}
use Rattle.ckd_track.specs.Effects.{keeps_rules}
use Rattle.write_trace.specs.declared.header.Header.{Header}
use Rattle.write_trace.specs.declared.header.VolumeHead.{VolumeHead}
use Rattle.write_trace.specs.declared.entry.Entry.{Entry}
use Rattle.write_trace.specs.declared.entry.Entry.TheVariants.{Written, Idle}
use Rattle.write_trace.specs.Headers.{header_spelling, is_header, is_track_of}
use Rattle.write_trace.specs.Entries.{entry_spelling, is_stamp_from, stamp_of}
use Rattle.trace_lines.specs.declared.draft.Draft.{Draft}
use Rattle.trace_lines.specs.declared.draft.Untaken.{Untaken}
use Rattle.trace_lines.specs.declared.draft.Untaken.TheVariants as untaken
use Rattle.trace_lines.specs.declared.line.Line.{Line}
use Rattle.trace_lines.specs.declared.line.Line.TheVariants.{Nothing, Version, Volume, Base, Told}
use Rattle.trace_lines.specs.declared.refusal.Cause.{Cause}
use Rattle.trace_lines.specs.declared.refusal.Cause.TheVariants.{Grammar, Order, Rule}
use Rattle.trace_lines.specs.declared.refusal.Refusal.{Refusal}
use Rattle.trace_lines.specs.declared.refusal.Unwritten.{Unwritten}
use Rattle.trace_lines.specs.declared.refusal.Unwritten.TheVariants as unwritten
use Rattle.trace_lines.specs.Lines.{line_in}
use Rattle.trace_lines.specs.Pieces.{pieces_of}

-- ---- what is said after a line

-- what lines have said: the header, the spelling of the entries, and the last one's stamp, or 0
pub record Said : Type 0 where
  pub header : Header
  pub entries : List ℕ
  pub last : ℕ

-- A text that names no version says a trace of version 1.
abbrev pub nothing_said : Said
nothing_said = record { header = record { version = 1; volumes = []; base = [] }; entries = []; last = 0 }

-- what the lines of a draft have said
abbrev pub said_by : Draft → Said
said_by draft = record { header = draft.header; entries = draft.entries; last = draft.last }

-- the header, if it keeps the rules
unfoldable pub with_header : Header → (entries : List ℕ) → (last : ℕ) → Result Said Cause
with_header header entries last = if is_header header then Ok (record { header = header; entries = entries; last = last }) else Err Rule

-- Whether an entry may follow one of the stamp `last`. What a whole track holds is a track by its type.
abbrev pub may_follow : List VolumeHead → (last : ℕ) → Entry → Bool
may_follow volumes last (Idle stamp) = is_stamp_from last stamp.0
may_follow volumes last (Written w) = is_stamp_from last w.stamp.0 && is_track_of volumes w.volume w.track && keeps_rules w.kind

-- the entry's spelling after those before it, if it may follow
unfoldable pub with_entry : Entry → Said → Result Said Cause
with_entry e said =
    if may_follow said.header.volumes said.last e
    then Ok (record { header = said.header; entries = said.entries ++ entry_spelling said.header.version e; last = stamp_of e }) else Err Rule

abbrev pub header_of_version : (version : ℕ) → Header → Header
header_of_version version header = record { version = version; volumes = header.volumes; base = header.base }

abbrev pub header_with_volume : VolumeHead → Header → Header
header_with_volume v header = record { version = header.version; volumes = header.volumes ++ v ∷ []; base = header.base }

-- The version comes first, then volumes, then base tracks, then entries.
unfoldable pub with_line : Line → Said → Result Said Cause
with_line Nothing said = Ok said
with_line (Version version) said =
    if not (length said.header.volumes == 0) then Err Order
    else if is_version version then Ok (record { header = header_of_version version said.header; entries = said.entries; last = said.last }) else Err Rule
with_line (Volume v) said =
    if length said.header.base == 0 && length said.entries == 0
    then with_header (header_with_volume v said.header) said.entries said.last else Err Order
with_line (Base volume track content) said =
    if length said.entries == 0
    then with_header (record { version = said.header.version; volumes = said.header.volumes; base = said.header.base ++ (volume, track, content) ∷ [] }) said.entries said.last else Err Order
with_line (Told e) said = if length said.header.volumes == 0 then Err Order else with_entry e said

abbrev pub with_line_read : Option Line → Said → Result Said Cause
with_line_read None said = Err Grammar
with_line_read (Some line) said = with_line line said

-- what is said with a line's text
unfoldable pub with_text : (text : List ℕ) → Said → Result Said Cause
with_text text said = with_line_read (line_in text) said

-- ---- the lines of a text

-- What is said by lines after the first `number` ones. Lines are counted from 1. A text without a volume is refused behind its last line.
abbrev pub said_from : (number : ℕ) → Said → (lines : List (List ℕ)) → Result Said Refusal
said_from number said [] = if length said.header.volumes == 0 then Err (record { line = number + 1; cause = Order }) else Ok said
said_from number said (line ∷ lines) = elim (with_text line said) [
  | Ok next ↦ said_from (number + 1) next lines
  | Err cause ↦ Err (record { line = number + 1; cause = cause })
]

abbrev pub spelled : Result Said Refusal → Result (List ℕ) Refusal
spelled (Ok said) = Ok (header_spelling said.header ++ said.entries)
spelled (Err refusal) = Err refusal

-- The trace that the lines of a text say.
unfoldable pub trace_in : (text : List ℕ) → Result (List ℕ) Refusal
trace_in text = spelled (said_from 0 nothing_said (pieces_of 10 text))

-- ---- answers, where memory may be wanting

abbrev pub IsDraft : Result Draft Untaken → (said : Result Said Cause) → Type 0
IsDraft (Ok draft) said = said ≡ Ok (said_by draft)
IsDraft (Err untaken.NoMemory) said = Unit {0}
IsDraft (Err (untaken.Refused cause)) said = said ≡ Err cause

abbrev pub IsTrace : Result (List ℕ) Unwritten → (said : Result (List ℕ) Refusal) → Type 0
IsTrace (Ok bytes) said = said ≡ Ok bytes
IsTrace (Err unwritten.NoMemory) said = Unit {0}
IsTrace (Err (unwritten.Refused refusal)) said = said ≡ Err refusal
