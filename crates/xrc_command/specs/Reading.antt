-- How a line is read from the front: each step gives what it read and the bytes that follow.
use Rattle.std.specs.Prelude.{◌≡◌, ◌↔◌, ℕ, ◌+◌, ◌==◌, ◌||◌, List, [], length, take, drop, Option, Some, None, Result, Ok, Err, if◌then◌else◌, nat_lt, bytes_eq, codes}
use Rattle.std.specs.List.{position, position_or_len}
use Rattle.std.specs.Option.{option_map}
use Rattle.tod_stamp.specs.declared.name_error.NameError.{NameError}
use Rattle.tod_stamp.specs.declared.stamp.Stamp.{Stamp}
use Rattle.tod_stamp.specs.declared.stamp.StampError.{StampError}
use Rattle.tod_stamp.specs.Names.{name_of}
use Rattle.tod_stamp.specs.Stamps.{stamp_of_digits}
use Rattle.pair_table.specs.declared.command.Choice.{Choice}
use Rattle.pair_table.specs.declared.command.Choice.TheVariants.{One, All}
use Rattle.pair_table.specs.declared.command.Command.{Command}
use Rattle.pair_table.specs.declared.command.Command.TheVariants.{Start, AddPair, DelPair, Suspend, Query, End}
use Rattle.pair_table.specs.declared.level.Level.{Level}
use Rattle.pair_table.specs.declared.level.Level.TheVariants.{Volume, Session, Group}
use Rattle.tod_stamp.specs.Options.{◌>>=◌}
use Rattle.xrc_command.specs.declared.line.Line.{Line}
use Rattle.xrc_command.specs.Lines.{IsLine}

-- ---- parts

-- what follows a text that stands in front
unfoldable pub text_at : (expected text : List ℕ) → Option (List ℕ)
text_at expected text = if bytes_eq (take (length expected) text) expected then Some (drop (length expected) text) else None

abbrev pub parted_at : (text : List ℕ) → Option ℕ → Option (List ℕ × List ℕ)
parted_at text None = None
parted_at text (Some place) = Some (take place text, drop (place + 1) text)

-- what stands before the first byte `end`, and what follows that byte
unfoldable pub split_at : (end : ℕ) → (text : List ℕ) → Option (List ℕ × List ℕ)
split_at end text = parted_at text (position (λ byte. byte == end) text)

-- what stands before the first space
unfoldable pub before_space : List ℕ → List ℕ
before_space text = take (position_or_len (λ byte. byte == 32) text) text

-- the rest, with that space
unfoldable pub from_space : List ℕ → List ℕ
from_space text = drop (position_or_len (λ byte. byte == 32) text) text

abbrev pub read_name : Result (List ℕ) NameError → Option (List ℕ)
read_name (Ok name) = Some name
read_name (Err error) = None

-- the serial that the bytes are
unfoldable pub serial_of : List ℕ → Option (List ℕ)
serial_of bytes = read_name (name_of 6 bytes)

-- the session that the bytes name
unfoldable pub session_of : List ℕ → Option (List ℕ)
session_of bytes = read_name (name_of 8 bytes)

-- ---- times

abbrev pub positive_before : (rest : List ℕ) → Result Stamp StampError → Option (Stamp × List ℕ)
positive_before rest (Ok time) = if nat_lt 0 time.0 then Some (time, rest) else None
positive_before rest (Err error) = None

-- the time that the first 16 bytes spell, which isn't zero, and what follows the space after it
unfoldable pub time_at : (bytes : List ℕ) → Option (Stamp × List ℕ)
time_at bytes = if nat_lt (length bytes) 16 then None else do
  text ← text_at (codes " ") (drop 16 bytes)
  positive_before text (stamp_of_digits (take 16 bytes))

-- ---- operands, with the space before them

abbrev pub level_of : (operand : List ℕ) → Option Level
level_of operand =
    if bytes_eq operand [] || bytes_eq operand (codes " ERRORLEVEL(VOLUME)") then Some Volume
    else if bytes_eq operand (codes " ERRORLEVEL(SESSION)") then Some Session
    else if bytes_eq operand (codes " ERRORLEVEL(GROUP)") then Some Group
    else None

abbrev pub both_serials : (primary secondary : List ℕ) → Option (List ℕ × List ℕ)
both_serials primary secondary = do
  first ← serial_of primary
  second ← serial_of secondary
  Some (first, second)

-- the primary and the secondary, and what follows them
unfoldable pub pair_then : (operand : List ℕ) → Option ((List ℕ × List ℕ) × List ℕ)
pair_then operand = do
  names ← text_at (codes " VOLUME(") operand
  first ← split_at 44 names
  second ← split_at 41 first.1
  pair ← both_serials first.0 second.0
  Some (pair, second.1)

-- the primary and the secondary alone
abbrev pub pair_of : (operand : List ℕ) → Option (List ℕ × List ℕ)
pair_of operand = do
  found ← pair_then operand
  if bytes_eq found.1 [] then Some found.0 else None

-- the group that follows a pair, or none if nothing does
unfoldable pub pair_group : (rest : List ℕ) → Option (Option (List ℕ))
pair_group rest = if bytes_eq rest [] then Some None else do
  names ← text_at (codes " GROUP(") rest
  name ← split_at 41 names
  group ← serial_of name.0
  if bytes_eq name.1 [] then Some (Some group) else None

-- the primary and the secondary, and their group
abbrev pub grouped_pair_of : (operand : List ℕ) → Option ((List ℕ × List ℕ) × Option (List ℕ))
grouped_pair_of operand = do
  found ← pair_then operand
  group ← pair_group found.1
  Some (found.0, group)

abbrev pub choice_of : (operand : List ℕ) → Option Choice
choice_of operand = if bytes_eq operand (codes " VOLUME(ALL)") then Some All else option_map (λ pair. One pair.0 pair.1) (pair_of operand)

-- a command that has no operand
abbrev pub bare : Command → (operand : List ℕ) → Option Command
bare command operand = if bytes_eq operand [] then Some command else None

-- ---- commands

unfoldable pub command_of : (word operand : List ℕ) → Option Command
command_of word operand =
    if bytes_eq word (codes "XSTART") then option_map (λ level. Start level) (level_of operand)
    else if bytes_eq word (codes "XADDPAIR") then option_map (λ pair. AddPair pair.0.0 pair.0.1 pair.1) (grouped_pair_of operand)
    else if bytes_eq word (codes "XDELPAIR") then option_map (λ choice. DelPair choice) (choice_of operand)
    else if bytes_eq word (codes "XSUSPEND") then option_map (λ choice. Suspend choice) (choice_of operand)
    else if bytes_eq word (codes "XQUERY") then bare Query operand
    else if bytes_eq word (codes "XEND") then bare End operand
    else None

-- the session and the command
unfoldable pub command_at : (text : List ℕ) → Option (List ℕ × Command)
command_at text = do
  word ← split_at 32 text
  session ← session_of (before_space word.1)
  command ← command_of word.0 (from_space word.1)
  Some (session, command)

-- ---- lines

-- the line that the bytes spell, where they spell one
unfoldable pub line_spelled : (bytes : List ℕ) → Option Line
line_spelled bytes = do
  timed ← time_at bytes
  asked ← command_at timed.1
  Some (record { time = timed.0; session = asked.0; command = asked.1 })

-- The law: what is read of some bytes is a line, exactly where they spell it.
abbrev pub LinesAreRead : Type 0
LinesAreRead = (bytes : List ℕ) (line : Line) → (line_spelled bytes ≡ Some line) ↔ IsLine line bytes
