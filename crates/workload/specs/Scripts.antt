-- The script of a generated input: a session GEN to which all pairs are added before the first write. The first pair is suspended
-- among the writes, and added again. The session ends after the last write.
use Rattle.std.specs.Prelude.{ℕ, ◌+◌, List, [], ◌∷◌, ◌++◌, None, map, codes}
use Rattle.std.specs.List.{flat_map, range_with_len}
use Rattle.tod_stamp.specs.Stamps.{stamp_text}
use Rattle.pair_table.specs.declared.level.Level.TheVariants.{Volume}
use Rattle.pair_table.specs.declared.command.Choice.TheVariants.{One}
use Rattle.pair_table.specs.declared.command.Command.{Command}
use Rattle.pair_table.specs.declared.command.Command.TheVariants.{Start, AddPair, DelPair, Suspend, Query, End}
use Rattle.xrc_command.specs.Lines.{command_text, short_start_text}
use Rattle.xrc_command.specs.declared.line.Line.{Line}
use Rattle.workload.specs.declared.layout.TheConstants.{PAIRS}
use Rattle.workload.specs.Traces.{primary_named}

-- `GS` and the digit of a number below 10
abbrev pub secondary_named : (number : ℕ) → List ℕ
secondary_named number = codes "GS" ++ (48 + number) ∷ []

abbrev pub generated_session : List ℕ
generated_session = codes "GEN"

abbrev pub line_at : (time : ℕ) → Command → Line
line_at time command = record { time = record { 0 = time }; session = generated_session; command = command }

abbrev pub adds_pair : (number : ℕ) → Command
adds_pair number = AddPair (primary_named number) (secondary_named number) None

abbrev pub suspends_pair : (number : ℕ) → Command
suspends_pair number = Suspend (One (primary_named number) (secondary_named number))

abbrev pub generated_lines : List Line
generated_lines =
    line_at 500 (Start Volume) ∷ map (λ number. line_at 600 (adds_pair number)) (range_with_len 0 PAIRS)
    ++ line_at 1500 (suspends_pair 0) ∷ line_at 2500 (adds_pair 0) ∷ line_at 3500 End ∷ []

-- A start leaves its level out.
abbrev pub short_text : (session : List ℕ) → Command → List ℕ
short_text session (Start level) = short_start_text session
short_text session (AddPair primary secondary group) = command_text session (AddPair primary secondary group)
short_text session (DelPair choice) = command_text session (DelPair choice)
short_text session (Suspend choice) = command_text session (Suspend choice)
short_text session Query = command_text session Query
short_text session End = command_text session End

-- a line without its line feed
abbrev pub generated_line_text : Line → List ℕ
generated_line_text line = stamp_text line.time.0 ++ codes " " ++ short_text line.session line.command

abbrev pub generated_script : List ℕ
generated_script = flat_map (λ line. generated_line_text line ++ 10 ∷ []) generated_lines
