-- The report of a session: its own line, one line of each controller in order of number, and one line of each pair in the order of the
-- rows. Each line ends with a line feed. A part of a line has its space before it.
use Rattle.std.specs.Prelude.{ℕ, ◌+◌, List, [], ◌∷◌, ◌++◌, length, Option, Some, None, codes, decimal}
use Rattle.std.specs.List.{flat_map}
use Rattle.tod_stamp.specs.Stamps.{stamp_text}
use Rattle.ckd_track.specs.declared.write.Cause.{Cause}
use Rattle.ckd_track.specs.declared.write.Cause.TheVariants.{ReadFault, BadTrace, Crowded}
use Rattle.pair_table.specs.declared.level.Level.{Level}
use Rattle.pair_table.specs.declared.level.Level.TheVariants.{Volume as ByVolume, Session as BySession, Group as ByGroup}
use Rattle.pair_table.specs.declared.row.PairState.{PairState}
use Rattle.pair_table.specs.declared.row.PairState.TheVariants.{Pending, Copy, Duplex, Suspended}
use Rattle.pair_table.specs.States.{cause_word}
use Rattle.pair_table.specs.declared.row.PairRow.{PairRow}
use Rattle.pair_table.specs.Tables.{Table}

abbrev pub level_part : Level → List ℕ
level_part ByVolume = codes " LEVEL VOLUME"
level_part BySession = codes " LEVEL SESSION"
level_part ByGroup = codes " LEVEL GROUP"

-- the session, its level, the time of the journal, and the number of pairs
abbrev pub session_line : Table → Level → (time : ℕ) → List ℕ
session_line table level time = codes "SESSION " ++ table.session ++ level_part level ++ codes " JOURNALED " ++ stamp_text time ++ codes " PAIRS" ++ 32 ∷ decimal (length table.rows) ++ 10 ∷ []

-- ---- controllers

-- why the trace of a controller was given up
abbrev pub break_part : Cause → List ℕ
break_part ReadFault = codes " READFAULT"
break_part (BadTrace place) = codes " BADTRACE" ++ 32 ∷ decimal place
break_part (Crowded stamp) = codes " CROWDED " ++ stamp_text stamp.0

abbrev pub control_part : Option Cause → List ℕ
control_part None = codes " OK"
control_part (Some cause) = codes " BROKEN" ++ break_part cause

abbrev pub control_line : (number : ℕ) → Option Cause → List ℕ
control_line number broken = codes "CONTROL" ++ 32 ∷ decimal number ++ control_part broken ++ 10 ∷ []

-- the lines of controllers from a number on
abbrev pub control_lines : (number : ℕ) → List (Option Cause) → List ℕ
control_lines number [] = []
control_lines number (broken ∷ controls) = control_line number broken ++ control_lines (number + 1) controls

-- ---- pairs

-- how far a pair is
abbrev pub state_part : PairState → List ℕ
state_part Pending = codes " PENDING"
state_part Copy = codes " COPY"
state_part Duplex = codes " DUPLEX"
state_part (Suspended cause since) = codes " SUSPENDED " ++ cause_word cause ++ codes " SINCE " ++ stamp_text since.0

abbrev pub row_line : PairRow → List ℕ
row_line row = codes "PAIR " ++ row.primary ++ codes " " ++ row.secondary ++ state_part row.state ++ 10 ∷ []

-- ---- the report

abbrev pub report_text : Table → Level → (time : ℕ) → List (Option Cause) → List ℕ
report_text table level time controls = session_line table level time ++ control_lines 0 controls ++ flat_map row_line table.rows
