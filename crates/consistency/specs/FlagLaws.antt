-- The laws of the flag that is 1 at the time of an accepted end alone. Each is the contract of a public function.
use Rattle.std.specs.Prelude.{◌≡◌, ℕ, List, Bool, false, Option, IsTrue}
use Rattle.std.specs.List.{All, list_all}
use Rattle.row_changes.specs.Changes.{Timed}
use Rattle.xrc_command.specs.declared.line.Line.{Line}
use Rattle.consistency.specs.Stages.{IsFlag, ScriptRun, Stage}
use Rattle.consistency.specs.Bearing.{IsFlagInTime, MayBeMeant, MayBeMeantInTime}
use Rattle.consistency.specs.Leads.{Point}
use Rattle.passages.specs.Points.{AreLinked}
use Rattle.consistency.specs.Ways.{ComesNext, IsCommanding, IsEnding, IsLegOf, IsMarking, Leg, PassedPoint, is_on_the_way, leg_after, stage_point}

-- A flag that is in time is one that devices may have at the stage.
abbrev pub FlagsInTimeMayBe : Type 0
FlagsInTimeMayBe = (run : ScriptRun) (s : Stage) (time : ℕ) (flag : Bool) → IsFlagInTime run s time flag → IsFlag run s flag

-- The point of a leg that may be meant may be meant in time, and so may each on the way.
abbrev pub LegsMayBeMeantInTime : Type 0
LegsMayBeMeantInTime = (run : ScriptRun) (s : Stage) (l : Leg) → s.table.is_ended ≡ false → IsLegOf run s l → MayBeMeant run s l.point → MayBeMeantInTime run s l.point

abbrev pub WaysMayBeMeantInTime : Type 0
WaysMayBeMeantInTime = (run : ScriptRun) (s : Stage) (asked : ℕ → Option Line) (l : Leg) (points : List PassedPoint) → s.table.is_ended ≡ false → IsLegOf run s l → IsTrue (list_all is_on_the_way points)
    → AreLinked (ComesNext run asked) leg_after l points → All (λ n. MayBeMeant run s n.point) points → All (λ n. MayBeMeantInTime run s n.point) points

-- So may the point of the next line's command, that of a mark which its record needs first, and that of the end, which has the line's time.
abbrev pub CommandsMayBeMeantInTime : Type 0
CommandsMayBeMeantInTime = (run : ScriptRun) (s : Stage) (l : Leg) (q : Point) (hits : List Timed) → s.table.is_ended ≡ false → IsLegOf run s l → IsCommanding run s.next l q hits → MayBeMeant run s q → MayBeMeantInTime run s q

abbrev pub MarksMayBeMeantInTime : Type 0
MarksMayBeMeantInTime = (run : ScriptRun) (s : Stage) (l : Leg) (q : Point) (hits : List Timed) → s.table.is_ended ≡ false → IsLegOf run s l → IsMarking run s.next l q hits → MayBeMeant run s q → MayBeMeantInTime run s q

abbrev pub EndingsMayBeMeantInTime : Type 0
EndingsMayBeMeantInTime = (run : ScriptRun) (s : Stage) (l : Leg) (q r : Point) (hits more : List Timed) → s.table.is_ended ≡ false → IsLegOf run s l → IsCommanding run s.next l q hits → IsEnding run s.next q r more
    → MayBeMeant run s r → MayBeMeantInTime run s r

-- So may the point of a stage.
abbrev pub StagesMayBeMeantInTime : Type 0
StagesMayBeMeantInTime = (run : ScriptRun) (s : Stage) → MayBeMeant run s (stage_point s) → MayBeMeantInTime run s (stage_point s)
