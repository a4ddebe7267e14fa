-- How the volumes of a session are written, line by line.
use Rattle.std.specs.Prelude.{◌≡◌, ℕ, suc, ◌+◌, ◌≤◌, List, [], ◌∷◌, ◌++◌, length, take, Option, IfSome}
use Rattle.std.specs.List.{flat_map}
use Rattle.crash_plant.specs.Moments.{PlantState}
use Rattle.xrc_command.specs.declared.line.Line.{Line}
use Rattle.passages.specs.Points.{last_point}
use Rattle.consistency.specs.Courses.{Answered, replies_of, texts_of}
use Rattle.consistency.specs.Leads.{Point}
use Rattle.consistency.specs.Ways.{PassedPoint}
use Rattle.xrc_session.specs.WrittenParts.{WritesInParts, WrittenPart, points_of_parts}

-- At this moment the reply to a line had been said and nothing of the next line was heard, and these parts came since the reply before it.
pub record WrittenLine : Type 0 where
  pub at : ℕ
  pub parts : List WrittenPart

-- the points that were passed in its parts
abbrev pub points_of_line : WrittenLine → List PassedPoint
points_of_line w = points_of_parts w.parts

-- From a moment on, at which devices are at a point after so many lines, the volumes are written in parts: up to each reply, and from the last of
-- these up to now.
abbrev pub WritesByLines : List Answered → (began now : PlantState) → (from : ℕ) → Point → (answered : ℕ) → List WrittenLine → (more : List WrittenPart) → Type 0
WritesByLines lines began now from p answered [] more = WritesInParts now from now.clock p more
WritesByLines lines began now from p answered (w ∷ written) more =
    WritesInParts now from w.at p w.parts × (now.heard w.at ≡ began.heard began.clock ++ texts_of (take (suc answered) lines)) × (now.said w.at ≡ began.said began.clock ++ replies_of (take (suc answered) lines))
    × WritesByLines lines began now w.at (last_point p (points_of_line w)) (suc answered) written more

-- So they are with each of these lines, since the first ones: but for the last line where none was heard after it, whose reply may not have been said.
pub record AreWrittenByLines (lines : List Answered) (asked : Option Line) (first : ℕ) (points : List PassedPoint) (p : Point) (from : ℕ) (began now : PlantState) : Type 0 where
  pub written : List WrittenLine
  pub more : List WrittenPart
  pub are : points ≡ flat_map points_of_line written ++ points_of_parts more
  pub below : first + length written ≤ length lines
  pub nearly : length lines ≤ suc (first + length written)
  pub all : IfSome asked (λ line. length lines ≤ first + length written)
  pub by_lines : WritesByLines lines began now from p first written more
