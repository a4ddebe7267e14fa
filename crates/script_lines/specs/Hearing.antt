-- What hearing a line does to a plant, and to a run that answers lines.
use Rattle.std.specs.Prelude.{◌≡◌, ℕ, ◌<◌, ◌≤◌, List, ◌++◌}
use Rattle.crash_plant.specs.Moments.{PlantState}
use Rattle.consistency.specs.Stages.{ScriptRun}
use Rattle.consistency.specs.Courses.{Answered}
use Rattle.consistency.specs.Keeping.{Keeps}

-- Exactly this text was heard: it stood next in the script.
pub record HearsText (text : List ℕ) (old new : PlantState) : Type 0 where
  pub script : old.script ≡ text ++ new.script
  pub heard : new.heard new.clock ≡ old.heard old.clock ++ text

-- Nothing was said at any moment.
abbrev pub SaysNothing : (old new : PlantState) → Type 0
SaysNothing old new = (t : ℕ) → old.clock ≤ t → t ≤ new.clock → new.said t ≡ old.said old.clock

-- A run that began at the first of three moments and had heard so much of its next line at the second has heard this at the third, and
-- each of its moments bears.
abbrev pub KeepsHearing : (before now : List ℕ) → (first old new : PlantState) → Type 0
KeepsHearing before now first old new = (run : ScriptRun) (lines : List Answered) → 0 < first.clock → Keeps run lines before first old → Keeps run lines now first new
