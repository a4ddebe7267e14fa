-- What holds of a run between two of its calls, where it answers lines one after another.
use Rattle.std.specs.Prelude.{◌≡◌, ℕ, ◌≤◌, ◌==◌, List, [], ◌++◌, length}
use Rattle.crash_plant.specs.Calls.{SameSite}
use Rattle.crash_plant.specs.Moments.{PlantState}
use Rattle.consistency.specs.Stages.{ScriptRun, Stage}
use Rattle.consistency.specs.Courses.{Answered, AreAsked, IsCourse, last_line_time, lines_begun, next_line, replies_of, stage_at, texts_of}
use Rattle.consistency.specs.Moments.{FirstMeans, MomentBears}

-- the stage where these lines are answered and this was heard after them
abbrev pub stage_now : ScriptRun → (script : List ℕ) → List Answered → (text : List ℕ) → Stage
stage_now run script lines text = record (stage_at run lines (length lines)) {
  next = next_line (length lines) (last_line_time lines (length lines)) (length (texts_of lines ++ text) == length script) text;
}

-- Between two calls of a run that keeps its past these lines were answered, this was heard of the next one, and each moment so far
-- bears.
pub record Keeps (run : ScriptRun) (lines : List Answered) (text : List ℕ) (old new : PlantState) : Type 0 where
  pub course : IsCourse run lines
  pub asked : AreAsked old.script lines
  pub later : old.clock ≤ new.clock
  pub site : SameSite old new
  pub heard : new.heard new.clock ≡ old.heard old.clock ++ (texts_of lines ++ text)
  pub script : old.script ≡ texts_of lines ++ text ++ new.script
  pub said : new.said new.clock ≡ old.said old.clock ++ replies_of lines
  pub one_line : lines_begun text ≤ 1
  pub each : (t : ℕ) → old.clock ≤ t → t ≤ new.clock → MomentBears run lines old new t
  -- Once these lines were answered nothing more was said.
  pub unsaid : (t : ℕ) (from : old.clock ≤ t) (to : t ≤ new.clock) → (each t from to).at.answered ≡ length lines → (each t from to).at.part ≡ []
  pub replies : FirstMeans run lines old new each
  pub now : (from : old.clock ≤ new.clock) (to : new.clock ≤ new.clock) → (each new.clock from to).at.answered ≡ length lines
