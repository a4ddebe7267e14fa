-- What was said.
use Rattle.std.specs.Prelude.{◌≡◌, ◌≤◌, ◌+◌, ◌⊎◌, ◌++◌, ℕ, List, Result, OnOk}
use Rattle.xrc_edge.specs.Causes.{Rose, HasCause}
use Rattle.crash_plant.specs.Moments.{PlantState}
use Rattle.crash_plant.specs.Calls.{Says, WorksOnConsole}

-- Nothing but the console was worked on, and at every moment a front of the text was said, which never gets shorter.
pub record SaysFront (tells : Type 0) (text : List ℕ) (old new : PlantState) : Type 0 where
  pub only : WorksOnConsole tells old new
  pub moments : tells → Says text old new

-- The text was said whole.
abbrev pub SaidWhole : (text : List ℕ) → PlantState → PlantState → Type 0
SaidWhole text old new = new.said new.clock ≡ old.said old.clock ++ text

-- So it was, and no call on the console failed.
pub record SaysWhole (tells : Type 0) (text : List ℕ) (old new : PlantState) : Type 0 where
  pub front : SaysFront tells text old new
  pub whole : tells → SaidWhole text old new
  pub console_count : new.console_faults ≡ old.console_faults

-- A text was said whole, or a front of it where the console failed.
pub record SaysText {T E : Type 0} (tells : Type 0) (text : List ℕ) (old new : PlantState) (result : Result T E) : Type 0 where
  pub front : SaysFront tells text old new
  pub whole : tells → OnOk result (SaidWhole text old new)
  pub cause : HasCause old.console_faults new.console_faults result

-- The same of a last text, whose outcome isn't told. One call on the console at most has failed.
pub record SaysLast (tells : Type 0) (text : List ℕ) (old new : PlantState) : Type 0 where
  pub front : SaysFront tells text old new
  pub whole : tells → SaidWhole text old new ⊎ Rose old.console_faults new.console_faults
  pub console_count : (new.console_faults ≡ old.console_faults) ⊎ Rose old.console_faults new.console_faults
  pub later : old.console_faults ≤ new.console_faults
  pub console_once : new.console_faults ≤ old.console_faults + 1
