-- What a command says last that is done by it.
use Rattle.std.specs.Prelude.{◌≡◌, ◌⊎◌, ℕ, ◌+◌, ◌≤◌, List}
use Rattle.xrc_edge.specs.Causes.{Rose}
use Rattle.crash_plant.specs.Moments.{PlantState}
use Rattle.xrc_status.specs.Saying.{SaidWhole, SaysFront}

-- At every moment a front of the text was said, and nothing else was done. At status 0 it was said whole, and no call on the console failed; at 3
-- one did. There is no other status. The console's count rises by one at most.
pub record SaysDone (tells : Type 0) (text : List ℕ) (old new : PlantState) (status : ℕ) : Type 0 where
  pub known : (status ≡ 0) ⊎ (status ≡ 3)
  pub front : SaysFront tells text old new
  pub whole : tells → status ≡ 0 → SaidWhole text old new
  pub console_count : status ≡ 0 → new.console_faults ≡ old.console_faults
  pub console_once : new.console_faults ≤ old.console_faults + 1
  pub console : status ≡ 3 → Rose old.console_faults new.console_faults
