-- What was so at a moment, and since then that or something else, of whatever a crash may leave.
use Rattle.std.specs.Prelude.{◌≡◌, ◌⊎◌, ℕ, ◌≤◌, Bool, true}
use Rattle.passages.specs.Points.{Throughout}

-- At a moment between these it was so, and since then up to the last one it was that, or what is so now.
pub record HasBeenSo (C : Type 0) (left : ℕ → C → Type 0) (so now : C → Bool) (from to : ℕ) : Type 0 where
  pub moment : ℕ
  pub since : from ≤ moment
  pub within : moment ≤ to
  pub so_there : Throughout left moment moment (λ c. so c ≡ true)
  pub later : Throughout left moment to (λ c. (so c ≡ true) ⊎ (now c ≡ true))
