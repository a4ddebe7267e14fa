-- What calls on a target do to what is done and copied. Each is a law that is the contract of a public function without parameters.
use Rattle.std.specs.Prelude.{◌≡◌, ◌<◌, ◌⊎◌, ℕ, true, List, take, drop, ◌≤◌}
use Rattle.ckd_track.specs.declared.layout.TheConstants.{FIRST_SLOT}
use Rattle.copy_progress.specs.declared.progress.Progress.{Progress}
use Rattle.copy_progress.specs.declared.claim.Claim.{Claim}
use Rattle.copy_progress.specs.Copies.{IsCopiedSoFar, counts_for, done}
use Rattle.copy_progress.specs.Slots.{Clears, NotesNext, OldOrNext, progress_place}
use Rattle.std.specs.Prelude.{Bool}

-- What is said of a target's tracks depends on what stands behind its front.
abbrev pub IsToldBehindFront : (is_copied : List ℕ → ℕ → Type 0) → Type 0
IsToldBehindFront is_copied = (b c : List ℕ) (x : ℕ) → drop FIRST_SLOT c ≡ drop FIRST_SLOT b → is_copied b x → is_copied c x

-- Where tracks from what is done on are written, the front stays, and each track before them is copied as it was.
pub record WritesFrom (is_copied : List ℕ → ℕ → Type 0) (next : ℕ) (b c : List ℕ) : Type 0 where
  pub front : take FIRST_SLOT c ≡ take FIRST_SLOT b
  pub before : (x : ℕ) → x < next → is_copied b x → is_copied c x

-- Then what is done and what is copied so far stay.
abbrev pub WritesKeepTheDone : Type 1
WritesKeepTheDone = (is_copied : List ℕ → ℕ → Type 0) (claim : Claim) (b c : List ℕ) → WritesFrom is_copied (done claim b) b c → IsCopiedSoFar is_copied claim b → (done claim c ≡ done claim b) × IsCopiedSoFar is_copied claim c

-- Where the next progress is put once its tracks are copied, what is done is as it was or is what the progress tells, and all of it is copied.
abbrev pub NextTellsTheCopied : Type 1
NextTellsTheCopied = (is_copied : List ℕ → ℕ → Type 0) (claim : Claim) (value : Progress) (second : Bool) (b c : List ℕ) → IsToldBehindFront is_copied → counts_for claim value ≡ true → OldOrNext value (progress_place second) b c
    → IsCopiedSoFar is_copied claim b → ((x : ℕ) → x < value.next → is_copied b x) → ((done claim c ≡ done claim b) ⊎ (done claim c ≡ value.next)) × IsCopiedSoFar is_copied claim c

-- Tracks before a place are copied by what stands before it.
abbrev pub IsOfFront : (is_copied : List ℕ → ℕ → Type 0) → (place_of : ℕ → ℕ) → Type 0
IsOfFront is_copied place_of = (b c : List ℕ) (x next : ℕ) → x < next → take (place_of next) c ≡ take (place_of next) b → is_copied b x → is_copied c x

-- What is written from the place of a track on leaves the front, and the tracks before it.
abbrev pub LaterWritesKeep : Type 1
LaterWritesKeep = (is_copied : List ℕ → ℕ → Type 0) (place_of : ℕ → ℕ) (next : ℕ) (b c : List ℕ) → IsOfFront is_copied place_of → FIRST_SLOT ≤ place_of next → take (place_of next) c ≡ take (place_of next) b → WritesFrom is_copied next b c

-- Where tracks are copied, and then synced and noted, at each moment all that is done is copied.
abbrev pub NotedAreCopied : Type 1
NotedAreCopied = (is_copied : List ℕ → ℕ → Type 0) (claim : Claim) (value : Progress) (now b c : List ℕ) → IsToldBehindFront is_copied → counts_for claim value ≡ true → NotesNext value now b c
    → IsCopiedSoFar is_copied claim b → IsCopiedSoFar is_copied claim now → ((x : ℕ) → x < value.next → is_copied now x) → IsCopiedSoFar is_copied claim c

-- Where nothing is done, nothing is while gates are closed.
abbrev pub ClearingDoesNothing : Type 0
ClearingDoesNothing = (claim : Claim) (b c : List ℕ) → Clears b c → done claim b ≡ 0 → done claim c ≡ 0
