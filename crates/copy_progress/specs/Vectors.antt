-- The worked progress: the copy of a pair of one cylinder that is done.
use Rattle.std.specs.Prelude.{ℕ, List, [], ◌∷◌, ◌++◌, codes, replicate}
use Rattle.copy_progress.specs.declared.claim.Claim.{Claim}
use Rattle.copy_progress.specs.declared.progress.Progress.{Progress}

abbrev pub worked_claim : Claim
worked_claim = record { session = codes "ABC"; time = record { 0 = 144 }; primary = codes "PRIM01"; tracks = 15 }

abbrev pub worked_progress : Progress
worked_progress = record { number = 1; session = codes "ABC"; time = record { 0 = 144 }; primary = codes "PRIM01"; tracks = 15; next = 15 }

abbrev pub worked_bytes : List ℕ
worked_bytes = 1 ∷ 88 ∷ 67 ∷ 80 ∷ 89 ∷ 0 ∷ 0 ∷ 0 ∷ 0 ∷ 0 ∷ 0 ∷ 0 ∷ 1 ∷ 65 ∷ 66 ∷ 67 ∷ 32 ∷ 32 ∷ 32 ∷ 32 ∷ 32 ∷ 0 ∷ 0 ∷ 0 ∷ 0 ∷ 0 ∷ 0 ∷ 0 ∷ 144 ∷ 80 ∷ 82 ∷ 73 ∷ 77 ∷ 48 ∷ 49 ∷ 0 ∷ 0 ∷ 0 ∷ 15 ∷ 0 ∷ 0 ∷ 0 ∷ 15 ∷ []

-- a target's front with this in its first slot, and with that in its second
abbrev pub target_with : List ℕ → List ℕ → List ℕ
target_with first second = replicate 16 0 ++ first ++ replicate 21 0 ++ second ++ replicate 389 0
