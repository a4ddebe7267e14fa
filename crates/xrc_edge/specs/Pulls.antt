-- What a pull gives of the bytes that a source holds.
use Rattle.std.specs.Prelude.{◌≡◌, ◌≤◌, ℕ, List, [], ◌++◌, take, Option, Some, None, Result, Ok, Err}

-- The bytes that were left are those that a pull gave and those that are left after it. It gives none exactly at the end,
-- and a pull that fails gives none. Where a source tells no bytes, nothing is said of them.
abbrev pub Gives : {E : Type 0} → (before now : Option (List ℕ)) → Result ℕ E → (into : List ℕ) → Type 0
Gives (Some old) (Some new) (Ok n) into = (old ≡ take n into ++ new) × (n ≡ 0 → old ≡ [])
Gives (Some old) (Some new) (Err e) into = new ≡ old
Gives None None result into = Unit {0}
Gives (Some old) None result into = ⊥
Gives None (Some new) result into = ⊥

-- no more bytes than there is room for
abbrev pub FitsIn : {E : Type 0} → Result ℕ E → ℕ → Type 0
FitsIn (Ok n) room = n ≤ room
FitsIn (Err e) room = Unit {0}
