-- What a reader in the code returned, beside what reading gives.
use Rattle.std.specs.Prelude.{◌≡◌, ◌≢◌, ℕ, List, Result, Ok, Err}
use Rattle.ckd_track.specs.declared.fault.ImageError.{ImageError}
use Rattle.ckd_track.specs.declared.fault.ImageError.TheVariants.{NoMemory}
use Rattle.ckd_track.specs.declared.rec.Rec.{Rec}

-- The value, seen so, or the error is the one that reading gives.
abbrev pub GivesRead : {X Y : Type 0} → (X → Y) → Result X ImageError → Result Y ImageError → Type 0
GivesRead view (Ok x) read = read ≡ Ok (view x)
GivesRead view (Err e) read = read ≡ Err e

-- The same, unless memory ran out.
abbrev pub GivesOrWants : {X Y : Type 0} → (X → Y) → Result X ImageError → Result Y ImageError → Type 0
GivesOrWants view (Ok x) read = read ≡ Ok (view x)
GivesOrWants view (Err e) read = e ≢ NoMemory → read ≡ Err e

-- what is left, whatever the records are
abbrev pub rest_of_read : Result (List Rec × List ℕ) ImageError → Result (List ℕ) ImageError
rest_of_read (Ok read) = Ok read.1
rest_of_read (Err e) = Err e
