-- The pieces of a file, one for each track.
use Rattle.std.specs.Prelude.{◌≡◌, ◌<◌, ◌⊎◌, ℕ, zero, suc, List, [], ◌∷◌, ◌++◌, Option, Result, Ok, Err, IsOk}
use Rattle.xrc_edge.specs.Causes.{Rose}
use Rattle.ckd_bridge.specs.declared.stop.Refusal.{Refusal}
use Rattle.ckd_bridge.specs.declared.stop.Stop.{Stop}
use Rattle.ckd_bridge.specs.declared.stop.Stop.TheVariants.{NoMemory, ReadFault, WriteFault, Refused}
use Rattle.ckd_bridge.specs.Sinks.{Appends}

-- What a function returned is what is to be read, unless a file failed or memory ran out.
abbrev pub GivesPiece : {X Y : Type 0} → (X → Y) → Result X Stop → Result Y Refusal → Type 0
GivesPiece view (Ok x) read = read ≡ Ok (view x)
GivesPiece view (Err NoMemory) read = Unit {0}
GivesPiece view (Err ReadFault) read = Unit {0}
GivesPiece view (Err WriteFault) read = Unit {0}
GivesPiece view (Err (Refused refusal)) read = read ≡ Err refusal

-- the count of one of several files rose
abbrev pub OneRose : (before now : List ℕ) → Type 0
OneRose [] now = ⊥
OneRose (b ∷ before) [] = ⊥
OneRose (b ∷ before) (n ∷ now) = Rose b n ⊎ OneRose before now

-- A read fails only where the count of a file rose in the call. Nothing is written.
abbrev pub ReadsWithCause : {X : Type 0} → (before now : List ℕ) → Result X Stop → Type 0
ReadsWithCause before now (Ok x) = now ≡ before
ReadsWithCause before now (Err NoMemory) = now ≡ before
ReadsWithCause before now (Err ReadFault) = OneRose before now
ReadsWithCause before now (Err WriteFault) = ⊥
ReadsWithCause before now (Err (Refused refusal)) = now ≡ before

-- The counts of the files that are read, and the count of the sink: a fault comes only where one of them rose in the call.
abbrev pub CopiesWithCause : {X : Type 0} → (before now : List ℕ) → (put_before put_now : ℕ) → Result X Stop → Type 0
CopiesWithCause before now put_before put_now (Ok x) = (now ≡ before) × (put_now ≡ put_before)
CopiesWithCause before now put_before put_now (Err NoMemory) = (now ≡ before) × (put_now ≡ put_before)
CopiesWithCause before now put_before put_now (Err ReadFault) = OneRose before now × (put_now ≡ put_before)
CopiesWithCause before now put_before put_now (Err WriteFault) = (now ≡ before) × Rose put_before put_now
CopiesWithCause before now put_before put_now (Err (Refused refusal)) = (now ≡ before) × (put_now ≡ put_before)

abbrev pub IsNoRefusal : {X : Type 0} → Result X Stop → Type 0
IsNoRefusal (Ok x) = Unit {0}
IsNoRefusal (Err NoMemory) = Unit {0}
IsNoRefusal (Err ReadFault) = Unit {0}
IsNoRefusal (Err WriteFault) = Unit {0}
IsNoRefusal (Err (Refused refusal)) = ⊥

-- neither a fault of a file that is read, nor one of the sink
abbrev pub IsNoFault : {X : Type 0} → Result X Stop → Type 0
IsNoFault (Ok x) = Unit {0}
IsNoFault (Err NoMemory) = Unit {0}
IsNoFault (Err ReadFault) = ⊥
IsNoFault (Err WriteFault) = ⊥
IsNoFault (Err (Refused refusal)) = Unit {0}

-- There is a piece for each of the first tracks, so many.
abbrev pub AreGood : {X : Type 0} → (ℕ → Result X Refusal) → (count : ℕ) → Type 0
AreGood piece count = (k : ℕ) → k < count → IsOk (piece k)

-- the first of so many tracks that is refused, and why
pub record IsFirstRefusal {X : Type 0} (piece : ℕ → Result X Refusal) (count : ℕ) (refusal : Refusal) : Type 0 where
  pub track : ℕ
  pub within : track < count
  pub before : AreGood piece track
  pub refused : piece track ≡ Err refusal

-- All can be made, or the first that can't is told, unless a file failed or memory ran out.
abbrev pub Checks : {X : Type 0} → (ℕ → Result (List ℕ) Refusal) → (count : ℕ) → Result X Stop → Type 0
Checks piece count (Ok x) = AreGood piece count
Checks piece count (Err NoMemory) = Unit {0}
Checks piece count (Err ReadFault) = Unit {0}
Checks piece count (Err WriteFault) = Unit {0}
Checks piece count (Err (Refused refusal)) = IsFirstRefusal piece count refusal

-- a piece's bytes
abbrev pub bytes_of_piece : Result (List ℕ) Refusal → List ℕ
bytes_of_piece (Ok bytes) = bytes
bytes_of_piece (Err refusal) = []

-- the pieces of the first tracks, so many, one after another
abbrev pub pieces_up_to : (ℕ → Result (List ℕ) Refusal) → (count : ℕ) → List ℕ
pieces_up_to piece zero = []
pieces_up_to piece (suc count) = pieces_up_to piece count ++ bytes_of_piece (piece count)

-- An opening and all pieces are put; or the first piece that is refused is told, and nothing is put. Else a file failed or memory ran out.
abbrev pub Copies : {X : Type 0} → (ℕ → Result (List ℕ) Refusal) → (count : ℕ) → (opening : List ℕ) → (old new : Option (List ℕ)) → Result X Stop → Type 0
Copies piece count opening old new (Ok x) = AreGood piece count × Appends (opening ++ pieces_up_to piece count) old new
Copies piece count opening old new (Err NoMemory) = Unit {0}
Copies piece count opening old new (Err ReadFault) = Unit {0}
Copies piece count opening old new (Err WriteFault) = Unit {0}
Copies piece count opening old new (Err (Refused refusal)) = IsFirstRefusal piece count refusal × (new ≡ old)
