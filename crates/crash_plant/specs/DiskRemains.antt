-- What one crash leaves of a disk, where a choice of bytes fills what it may leave open.
use Rattle.std.specs.Prelude.{ℕ, zero, suc, ◌%◌, ◌++◌, List, [], ◌∷◌, get_or, length}
use Rattle.crash_plant.specs.declared.entry.Done.{Done}
use Rattle.crash_plant.specs.declared.entry.Done.TheVariants.{Write, Sync}
use Rattle.crash_plant.specs.Bytes.{patched}
use Rattle.crash_plant.specs.Pasts.{Note}

-- the first so many bytes of a choice that is repeated, and zeros where it is empty
abbrev pub repeated : List ℕ → ℕ → List ℕ
repeated choice zero = []
repeated choice (suc n) = repeated choice n ++ get_or choice (n % length choice) 0 ∷ []

-- the writes that are open after a call, where these were before it
abbrev pub open_then : Note → Done → List Note → List Note
open_then n (Write place count) open_before = open_before ++ n ∷ []
open_then n Sync open_before = []

-- where they begin in the record, after the call before this one
abbrev pub open_begin : Done → ℕ → ℕ → ℕ
open_begin (Write place count) from next = from
open_begin Sync from next = next

-- the writes since the last sync, after these
abbrev pub open_after : List Note → List Note → List Note
open_after open_before [] = open_before
open_after open_before (n ∷ past) = open_after (open_then n n.done open_before) past

abbrev pub open_writes : List Note → List Note
open_writes past = open_after [] past

-- The range of a write is filled from the choice.
abbrev pub filled : List ℕ → Done → List ℕ → List ℕ
filled choice (Write place count) bytes = patched place (repeated choice count) bytes
filled choice Sync bytes = bytes

-- these bytes, with each range filled in turn
abbrev pub all_filled : List ℕ → List Note → List ℕ → List ℕ
all_filled choice [] bytes = bytes
all_filled choice (n ∷ writes) bytes = all_filled choice writes (filled choice n.done bytes)

-- what is left of a disk that holds these bytes after these calls
abbrev pub left_of : List ℕ → List Note → List ℕ → List ℕ
left_of choice past bytes = all_filled choice (open_writes past) bytes
