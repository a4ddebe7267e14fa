-- The laws of marks and of the chosen mark.
use Rattle.std.specs.Prelude.{◌≡◌, ℕ, ◌+◌, List, ◌++◌, Ok}
use Rattle.tod_stamp.specs.Fields.{IsBytes, Left}
use Rattle.control_set.specs.declared.value.Mark.{Mark}
use Rattle.control_set.specs.Marks.{IsMark, IsInRange, mark_spelling, mark_at}

-- What a mark that keeps the table spells is read again, whatever follows.
abbrev pub MarksReadBack : Type 0
MarksReadBack = (lengths : List ℕ) (place : ℕ) (m : Mark) (rest : List ℕ) → IsMark lengths m → IsInRange m →
    mark_at lengths (record { place = place; bytes = mark_spelling m ++ rest }) ≡ Ok (m, record { place = place + 48; bytes = rest })

-- What is read as a mark keeps the table, and its 48 bytes are its spelling.
abbrev pub MarksAreSpelled : Type 0
MarksAreSpelled = (lengths : List ℕ) (place : ℕ) (bytes : List ℕ) (m : Mark) (left : Left) → IsBytes bytes → mark_at lengths (record { place = place; bytes = bytes }) ≡ Ok (m, left) →
    IsMark lengths m × IsInRange m × (bytes ≡ mark_spelling m ++ left.bytes) × (left.place ≡ place + 48)
