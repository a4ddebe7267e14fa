-- How far the reading of a header has come: the bytes given so far begin with all that was read, and a reader of what
-- remains goes on where the bytes held begin.
use Rattle.std.specs.Prelude.{◌≡◌, ◌≤◌, ◌<◌, ◌+◌, ℕ, List, ◌++◌, length, Option, Some, Result, Ok, Err}
use Rattle.xrc_edge.specs.Causes.{Rose}
use Rattle.tod_stamp.specs.Fields.{◌>>=◌, Left, Bad}
use Rattle.tod_stamp.specs.Fields.Bad.{Cut}
use Rattle.write_trace.specs.declared.header.Header.{Header}
use Rattle.write_trace.specs.declared.window.TheConstants.{WINDOW_LENGTH}
use Rattle.write_trace.specs.declared.trace.HeaderError.{HeaderError}
use Rattle.write_trace.specs.declared.trace.HeaderError.TheVariants.{BadHeader, HeaderFault, NoMemory}
use Rattle.write_trace.specs.Headers.{header_at}
use Rattle.write_trace.specs.UnreadBytes.{seen}
use Rattle.write_trace.specs.Starts.{IsBadHeader, FailsInHeader}

-- what remains to be read of a header
abbrev pub HeaderRest : Type 0
HeaderRest = Left → Result (Header × Left) Bad

-- Of the bytes of a source that has these left, some were given. Whatever follows those, the header is what the reader
-- gives from the bytes held on.
pub record ReachesHeader (now : Option (List ℕ)) (remains : HeaderRest) (held : Left) (bytes : List ℕ) : Type 0 where
  pub left : List ℕ
  pub told : now ≡ Some left
  pub given : List ℕ
  pub all : bytes ≡ given ++ left
  pub long : length given ≡ held.place + length held.bytes
  pub reads : (more : List ℕ) → header_at (seen 0 (given ++ more)) ≡ remains (seen held.place (held.bytes ++ more))

-- the same where the source told its bytes at the start
abbrev pub Reached : (start now : Option (List ℕ)) → HeaderRest → Left → Type 0
Reached start now remains held = (bytes : List ℕ) → start ≡ Some bytes → ReachesHeader now remains held bytes

-- ---- one piece more

-- whatever remained to be read remains
abbrev pub StaysReached : (before now : Option (List ℕ)) → (old new : Left) → Type 0
StaysReached before now old new = (start : Option (List ℕ)) (remains : HeaderRest) → Reached start before remains old → Reached start now remains new

-- the bytes held end within the field that begins there
abbrev pub IsCutThere : HeaderRest → Left → (place : ℕ) → Type 0
IsCutThere remains held place = remains (seen held.place held.bytes) ≡ Err (Cut place)

-- What came of a call for one piece more, where the bytes held may end within the field that begins at the place.
abbrev pub Gathers : (before now : Option (List ℕ)) → (faults risen : ℕ) → (place : ℕ) → (old new : Left) → {A : Type 0} → Result A HeaderError → Type 0
Gathers before now faults risen place old new (Ok done) = StaysReached before now old new × (length old.bytes < length new.bytes) × (length new.bytes ≤ WINDOW_LENGTH) × (risen ≡ faults)
Gathers before now faults risen place old new (Err (BadHeader bad)) =
    ((start : Option (List ℕ)) (remains : HeaderRest) → Reached start before remains old → IsCutThere remains old place → IsBadHeader start bad) × (risen ≡ faults)
Gathers before now faults risen place old new (Err HeaderFault) =
    ((start : Option (List ℕ)) (remains : HeaderRest) → Reached start before remains old → IsCutThere remains old place → FailsInHeader start now) × Rose faults risen
Gathers before now faults risen place old new (Err NoMemory) = ⊥

-- ---- one part of a header

-- What came of reading one part, by the reader of that part: where it was read, what remains after it remains.
abbrev pub ReadsPart : {A : Type 0} → (part : Left → Result (A × Left) Bad) → (before now : Option (List ℕ)) → (faults risen : ℕ) → (old new : Left) → Result A HeaderError → Type 0
ReadsPart part before now faults risen old new (Ok x) =
    ((start : Option (List ℕ)) (remains : _ × Left → Result (Header × Left) Bad) → Reached start before (λ left. part left >>= remains) old → Reached start now (λ left. remains (x, left)) new) × (risen ≡ faults)
ReadsPart part before now faults risen old new (Err (BadHeader bad)) =
    ((start : Option (List ℕ)) (remains : _ × Left → Result (Header × Left) Bad) → Reached start before (λ left. part left >>= remains) old → IsBadHeader start bad) × (risen ≡ faults)
ReadsPart part before now faults risen old new (Err HeaderFault) =
    ((start : Option (List ℕ)) (remains : _ × Left → Result (Header × Left) Bad) → Reached start before (λ left. part left >>= remains) old → FailsInHeader start now) × Rose faults risen
ReadsPart part before now faults risen old new (Err NoMemory) = risen ≡ faults
