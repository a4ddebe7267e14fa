-- What is handed over, by all bytes that are ahead.
use Rattle.std.specs.Prelude.{◌≡◌, ℕ, List, ◌++◌, Option, Some, None}
use Rattle.ckd_track.specs.declared.write.Cause.{Cause}
use Rattle.ckd_track.specs.declared.write.Cause.TheVariants.{ReadFault}
use Rattle.write_trace.specs.declared.entry.Entry.{Entry}
use Rattle.write_trace.specs.Answers.{ReaderState}
use Rattle.sidefile.specs.declared.hand.Hand.{Hand}
use Rattle.sidefile.specs.declared.hand.Hand.TheVariants.{Batch, AtLimit, Broken, NoMemory}
use Rattle.sidefile.specs.Runs.{runs}
use Rattle.sidefile.specs.AheadEntries.{IsAhead, IsFault, ahead, cause_ahead}
use Rattle.sidefile.specs.Hands.{hand, left_after}

-- what a sidefile has before it: the entry that waits, and its reader
pub record SidefileFront : Type 0 where
  pub waiting : Option Entry
  pub reader : ReaderState

abbrev pub runs_ahead : SidefileFront → List ℕ → List (List Entry)
runs_ahead front bytes = runs (ahead front.waiting front.reader bytes)

-- The hand of all runs that are ahead.
abbrev pub IsHand : (control limit : ℕ) → SidefileFront → (bytes : List ℕ) → Hand → Type 0
IsHand control limit old bytes given = given ≡ hand control (cause_ahead old.reader bytes) limit (runs_ahead old bytes)

-- Were just these bytes after those that were used, the same would be handed over, however the trace ends, and their runs would be
-- left. Where the source failed after them, it failed after them all.
pub record HandsSame (control limit : ℕ) (old new : SidefileFront) (used bytes : List ℕ) (given : Hand) : Type 0 where
  pub hand : (cause : Option Cause) → given ≡ hand control cause limit (runs_ahead old (used ++ bytes))
  pub runs : runs_ahead new bytes ≡ left_after given (runs_ahead old (used ++ bytes))
  pub fault : IsFault new.reader bytes → IsFault old.reader (used ++ bytes)

-- The runs that the hand left are ahead afterwards, with the same end. A reader that goes on went on before, and what is after the
-- bytes that were used has made no difference.
pub record LeavesRuns (control limit : ℕ) (told : Option (List ℕ)) (old new : SidefileFront) (bytes : List ℕ) (given : Hand) : Type 0 where
  pub used : List ℕ
  pub rest : List ℕ
  pub split : bytes ≡ used ++ rest
  pub there : IsAhead new.reader told rest
  pub runs : runs_ahead new rest ≡ left_after given (runs_ahead old bytes)
  pub same_end : cause_ahead new.reader rest ≡ cause_ahead old.reader bytes
  pub went_on : new.reader.stopped ≡ None → old.reader.stopped ≡ None
  pub fronts : new.reader.stopped ≡ None → (front : List ℕ) → HandsSame control limit old new used front given

-- The source failed after these bytes, which are all that it gave: the hand of their runs. It still tells what it has left.
pub record FailsWithHand (control limit : ℕ) (now : Option (List ℕ)) (old : SidefileFront) (bytes : List ℕ) (given : Hand) : Type 0 where
  pub front : List ℕ
  pub left : List ℕ
  pub split : bytes ≡ front ++ left
  pub told : now ≡ Some left
  pub went_on : old.reader.stopped ≡ None
  pub fault : IsFault old.reader front
  pub hand : given ≡ hand control (Some ReadFault) limit (runs_ahead old front)

-- The hand that is due. Where there was no memory nothing is said.
abbrev pub IsDue : (control limit : ℕ) → (before now : Option (List ℕ)) → (old new : SidefileFront) → Hand → Type 0
IsDue control limit before now old new (Batch batch) =
    (bytes : List ℕ) → IsAhead old.reader before bytes → IsHand control limit old bytes (Batch batch) × LeavesRuns control limit now old new bytes (Batch batch)
IsDue control limit before now old new AtLimit = (bytes : List ℕ) → IsAhead old.reader before bytes → IsHand control limit old bytes AtLimit × LeavesRuns control limit now old new bytes AtLimit
IsDue control limit before now old new (Broken ReadFault upto) =
    (bytes : List ℕ) → IsAhead old.reader before bytes → FailsWithHand control limit now old bytes (Broken ReadFault upto)
IsDue control limit before now old new (Broken cause upto) = (bytes : List ℕ) → IsAhead old.reader before bytes → IsHand control limit old bytes (Broken cause upto)
IsDue control limit before now old new NoMemory = Unit {0}
