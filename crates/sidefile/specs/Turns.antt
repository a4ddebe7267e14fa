-- One turn of a sidefile.
use Rattle.std.specs.Prelude.{◌≡◌, ◌≤◌, ℕ, List, Option}
use Rattle.write_trace.specs.declared.entry.Entry.{Entry}
use Rattle.write_trace.specs.Answers.{ReaderState}
use Rattle.sidefile.specs.declared.turn.Handover.{Handover}
use Rattle.sidefile.specs.ExactHands.{IsDue, SidefileFront}
use Rattle.sidefile.specs.Halts.{halt_of, reached}
use Rattle.sidefile.specs.States.{IsWaiting, IsSidefile, HoldsRun, HasFault}

abbrev pub front : Option Entry → ReaderState → SidefileFront
front waiting reader = record { waiting = waiting; reader = reader }

-- What is due was handed over, and what waits afterwards is as a sidefile keeps it.
pub record IsHandover (control limit before_upto : ℕ) (before now : Option (List ℕ)) (faults risen : ℕ) (waiting : Option Entry) (old new : ReaderState) (turn : Handover) : Type 0 where
  pub due : IsDue control limit before now (front waiting old) (front turn.waiting new) turn.hand
  pub holds : HoldsRun old.volumes control before_upto limit turn.hand
  pub fault : HasFault faults risen turn.hand
  pub volumes : new.volumes ≡ old.volumes
  pub rises : before_upto ≤ reached before_upto limit turn.hand
  pub within : reached before_upto limit turn.hand ≤ limit
  pub keeps : IsSidefile (halt_of turn.hand) turn.waiting new (reached before_upto limit turn.hand)

-- an entry that waits, or none, as some sidefile keeps it
abbrev pub IsSomeWaiting : Option Entry → ReaderState → Type 0
IsSomeWaiting waiting reader = (upto : ℕ) × IsWaiting waiting reader upto
