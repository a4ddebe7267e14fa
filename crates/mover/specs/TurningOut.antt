-- Traces over several epochs. How they turn out after all of these tells how they turn out after each.
use Rattle.std.specs.Prelude.{◌≡◌, ℕ, ◌<◌, List, length, Option, IsSomeAnd, slice_index_or}
use Rattle.write_trace.specs.declared.trace.Trace.{Trace}
use Rattle.group_state.specs.Runs.{Answer}
use Rattle.fed_logs.specs.Reads.{ReadsOn}
use Rattle.mover.specs.declared.lane.Lane.{Lane}
use Rattle.mover.specs.Lanes.{MayGoOn}
use Rattle.mover.specs.Epochs.{AllTurnOut}

-- A lane's reader read on by some calls.
abbrev pub LaneReadOn : {S : Type 0} → (left : S → Option (List ℕ)) → (old new : Lane S) → Type 0
LaneReadOn left old new =
    IsSomeAnd old.reader (λ was. IsSomeAnd new.reader (λ is. (gained : List Answer) × ReadsOn (left old.source) (left new.source) was.feed is.feed gained))

-- So did the readers of all lanes.
pub record AllReadOn {S : Type 0} (left : S → Option (List ℕ)) (old new : List (Lane S)) : Type 0 where
  pub same : length new ≡ length old
  pub each : (k : ℕ) (d : Lane S) → k < length old → LaneReadOn left (slice_index_or old k d) (slice_index_or new k d)

-- No lane's reader wants memory.
abbrev pub AllMayGoOn : {S : Type 0} → List (Lane S) → Type 0
AllMayGoOn {S} lanes = (k : ℕ) (d : Lane S) → k < length lanes → IsSomeAnd (slice_index_or lanes k d).reader (λ r. MayGoOn r.feed)

-- Lanes that read on, and then on again, read on.
abbrev pub LanesReadInTurn : {S : Type 0} → (left : S → Option (List ℕ)) → Type 0
LanesReadInTurn {S} left = (old mid new : List (Lane S)) → AllReadOn left old mid → AllReadOn left mid new → AllReadOn left old new

-- Traces that turn out so after both turn out so after each, if no reader wanted memory between the two. After both one may.
abbrev pub TracesTurnOutInTurn : {S : Type 0} → (left : S → Option (List ℕ)) → Type 0
TracesTurnOutInTurn {S} left =
    (traces : List Trace) (old mid new : List (Lane S)) → AllReadOn left old mid → AllMayGoOn mid → AllReadOn left mid new → AllTurnOut left traces old new
    → AllTurnOut left traces old mid × AllTurnOut left traces mid new
