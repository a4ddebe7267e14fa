-- How far towards a limit calls on a feed go.
use Rattle.std.specs.Prelude.{◌≡◌, ℕ, List, ◌++◌, Option, Some, None, IsTrue}
use Rattle.std.specs.List.{list_all}
use Rattle.ckd_track.specs.declared.write.Batch.{Batch}
use Rattle.write_trace.specs.declared.trace.Trace.{Trace}
use Rattle.sidefile.specs.AheadEntries.{IsAhead}
use Rattle.group_state.specs.Machine.Call.{Join}
use Rattle.group_state.specs.Runs.{Answer}
use Rattle.fed_logs.specs.Feeds.{goes_up_to, is_up_to_limit}
use Rattle.fed_logs.specs.LaneFeeds.{FeedState}
use Rattle.fed_logs.specs.Reads.{Outlook, HasRead, IsStillToCome, MayTurnOutOf, ReadsBytes}

-- A batch that is held goes as far towards a limit as its trace lets it.
abbrev pub IsHeldUpTo : (limit : ℕ) → Trace → Option Batch → Type 0
IsHeldUpTo limit t None = Unit {0}
IsHeldUpTo limit t (Some batch) = IsTrue (goes_up_to limit t (Join batch))

-- Calls on a feed went as far towards a limit as its trace lets them, and so does the batch that is held after them.
pub record WentUpTo (limit : ℕ) (t : Trace) (new : FeedState) (gained : List Answer) : Type 0 where
  pub calls : IsTrue (list_all (is_up_to_limit limit t) gained)
  pub held : IsHeldUpTo limit t new.held

-- Calls on a feed used some of the bytes that were ahead of it. However the trace turns out after them, they went so far, if the batch that was held
-- at first does.
pub record GoesUpToBy (limit : ℕ) (now : Option (List ℕ)) (old new : FeedState) (gained : List Answer) (bytes : List ℕ) : Type 0 where
  pub reads : ReadsBytes now old new gained bytes
  pub went : (o : Outlook) (t : Trace) (later : List ℕ) → IsStillToCome o reads.rest later → MayTurnOutOf o later new → HasRead o (reads.used ++ later) t old
      → IsHeldUpTo limit t old.held → WentUpTo limit t new gained

-- Calls on a feed go as far towards a limit as the trace lets them. A feed that reads no further makes none.
abbrev pub GoesUpTo : (limit : ℕ) → (before now : Option (List ℕ)) → (old new : FeedState) → List Answer → Type 0
GoesUpTo limit before now old new gained = old.halted ≡ None → (bytes : List ℕ) → IsAhead old.side.reader before bytes → GoesUpToBy limit now old new gained bytes
