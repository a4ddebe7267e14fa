-- The steps of a reader on its feed.
use Rattle.std.specs.Prelude.{◌≡◌, ◌≤◌, ℕ, List, [], ◌∷◌, filter, Option, Some, None}
use Rattle.tod_stamp.specs.declared.stamp.Stamp.{Stamp}
use Rattle.ckd_track.specs.declared.rec.Rec.{Rec}
use Rattle.ckd_track.specs.declared.write.Batch.{Batch}
use Rattle.ckd_track.specs.declared.write.Cause.{Cause}
use Rattle.pending_queue.specs.declared.room.Room.{Room}
use Rattle.primary_ctl.specs.States.{PrimaryState, track_of, is_on, after_writes}
use Rattle.sidefile.specs.declared.hand.Hand.{Hand}
use Rattle.sidefile.specs.declared.hand.Hand.TheVariants as hands
use Rattle.sidefile.specs.declared.hand.Halt.TheVariants as halts
use Rattle.sidefile.specs.ExactHands.{IsDue}
use Rattle.sidefile.specs.States.{SidefileState, front_of}
use Rattle.sidefile.specs.Halts.{reached}
use Rattle.group_state.specs.Machine.{Reply}
use Rattle.group_state.specs.Machine.Call.{Join, NextWanted, Copied, Raise, Break}
use Rattle.group_state.specs.Machine.Reply.{Made, Held, Wanted}
use Rattle.group_state.specs.HistoryLaws.{joined_answer}
use Rattle.group_state.specs.Runs.{Answer}
use Rattle.fed_logs.specs.LaneFeeds.{FeedState}

-- ---- the answers of a reader's calls

abbrev pub held_answer : Batch → Room → Answer
held_answer batch room = record { call = Join batch; reply = Held room }

abbrev pub raised_answer : (control : ℕ) → (upto : Stamp) → Answer
raised_answer k upto = record { call = Raise k upto; reply = Made }

abbrev pub broken_answer : (control : ℕ) → (upto : Stamp) → Cause → Answer
broken_answer k upto cause = record { call = Break k upto cause; reply = Made }

abbrev pub wanted_answer : (control : ℕ) → Option (ℕ × ℕ) → Answer
wanted_answer k found = record { call = NextWanted k; reply = Wanted found }

abbrev pub copied_answer : (control volume track : ℕ) → (at : Stamp) → (slot : List Rec) → Reply → Answer
copied_answer k v x at slot reply = record { call = Copied k v x at slot; reply = reply }

-- ---- what changes with a step

-- A sidefile hands over what is due.
pub record HandsOver (before now : Option (List ℕ)) (limit : ℕ) (old new : SidefileState) (given : Hand) : Type 0 where
  pub due : IsDue old.control limit before now (front_of old) (front_of new) given
  pub upto : new.upto ≡ reached old.upto limit given

-- A primary takes a batch over.
pub record TakesBatch (batch : Batch) (old new : PrimaryState) : Type 0 where
  pub tracks : (v x : ℕ) → track_of new v x ≡ after_writes (track_of old v x) (filter (is_on v x) batch.writes)
  pub time : new.time ≡ batch.upto.0

abbrev pub primary_at : (time : ℕ) → PrimaryState → PrimaryState
primary_at time primary = record primary { time = time }

-- No batch is held, and the feed reads on.
pub record IsIdle (feed : FeedState) : Type 0 where
  pub goes_on : feed.halted ≡ None
  pub none : feed.held ≡ None

-- ---- steps

-- One step of a reader on its feed, with the calls that it makes.
--   Hands: a batch is handed over, and held at first
--   Joins: the held batch is joined, and the primary takes it over
--   Lacks: it is joined, and the primary has no memory for it
--   Holds: there is no room for it, so it stays held
--   Passes: nothing is left up to the limit, which the floor becomes
--   Breaks: the trace is given up
--   Wants: the sidefile has no memory
--   Asks: a wanted track is asked for
--   Copies: a track of the primary is reported at the floor, whatever is replied
pub data FeedStep (before now : Option (List ℕ)) (limit : Stamp) : (old new : FeedState) → List Answer → Type 0 where
  Hands : (old : FeedState) (side : SidefileState) (batch : Batch) → IsIdle old → HandsOver before now limit.0 old.side side (hands.Batch batch)
      → FeedStep before now limit old (record old { side = side; held = Some batch }) []
  Joins : (old : FeedState) (batch : Batch) (primary : PrimaryState) → old.halted ≡ None → old.held ≡ Some batch → now ≡ before → TakesBatch batch old.primary primary
      → FeedStep before now limit old (record old { primary = primary; held = None }) (joined_answer batch ∷ [])
  Lacks : (old : FeedState) (batch : Batch) (primary : PrimaryState) → old.halted ≡ None → old.held ≡ Some batch → now ≡ before
      → FeedStep before now limit old (record old { primary = primary; held = None; halted = Some halts.NoMemory }) (joined_answer batch ∷ [])
  Holds : (old : FeedState) (batch : Batch) (room : Room) → old.halted ≡ None → old.held ≡ Some batch → now ≡ before → FeedStep before now limit old old (held_answer batch room ∷ [])
  Passes : (old : FeedState) (side : SidefileState) → IsIdle old → HandsOver before now limit.0 old.side side hands.AtLimit → old.side.upto ≤ limit.0
      → FeedStep before now limit old (record old { side = side; primary = primary_at limit.0 old.primary }) (raised_answer old.side.control limit ∷ [])
  Breaks : (old : FeedState) (side : SidefileState) (cause : Cause) (upto : Stamp) → IsIdle old → HandsOver before now limit.0 old.side side (hands.Broken cause upto)
      → FeedStep before now limit old (record old { side = side; primary = primary_at upto.0 old.primary; halted = Some (halts.Broken cause upto) }) (broken_answer old.side.control upto cause ∷ [])
  Wants : (old : FeedState) (side : SidefileState) → IsIdle old → HandsOver before now limit.0 old.side side hands.NoMemory → FeedStep before now limit old (record old { side = side; halted = Some halts.NoMemory }) []
  Asks : (old : FeedState) (k : ℕ) (found : Option (ℕ × ℕ)) → old.halted ≡ None → now ≡ before → FeedStep before now limit old old (wanted_answer k found ∷ [])
  Copies : (old : FeedState) (k v x : ℕ) (at : Stamp) (slot : List Rec) (reply : Reply) → old.halted ≡ None → now ≡ before → slot ≡ track_of old.primary v x
      → FeedStep before now limit old old (copied_answer k v x at slot reply ∷ [])
