-- A lane's feed, and when it is sound.
use Rattle.std.specs.Prelude.{◌≡◌, ℕ, List, [], ◌∷◌, Bool, ◌&&◌, ◌||◌, Option, Some, None, is_none, is_some, if◌then◌else◌}
use Rattle.ckd_track.specs.declared.write.Batch.{Batch}
use Rattle.primary_ctl.specs.States.{PrimaryState}
use Rattle.sidefile.specs.declared.hand.Halt.{Halt}
use Rattle.sidefile.specs.States.{SidefileState, IsRunOf, is_past}
use Rattle.group_state.specs.Calls.{reporting_after}
use Rattle.group_state.specs.Runs.{Answer}
use Rattle.fed_logs.specs.ToldTracks.{has_changed}
use Rattle.fed_logs.specs.Feeds.{floor_after_call}

-- A lane's feed: its sidefile, its primary volumes, the batch that was handed over and isn't joined, and why it reads no further. It
-- reads no further where its sidefile hands over no more, or where its primary had no memory.
pub record FeedState : Type 0 where
  pub side : SidefileState
  pub primary : PrimaryState
  pub held : Option Batch
  pub halted : Option Halt

-- A batch that is held is the run after the primary's time, and goes up to the time that the sidefile has reported. Where none is held
-- the primary has come to that time.
abbrev pub IsHeldAt : Option Batch → SidefileState → (time : ℕ) → Type 0
IsHeldAt None side time = time ≡ side.upto
IsHeldAt (Some batch) side time = (batch.upto.0 ≡ side.upto) × IsRunOf side.reader.volumes side.control time side.upto batch

-- A feed that reads on: its sidefile hands over, and its primary has the volumes of the trace's header.
pub record ReadsFurther (side : SidefileState) (primary : PrimaryState) (held : Option Batch) : Type 0 where
  pub hands : side.halted ≡ None
  pub volumes : primary.volumes ≡ side.reader.volumes
  pub is_held : IsHeldAt held side primary.time

-- A feed is sound: it reads further unless it has halted.
abbrev pub IsFeedSound : Option Halt → SidefileState → PrimaryState → Option Batch → Type 0
IsFeedSound None side primary held = ReadsFurther side primary held
IsFeedSound (Some halt) side primary held = Unit {0}

-- A feed has nothing up to a limit where it reads no further, or holds no batch and its sidefile is past the limit.
abbrev pub has_nothing_to : (limit : ℕ) → FeedState → Bool
has_nothing_to limit f = is_some f.halted || (is_none f.held && is_past limit f.side)

-- the floor after answered calls of a reader
abbrev pub floor_after_calls : (floor : ℕ) → List Answer → ℕ
floor_after_calls floor [] = floor
floor_after_calls floor (answer ∷ run) = floor_after_calls (if has_changed answer.reply then floor_after_call floor answer.call else floor) run

-- whether a controller still reports after answered calls of its reader
abbrev pub reporting_after_calls : (reporting : Bool) → List Answer → Bool
reporting_after_calls reporting [] = reporting
reporting_after_calls reporting (answer ∷ run) = reporting_after_calls (reporting_after answer.call reporting) run
