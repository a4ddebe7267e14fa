-- What a queue is to its callers.
use Rattle.std.specs.Prelude.{ℕ, ◌-◌, List, [], ◌++◌, length}
use Rattle.block_region.specs.Regions.{RegionState, ChainState, block_count}
use Rattle.pending_queue.specs.declared.room.Room.{Room}
use Rattle.pending_queue.specs.Entries.{WaitingEntry}
use Rattle.pending_queue.specs.Rooms.{blocks_taken}
use Rattle.pending_queue.specs.Waitings.{WaitingState}

pub record QueueState : Type 0 where
  -- the controller whose writes wait in it
  pub control : ℕ
  -- the most entries that may wait, and the most blocks that they may take
  pub records : ℕ
  pub blocks : ℕ
  -- the entries that wait, the first first
  pub waiting : List WaitingEntry

abbrev pub empty_queue : (control records blocks : ℕ) → QueueState
empty_queue k records blocks = record { control = k; records = records; blocks = blocks; waiting = [] }

-- the queue with other entries
abbrev pub with_waiting : QueueState → List WaitingEntry → QueueState
with_waiting queue entries = record queue { waiting = entries }

-- the queue with more entries after those that wait
abbrev pub with_more : QueueState → List WaitingEntry → QueueState
with_more queue entries = with_waiting queue (queue.waiting ++ entries)

-- the records and blocks that are free
abbrev pub free_room : QueueState → Room
free_room queue = record { records = queue.records - length queue.waiting; blocks = queue.blocks - blocks_taken queue.waiting }

-- A queue, and the memory that keeps it: the region, and for each entry that waits the chain there that has its form.
pub record QueueInRegion : Type 0 where
  pub state : QueueState
  pub region : RegionState
  pub chains : List ChainState

-- the state of a controller's queue in which these entries wait
abbrev pub queue_state : (control : ℕ) → WaitingState → QueueState
queue_state k waiting = record { control = k; records = waiting.most; blocks = block_count waiting.region; waiting = waiting.entries }
