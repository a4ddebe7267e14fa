-- Entries that wait, each with a chain of one region that has its form.
use Rattle.std.specs.Prelude.{◌≡◌, ℕ, ◌≤◌, ◌<◌, ◌^◌, ◌-◌, List, length, map}
use Rattle.std.specs.List.{All}
use Rattle.block_region.specs.Regions.{RegionState, ChainState, chain_bytes, block_count, free_blocks}
use Rattle.block_region.specs.Laws.{AreAllOut}
use Rattle.ckd_track.specs.Entries.{longest_entry}
use Rattle.pending_queue.specs.declared.entry.Effect.{Effect}
use Rattle.pending_queue.specs.declared.head.EntryHead.{EntryHead}
use Rattle.pending_queue.specs.declared.room.Room.{Room}
use Rattle.pending_queue.specs.declared.waiting.Waiting.{Waiting}
use Rattle.pending_queue.specs.Entries.{WaitingEntry, IsOfWrite, entry_by}

pub record WaitingState : Type 0 where
  -- the most entries that may wait
  pub most : ℕ
  pub region : RegionState
  -- for each entry its chain
  pub chains : List ChainState
  -- the first first
  pub entries : List WaitingEntry

-- the entry whose form a chain of the region has
abbrev pub entry_in : RegionState → Waiting → WaitingEntry
entry_in region waiting = entry_by waiting.head waiting.effect (chain_bytes region waiting.chain)

-- A chain of the region has an entry's form.
abbrev pub HasFormOf : RegionState → ChainState → WaitingEntry → Type 0
HasFormOf region chain entry = chain_bytes region chain ≡ entry.form

-- An entry is what a head and an effect give with its form.
abbrev pub IsGivenBy : EntryHead → Effect → WaitingEntry → Type 0
IsGivenBy head effect entry = entry_by head effect entry.form ≡ entry

abbrev pub entries_in : RegionState → List Waiting → List WaitingEntry
entries_in region waiting = map (entry_in region) waiting

abbrev pub chains_of : List Waiting → List ChainState
chains_of waiting = map (λ w. w.chain) waiting

-- the records and blocks that are free
abbrev pub room_left : WaitingState → Room
room_left waiting = record { records = waiting.most - length waiting.entries; blocks = free_blocks waiting.region }

-- Entries go where the most that may wait, and the blocks of the region, stay the same.
pub record SameMemory (old new : WaitingState) : Type 0 where
  pub most : new.most ≡ old.most
  pub blocks : block_count new.region ≡ block_count old.region

-- The form is at most as long as the longest entry.
abbrev pub IsWithinLongest : WaitingEntry → Type 0
IsWithinLongest entry = length entry.form ≤ longest_entry

-- The chains of entries that wait are sound: there is room for the most of them, their chains are all that are out, and each has the form of
-- its write.
pub record AreChainsSound (most capacity : ℕ) (region : RegionState) (waiting : List Waiting) : Type 0 where
  pub size : most < 2 ^ 32
  pub room : most ≤ capacity
  pub few : length waiting ≤ most
  pub out : AreAllOut region (chains_of waiting)
  pub written : All IsOfWrite (entries_in region waiting)
  pub short : All IsWithinLongest (entries_in region waiting)
