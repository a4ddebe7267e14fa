-- A disk in memory that keeps its past.
use Rattle.std.specs.Prelude.{◌≡◌, ◌++◌, ◌<◌, ℕ, List, [], ◌∷◌, map, vec_len, vec_capacity}
use Rattle.crash_plant.specs.declared.entry.Done.{Done}
use Rattle.crash_plant.specs.declared.memory_disk.MemoryDisk.{MemoryDisk}
use Rattle.crash_plant.specs.Bytes.{patched}
use Rattle.crash_plant.specs.Pasts.{Note, note_of, moved}

-- what a read gives
abbrev pub held : MemoryDisk → List ℕ
held disk = disk.disk.bytes.items

-- what it held first
abbrev pub first_held : MemoryDisk → List ℕ
first_held disk = disk.base.value.bytes.items

abbrev pub past_of : MemoryDisk → List Note
past_of disk = map note_of disk.log.items

-- The record has room for one more call.
abbrev pub HasRoom : MemoryDisk → Type 0
HasRoom disk = vec_len disk.log < vec_capacity disk.log

-- A call is noted that wrote these bytes.
pub record Notes (now : ℕ) (done : Done) (place : ℕ) (bytes : List ℕ) (old new : MemoryDisk) : Type 0 where
  pub bytes_are : held new ≡ patched place bytes (held old)
  pub base : first_held new ≡ first_held old
  pub past : past_of new ≡ past_of old ++ record { since = now; till = now; done = done; after = held new } ∷ []

-- the same bytes and the same past
pub record Alike (old new : MemoryDisk) : Type 0 where
  pub bytes_are : held new ≡ held old
  pub base : first_held new ≡ first_held old
  pub past : past_of new ≡ past_of old

-- The calls of a lent time are counted from a moment on and up to another.
pub record Moves (lent till : ℕ) (old new : MemoryDisk) : Type 0 where
  pub bytes_are : held new ≡ held old
  pub base : first_held new ≡ first_held old
  pub past : past_of new ≡ moved lent till (past_of old)
