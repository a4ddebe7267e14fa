-- What a region and a chain are to their callers.
--
-- A region is, for each of its blocks, the bytes of the chain that begins there. A chain is known by its first block, and a
-- chain of no bytes by nothing, since it holds no block.
--
-- A caller keeps its chains in a list of its own, as a queue does with those of its waiting writes, and one fact with it:
-- `AreAllOut region chains`, that these are all the chains which are out, each held and no two of them one. What waits at a place
-- is `chain_bytes region chain`. A take puts its chain after the list, a give takes one out at any place, and both leave the bytes
-- of all others as they are; so what waits changes by that one entry. The free blocks are the region's less the sum over the list.
-- The law `takes_keep_chains` says all this.
use Rattle.std.specs.Prelude.{◌≡◌, ℕ, ◌-◌, ◌<◌, ◌==◌, List, [], length, get_or, take, set, replicate, sum_by, if◌then◌else◌}
use Rattle.block_region.specs.Blocks.{blocks_of}

pub record RegionState : Type 0 where
  -- for each block the bytes of the chain that begins there, or none
  pub chains : List (List ℕ)

pub record ChainState : Type 0 where
  -- the number of its first block
  pub first : ℕ
  -- its length in bytes
  pub len : ℕ

-- a region of so many blocks with no chain out
abbrev pub empty_region : (blocks : ℕ) → RegionState
empty_region blocks = record { chains = replicate blocks [] }

-- the bytes of the chain that begins at a block
abbrev pub chain_bytes_at : RegionState → (first : ℕ) → List ℕ
chain_bytes_at region first = get_or region.chains first []

-- the bytes of a chain
abbrev pub chain_bytes : RegionState → ChainState → List ℕ
chain_bytes region chain = take chain.len (chain_bytes_at region chain.first)

-- A region holds a chain where one of that length begins at its first block. Each region holds a chain of no bytes.
abbrev pub Holds : RegionState → ChainState → Type 0
Holds region chain = 0 < chain.len → length (chain_bytes_at region chain.first) ≡ chain.len

-- the region with a chain of these bytes at a block, or with none where there are no bytes
abbrev pub with_chain : RegionState → (first : ℕ) → (bytes : List ℕ) → RegionState
with_chain region first bytes = record { chains = set region.chains first bytes }

-- the region without a chain
abbrev pub without_chain : RegionState → ChainState → RegionState
without_chain region chain = (if chain.len == 0 then region else with_chain region chain.first [])

-- ---- room

abbrev pub block_count : RegionState → ℕ
block_count region = length region.chains

-- the blocks that the chains take which are out
abbrev pub taken_blocks : RegionState → ℕ
taken_blocks region = sum_by (λ bytes. blocks_of (length bytes)) region.chains

abbrev pub free_blocks : RegionState → ℕ
free_blocks region = block_count region - taken_blocks region
