-- How the blocks of a region are linked: runs of blocks, each naming the next. The free blocks are one run, each chain is another.
use Rattle.std.specs.Prelude.{◌≡◌, ℕ, zero, suc, ◌+◌, ◌-◌, ◌*◌, ◌<◌, ◌^◌, List, [], ◌∷◌, ◌++◌, length, get_or, take, sum_by}
use Rattle.xrc_edge.specs.declared.block.TheConstants.{BLOCK}
use Rattle.block_region.specs.Blocks.{blocks_of, block_at}

-- the block that so many steps lead to
abbrev pub hop : (next : List ℕ) → (steps first : ℕ) → ℕ
hop next zero first = first
hop next (suc n) first = get_or next (hop next n first) 0

-- of the bytes of a length that a run holds from a block on, those in its first so many blocks
abbrev pub gathered : (bytes next : List ℕ) → (first len count : ℕ) → List ℕ
gathered bytes next first len zero = []
gathered bytes next first len (suc n) = gathered bytes next first len n ++ take (len - BLOCK * n) (block_at bytes (hop next n first))

-- the bytes of a length that a run holds from a block on
abbrev pub run_bytes : (bytes next : List ℕ) → (first len : ℕ) → List ℕ
run_bytes bytes next first len = gathered bytes next first len (blocks_of len)

-- for each block from a number on the bytes of the chain that begins there, by the lengths of the chains
abbrev pub chains_from : (bytes next : List ℕ) → (first : ℕ) → (lens : List ℕ) → List (List ℕ)
chains_from bytes next first [] = []
chains_from bytes next first (len ∷ lens) = run_bytes bytes next first len ∷ chains_from bytes next (first + 1) lens

-- A run of so many blocks: they are there, and no two of them are one.
pub record IsRun (next : List ℕ) (first count : ℕ) : Type 0 where
  pub within : (k : ℕ) → k < count → hop next k first < length next
  pub apart : (k l : ℕ) → k < count → l < count → hop next k first ≡ hop next l first → k ≡ l

-- where a run begins: the free blocks are run 0, and the chain that begins at a block has its number and one more
abbrev pub run_first : (first_free run : ℕ) → ℕ
run_first first_free zero = first_free
run_first first_free (suc first) = first

-- how many blocks it has
abbrev pub run_count : (free : ℕ) → (lens : List ℕ) → (run : ℕ) → ℕ
run_count free lens zero = free
run_count free lens (suc first) = blocks_of (get_or lens first 0)

-- The runs of a region are sound: each block lies in one run, at one place.
pub record AreRunsSound (bytes next lens : List ℕ) (first_free free : ℕ) : Type 0 where
  pub few : length next < 2 ^ 32
  pub sized : length bytes ≡ BLOCK * length next
  pub rows : length lens ≡ length next
  pub within : (run k : ℕ) → k < run_count free lens run → hop next k (run_first first_free run) < length next
  pub apart : (run other k l : ℕ) → k < run_count free lens run → l < run_count free lens other
      → hop next k (run_first first_free run) ≡ hop next l (run_first first_free other) → (run ≡ other) × (k ≡ l)
  pub whole : free + sum_by blocks_of lens ≡ length next
