-- The laws of regions and their chains. Each is the contract of a public function without parameters.
use Rattle.std.specs.Prelude.{◌≡◌, ℕ, ◌<◌, ◌≤◌, ◌+◌, List, [], ◌∷◌, ◌++◌, length, get_or, sum_by}
use Rattle.std.specs.List.{All, AllPairs, remove}
use Rattle.block_region.specs.Blocks.{blocks_of}
use Rattle.block_region.specs.Regions.{RegionState, ChainState, empty_region, chain_bytes_at, chain_bytes, Holds, with_chain, without_chain, block_count, taken_blocks, free_blocks}

-- Two chains begin at different blocks, where both have blocks.
abbrev pub BeginApart : ChainState → ChainState → Type 0
BeginApart one other = 0 < one.len → 0 < other.len → ¬ (one.first ≡ other.first)

-- A list of chains, no two of them one, that are all the chains which are out.
pub record AreAllOut (region : RegionState) (chains : List ChainState) : Type 0 where
  pub held : All (Holds region) chains
  pub apart : AllPairs BeginApart chains
  pub whole : sum_by (λ chain. blocks_of chain.len) chains ≡ taken_blocks region

-- A chain is held as before, with the same bytes.
pub record IsKept (before after : RegionState) (chain : ChainState) : Type 0 where
  pub held : Holds after chain
  pub bytes : chain_bytes after chain ≡ chain_bytes before chain

-- In a region with no chain out, the chains that are out are none.
abbrev pub NoneAreOut : Type 0
NoneAreOut = (blocks : ℕ) → AreAllOut (empty_region blocks) []

-- A new chain goes after those that are out.
abbrev pub TakenChainsAreOut : Type 0
TakenChainsAreOut = (region : RegionState) (chains : List ChainState) (chain : ChainState) (bytes : List ℕ) → AreAllOut region chains
    → chain.len ≡ length bytes → chain_bytes_at region chain.first ≡ [] → Holds (with_chain region chain.first bytes) chain
    → AreAllOut (with_chain region chain.first bytes) (chains ++ chain ∷ []) × All (IsKept region (with_chain region chain.first bytes)) chains

-- A chain that is given back leaves the others out.
abbrev pub GivenChainsLeaveTheRest : Type 0
GivenChainsLeaveTheRest = (region : RegionState) (chains : List ChainState) (chain : ChainState) (place : ℕ) → AreAllOut region chains
    → place < length chains → get_or chains place chain ≡ chain
    → AreAllOut (without_chain region chain) (remove chains place) × All (IsKept region (without_chain region chain)) (remove chains place)

-- The free blocks and those of the chains that are out are all blocks.
abbrev pub BlocksAddUp : Type 0
BlocksAddUp = (region : RegionState) (chains : List ChainState) → AreAllOut region chains → taken_blocks region ≤ block_count region
    → free_blocks region + sum_by (λ chain. blocks_of chain.len) chains ≡ block_count region
