-- Blocks.
use Rattle.std.specs.Prelude.{ℕ, ◌+◌, ◌-◌, ◌*◌, ◌/◌, List, take, drop}
use Rattle.xrc_edge.specs.declared.block.TheConstants.{BLOCK}

-- the length in blocks, rounded up
abbrev pub blocks_of : (length : ℕ) → ℕ
blocks_of len = (len + (BLOCK - 1)) / BLOCK

-- the bytes of the block with a number
abbrev pub block_at : (bytes : List ℕ) → (number : ℕ) → List ℕ
block_at bytes number = take BLOCK (drop (BLOCK * number) bytes)
