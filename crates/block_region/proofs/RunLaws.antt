-- Runs of blocks: steps one after the other, the length of what a run holds, and the chains of all blocks.
use Rattle.std.proofs.Common.{◌≡◌, ◌≢◌, ℕ, zero, suc, ◌+◌, ◌-◌, ◌*◌, ◌<◌, List, [], ◌∷◌, ◌++◌, length, take, drop, get_or, set, min, sym, refl, ◌∙◌, ap, arith, inl, inr, length-append, length-take, length-drop}
use Rattle.std.specs.List.{sum_by}
use Rattle.std.proofs.lemmas.Bool.{cases_eq}
use Rattle.std.proofs.lemmas.List.{get_or-set_other, get_or-set_same, ext_get_or, length-set}
use Rattle.std.proofs.lemmas.List.Sums.{sum_by-cons}
use Rattle.block_region.specs.Blocks.{blocks_of, block_at}
use Rattle.block_region.specs.Runs.{hop, gathered, run_bytes, chains_from}

pub hop-add : (next : List ℕ) (n k first : ℕ) → hop next (n + k) first ≡ hop next k (hop next n first)
hop-add next n zero first = let e : n + 0 ≡ n = omega arith in ap (λ m. hop next m first) e
hop-add next n (suc k) first =
    let e : n + suc k ≡ suc (n + k) = omega arith in
    ap (λ m. hop next m first) e ∙ ap (λ b. get_or next b 0) (hop-add next n k first)

-- A block that names another from now on leads elsewhere only the steps that begin there.
pub hop-set : (next : List ℕ) (last to k first : ℕ) → ((j : ℕ) → j < k → hop next j first ≢ last) → hop (set next last to) k first ≡ hop next k first
hop-set next last to zero first apart = refl
hop-set next last to (suc k) first apart =
    ap (λ b. get_or (set next last to) b 0) (hop-set next last to k first (λ j lt. apart j (omega arith)))
    ∙ get_or-set_other next last (hop next k first) to 0 (apart k (omega arith))

-- Runs of the same steps whose blocks hold the same bytes hold the same.
pub same_gathered : (bytes bytes' next next' : List ℕ) (first len count : ℕ) → ((k : ℕ) → k < count → hop next' k first ≡ hop next k first)
    → ((k : ℕ) → k < count → block_at bytes' (hop next k first) ≡ block_at bytes (hop next k first))
    → gathered bytes' next' first len count ≡ gathered bytes next first len count
same_gathered bytes bytes' next next' first len zero steps blocks = refl
same_gathered bytes bytes' next next' first len (suc n) steps blocks =
    let before = same_gathered bytes bytes' next next' first len n (λ k lt. steps k (omega arith)) (λ k lt. blocks k (omega arith)) in
    let here = ap (λ b. block_at bytes' b) (steps n (omega arith)) ∙ blocks n (omega arith) in
    ap (λ (t : List ℕ). t ++ take (len - 512 * n) (block_at bytes' (hop next' n first))) before
    ∙ ap (λ (t : List ℕ). gathered bytes next first len n ++ take (len - 512 * n) t) here

length-block : (bytes : List ℕ) (b count : ℕ) → b < count → length bytes ≡ 512 * count → length (block_at bytes b) ≡ 512
length-block bytes b count lt sized = omega (arith, length-take 512 (drop (512 * b) bytes), length-drop (512 * b) bytes)

pub length-gathered : (bytes next : List ℕ) (first len count : ℕ) → length bytes ≡ 512 * length next → ((k : ℕ) → k < count → hop next k first < length next)
    → length (gathered bytes next first len count) ≡ min len (512 * count)
length-gathered bytes next first len zero sized within = omega arith
length-gathered bytes next first len (suc n) sized within =
    let before = length-gathered bytes next first len n sized (λ k lt. within k (omega arith)) in
    let block = block_at bytes (hop next n first) in
    let here : length block ≡ 512 = length-block bytes (hop next n first) (length next) (within n (omega arith)) sized in
    omega (arith, length-append (gathered bytes next first len n) (take (len - 512 * n) block), length-take (len - 512 * n) block)

pub length-run : (bytes next : List ℕ) (first len : ℕ) → length bytes ≡ 512 * length next → ((k : ℕ) → k < blocks_of len → hop next k first < length next)
    → length (run_bytes bytes next first len) ≡ len
length-run bytes next first len sized within = omega (arith, length-gathered bytes next first len (blocks_of len) sized within)

pub length-chains : (bytes next : List ℕ) (first : ℕ) (lens : List ℕ) → length (chains_from bytes next first lens) ≡ length lens
length-chains bytes next first [] = refl
length-chains bytes next first (len ∷ lens) = ap suc (length-chains bytes next (first + 1) lens)

pub chain_at : (bytes next : List ℕ) (first : ℕ) (lens : List ℕ) (i : ℕ) → i < length lens
    → get_or (chains_from bytes next first lens) i [] ≡ run_bytes bytes next (first + i) (get_or lens i 0)
chain_at bytes next first [] i lt = absurd (omega arith)
chain_at bytes next first (len ∷ lens) zero lt = let e : first ≡ first + 0 = omega arith in ap (λ b. run_bytes bytes next b len) e
chain_at bytes next first (len ∷ lens) (suc i) lt =
    let e : first + 1 + i ≡ first + suc i = omega arith in
    chain_at bytes next (first + 1) lens i (omega arith) ∙ ap (λ b. run_bytes bytes next b (get_or lens i 0)) e

-- the same of all blocks
pub chain_of : (bytes next lens : List ℕ) (i : ℕ) → i < length lens → get_or (chains_from bytes next 0 lens) i [] ≡ run_bytes bytes next i (get_or lens i 0)
chain_of bytes next lens i lt = let e : 0 + i ≡ i = omega arith in chain_at bytes next 0 lens i lt ∙ ap (λ b. run_bytes bytes next b (get_or lens i 0)) e

-- The chains take the blocks of their lengths.
pub taken-chains : (bytes next : List ℕ) (first : ℕ) (lens : List ℕ) → ((i : ℕ) → i < length lens → length (run_bytes bytes next (first + i) (get_or lens i 0)) ≡ get_or lens i 0)
    → sum_by (λ (chain : List ℕ). blocks_of (length chain)) (chains_from bytes next first lens) ≡ sum_by blocks_of lens
taken-chains bytes next first [] whole = refl
taken-chains bytes next first (len ∷ lens) whole =
    let e : first ≡ first + 0 = omega arith in
    let here : length (run_bytes bytes next first len) ≡ len = ap (λ b. length (run_bytes bytes next b len)) e ∙ whole 0 (omega arith) in
    let further : (i : ℕ) → first + 1 + i ≡ first + suc i = λ i. omega arith in
    let rest = taken-chains bytes next (first + 1) lens (λ i lt. ap (λ b. length (run_bytes bytes next b (get_or lens i 0))) (further i) ∙ whole (suc i) (omega arith)) in
    sum_by-cons (λ (chain : List ℕ). blocks_of (length chain)) (run_bytes bytes next first len) (chains_from bytes next (first + 1) lens)
    ∙ ap (λ n. blocks_of n + sum_by (λ (chain : List ℕ). blocks_of (length chain)) (chains_from bytes next (first + 1) lens)) here
    ∙ ap (λ n. blocks_of len + n) rest
    ∙ sym (sum_by-cons blocks_of len lens)

-- Where the chain at one block changes alone, the chains are those with another at that block.
pub changed-chains : (bytes bytes' next next' lens : List ℕ) (at len : ℕ) (now : List ℕ) → at < length lens
    → ((i : ℕ) → i < length lens → i ≢ at → run_bytes bytes' next' i (get_or lens i 0) ≡ run_bytes bytes next i (get_or lens i 0))
    → run_bytes bytes' next' at len ≡ now
    → chains_from bytes' next' 0 (set lens at len) ≡ set (chains_from bytes next 0 lens) at now
changed-chains bytes bytes' next next' lens at len now lt others here =
    ext_get_or [] (chains_from bytes' next' 0 (set lens at len)) (set (chains_from bytes next 0 lens) at now)
    (omega (arith, length-chains bytes' next' 0 (set lens at len), length-set lens at len, length-set (chains_from bytes next 0 lens) at now, length-chains bytes next 0 lens))
    (λ i below. each i (omega (arith, length-chains bytes' next' 0 (set lens at len), length-set lens at len)))
  where
    old : List (List ℕ)
    old = chains_from bytes next 0 lens

    at_old : at < length old
    at_old = omega (arith, length-chains bytes next 0 lens)

    each : (i : ℕ) → i < length lens → get_or (chains_from bytes' next' 0 (set lens at len)) i [] ≡ get_or (set old at now) i []
    each i below = chain_of bytes' next' (set lens at len) i (omega (arith, length-set lens at len)) ∙ elim (cases_eq i at) [
      | inl same ↦
          ap (λ j. run_bytes bytes' next' j (get_or (set lens at len) j 0)) same
          ∙ ap (λ n. run_bytes bytes' next' at n) (get_or-set_same lens at len 0 lt)
          ∙ here ∙ sym (get_or-set_same old at now [] at_old) ∙ ap (λ j. get_or (set old at now) j []) (sym same)
      | inr apart ↦
          ap (λ n. run_bytes bytes' next' i n) (get_or-set_other lens at i len 0 apart)
          ∙ others i below apart ∙ sym (chain_of bytes next lens i below) ∙ sym (get_or-set_other old at i now [] apart)
    ]
