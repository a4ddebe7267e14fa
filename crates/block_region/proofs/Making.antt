-- A region that was just made: all its blocks are free, each before the next in number.
use Rattle.std.proofs.Common.{◌≡◌, ℕ, zero, suc, ◌+◌, ◌*◌, ◌<◌, ◌^◌, List, [], length, map, get_or, replicate, sym, refl, ◌∙◌, ap, arith, inl, inr, add-one}
use Rattle.std.specs.List.{range_with_len, sum_by}
use Rattle.std.proofs.lemmas.Bool.{cases_lt}
use Rattle.std.proofs.lemmas.List.{get_or-replicate, get_or_past, ext_get_or, length-replicate}
use Rattle.std.proofs.lemmas.List.Folds.{sum_by-replicate}
use Rattle.std.proofs.lemmas.List.FromFn.{get_or-map-range_with_len, length-map-range_with_len}
use Rattle.block_region.specs.Blocks.{blocks_of}
use Rattle.block_region.specs.Runs.{hop, run_bytes, chains_from, run_first, run_count, AreRunsSound}
use Rattle.block_region.proofs.RunLaws.{length-chains, chain_of}

module _ (bytes next lens : List ℕ) (blocks : ℕ) (few : blocks < 2 ^ 32) (sized : length bytes ≡ 512 * blocks)
    (linked : next ≡ map (λ block. block + 1) (range_with_len 0 blocks)) (none : lens ≡ replicate blocks 0) where
  length_next : length next ≡ blocks
  length_next = ap length linked ∙ length-map-range_with_len (λ block. block + 1) 0 blocks

  length_lens : length lens ≡ blocks
  length_lens = ap length none ∙ length-replicate blocks 0

  hops_are : (k : ℕ) → k < blocks → hop next k 0 ≡ k
  hops_are zero lt = refl
  hops_are (suc k) lt =
      ap (λ b. get_or next b 0) (hops_are k (omega arith))
      ∙ ap (λ (n : List ℕ). get_or n k 0) linked
      ∙ get_or-map-range_with_len (λ block. block + 1) 0 blocks k k 0 (omega arith) (omega arith)
      ∙ add-one k

  no_len : (i : ℕ) → get_or lens i 0 ≡ 0
  no_len i = elim (cases_lt i blocks) [
    | inl below ↦ ap (λ (n : List ℕ). get_or n i 0) none ∙ get_or-replicate blocks i 0 0 below
    | inr past ↦ get_or_past lens i 0 (omega (arith, length_lens))
  ]

  no_chain : (i k : ℕ) → k < blocks_of (get_or lens i 0) → ⊥
  no_chain i k lt = omega (arith, ap blocks_of (no_len i))

  within' : (run k : ℕ) → k < run_count blocks lens run → hop next k (run_first 0 run) < length next
  within' zero k lt = omega (arith, hops_are k lt, length_next)
  within' (suc i) k lt = absurd (no_chain i k lt)

  apart' : (run other k l : ℕ) → k < run_count blocks lens run → l < run_count blocks lens other
      → hop next k (run_first 0 run) ≡ hop next l (run_first 0 other) → (run ≡ other) × (k ≡ l)
  apart' zero zero k l a b same = (refl, sym (hops_are k a) ∙ same ∙ hops_are l b)
  apart' zero (suc j) k l a b same = absurd (no_chain j l b)
  apart' (suc i) zero k l a b same = absurd (no_chain i k a)
  apart' (suc i) (suc j) k l a b same = absurd (no_chain i k a)

  pub made_keeps : AreRunsSound bytes next lens 0 blocks
  made_keeps = record {
    few = omega (arith, few, length_next);
    sized = omega (arith, sized, length_next);
    rows = length_lens ∙ sym length_next;
    within = within';
    apart = apart';
    whole = omega (arith, ap (λ (n : List ℕ). sum_by blocks_of n) none, sum_by-replicate blocks_of blocks 0, length_next);
  }

  pub made_chains : chains_from bytes next 0 lens ≡ replicate blocks []
  made_chains =
      ext_get_or [] (chains_from bytes next 0 lens) (replicate blocks []) (omega (arith, length-chains bytes next 0 lens, length_lens, length-replicate {A = List ℕ} blocks []))
      (λ i lt. let below : i < blocks = omega (arith, length-chains bytes next 0 lens, length_lens) in
      chain_of bytes next lens i (omega (arith, length_lens)) ∙ ap (λ n. run_bytes bytes next i n) (no_len i) ∙ sym (get_or-replicate blocks i [] [] below))
