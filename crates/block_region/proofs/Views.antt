-- What the runs of a region say of its chains and of its free blocks.
use Rattle.std.proofs.Common.{◌≡◌, ℕ, suc, ◌+◌, ◌<◌, ◌≤◌, List, [], length, get_or, sym, ◌∙◌, ap, arith, inl, inr}
use Rattle.std.specs.List.{sum_by}
use Rattle.std.proofs.lemmas.Bool.{cases_lt}
use Rattle.std.proofs.lemmas.List.{get_or_past, take_all}
use Rattle.std.proofs.lemmas.List.Sums.{get_or-le-sum_by}
use Rattle.block_region.specs.Blocks.{blocks_of}
use Rattle.block_region.specs.Regions.{RegionState, ChainState, Holds, chain_bytes, chain_bytes_at, taken_blocks, block_count}
use Rattle.block_region.specs.Runs.{run_bytes, chains_from, IsRun, AreRunsSound}
use Rattle.block_region.proofs.RunLaws.{length-run, length-chains, chain_of, taken-chains}

module _ (bytes next lens : List ℕ) (first_free free : ℕ) (kept : AreRunsSound bytes next lens first_free free) where
  pub run_of : (first : ℕ) → IsRun next first (blocks_of (get_or lens first 0))
  run_of first = record {
    within = λ k lt. kept.within (suc first) k lt;
    apart = λ k l a b same. (kept.apart (suc first) (suc first) k l a b same).1;
  }

  pub free_run : (count : ℕ) → count ≤ free → IsRun next first_free count
  free_run count le = record {
    within = λ k lt. kept.within 0 k (omega arith);
    apart = λ k l a b same. (kept.apart 0 0 k l (omega arith) (omega arith) same).1;
  }

  pub length_of : (first : ℕ) → length (get_or (chains_from bytes next 0 lens) first []) ≡ get_or lens first 0
  length_of first = elim (cases_lt first (length lens)) [
    | inl below ↦ ap length (chain_of bytes next lens first below) ∙ length-run bytes next first (get_or lens first 0) kept.sized (run_of first).within
    | inr past ↦
        ap length (get_or_past (chains_from bytes next 0 lens) first [] (omega (arith, length-chains bytes next 0 lens)))
        ∙ sym (get_or_past lens first 0 past)
  ]

  pub taken_is : sum_by (λ (chain : List ℕ). blocks_of (length chain)) (chains_from bytes next 0 lens) ≡ sum_by blocks_of lens
  taken_is = taken-chains bytes next 0 lens (λ i lt. let e : 0 + i ≡ i = omega arith in
      ap (λ b. length (run_bytes bytes next b (get_or lens i 0))) e ∙ length-run bytes next i (get_or lens i 0) kept.sized (run_of i).within)

  pub count_fits : (first : ℕ) → blocks_of (get_or lens first 0) + free ≤ length next
  count_fits first = elim (cases_lt first (length lens)) [
    | inl below ↦ omega (arith, get_or-le-sum_by blocks_of lens first 0 below, kept.whole)
    | inr past ↦ omega (arith, get_or_past lens first 0 past, kept.whole)
  ]

  module _ (region : RegionState) (view : record { chains = chains_from bytes next 0 lens } ≡ region) where
    pub room_is : free + taken_blocks region ≡ block_count region
    room_is =
        ap (λ (r : RegionState). free + taken_blocks r) (sym view)
        ∙ ap (λ n. free + n) taken_is ∙ kept.whole ∙ sym kept.rows ∙ sym (length-chains bytes next 0 lens)
        ∙ ap (λ (r : RegionState). block_count r) view

    -- a chain that the region holds
    module _ (chain : ChainState) (first len : ℕ) (seen : record { first = first; len = len } ≡ chain) (held : Holds region chain) (some : 0 < len) where
      pub len_is : get_or lens first 0 ≡ len
      len_is =
          let same_first : first ≡ chain.first = ap (λ (c : ChainState). c.first) seen in
          let same_len : len ≡ chain.len = ap (λ (c : ChainState). c.len) seen in
          sym (length_of first) ∙ ap (λ (r : RegionState). length (chain_bytes_at r first)) view
          ∙ ap (λ b. length (chain_bytes_at region b)) same_first ∙ held (omega arith) ∙ sym same_len

      pub read_is : (count : ℕ) → count ≡ chain.len → run_bytes bytes next first count ≡ chain_bytes region chain
      read_is count size =
          let same_first : first ≡ chain.first = ap (λ (c : ChainState). c.first) seen in
          let same_len : len ≡ chain.len = ap (λ (c : ChainState). c.len) seen in
          let below : first < length lens = elim (cases_lt first (length lens)) [
            | inl inside ↦ inside
            | inr past ↦ absurd (omega (arith, get_or_past lens first 0 past, len_is))
          ] in
          let whole : count ≡ get_or lens first 0 = size ∙ sym same_len ∙ sym len_is in
          ap (λ n. run_bytes bytes next first n) whole
          ∙ sym (chain_of bytes next lens first below)
          ∙ ap (λ (r : RegionState). chain_bytes_at r first) view
          ∙ ap (λ b. chain_bytes_at region b) same_first
          ∙ sym (take_all chain.len (chain_bytes_at region chain.first) (omega (arith, held (omega arith))))
