-- A give: the blocks of a chain go before the free ones.
use Rattle.std.proofs.Common.{◌≡◌, ◌≢◌, ℕ, zero, suc, ◌+◌, ◌-◌, ◌<◌, ◌≤◌, List, [], length, get_or, set, sym, refl, ◌∙◌, ap, arith, inl, inr}
use Rattle.std.proofs.lemmas.Bool.{cases_eq, cases_lt}
use Rattle.std.proofs.lemmas.List.{get_or-set_same, get_or-set_other, get_or_past, length-set}
use Rattle.std.proofs.lemmas.List.Sums.{sum_by-set}
use Rattle.block_region.specs.Blocks.{blocks_of}
use Rattle.block_region.specs.Runs.{hop, chains_from, run_first, run_count, IsRun, AreRunsSound}
use Rattle.block_region.proofs.RunLaws.{hop-add, hop-set, same_gathered, changed-chains}
use Rattle.block_region.proofs.Views.{run_of}

module _ (bytes next lens : List ℕ) (first_free free first : ℕ) (kept : AreRunsSound bytes next lens first_free free) (some : 0 < get_or lens first 0) where
  abbrev count : ℕ
  count = blocks_of (get_or lens first 0)

  abbrev pub last_block : ℕ
  last_block = hop next (count - 1) first

  abbrev next' : List ℕ
  next' = set next last_block first_free

  abbrev lens' : List ℕ
  lens' = set lens first 0

  positive : 0 < count
  positive = omega arith

  run : IsRun next first count
  run = run_of bytes next lens first_free free kept first

  pub chain_inside : first < length lens
  chain_inside = elim (cases_lt first (length lens)) [
    | inl below ↦ below
    | inr past ↦ absurd (omega (arith, get_or_past lens first 0 past))
  ]

  pub last_inside : last_block < length next
  last_inside = run.within (count - 1) (omega (arith, positive))

  hops_here : (k : ℕ) → k < count → hop next' k first ≡ hop next k first
  hops_here k lt = hop-set next last_block first_free k first (λ j below same. absurd (omega (arith, run.apart j (count - 1) (omega arith) (omega (arith, positive)) same)))

  hops_free : (k : ℕ) → k < free → hop next' k first_free ≡ hop next k first_free
  hops_free k lt = hop-set next last_block first_free k first_free (λ j below same. absurd (omega (arith, (kept.apart 0 (suc first) j (count - 1) (omega arith) (omega (arith, positive)) same).0)))

  hops_else : (i k : ℕ) → i ≢ first → k < blocks_of (get_or lens i 0) → hop next' k i ≡ hop next k i
  hops_else i k other lt = hop-set next last_block first_free k i (λ j below same. other (omega (arith, (kept.apart (suc i) (suc first) j (count - 1) (omega arith) (omega (arith, positive)) same).0)))

  -- after the chain come the free blocks
  hops_after : (k : ℕ) → k < free → hop next' (count + k) first ≡ hop next k first_free
  hops_after k lt =
      let e : count ≡ suc (count - 1) = omega (arith, positive) in
      let joint : hop next' count first ≡ first_free =
      ap (λ m. hop next' m first) e ∙ ap (λ b. get_or next' b 0) (hops_here (count - 1) (omega (arith, positive))) ∙ get_or-set_same next last_block first_free 0 last_inside in
      hop-add next' count k first ∙ ap (hop next' k) joint ∙ hops_free k lt

  hops_past : (k : ℕ) → count ≤ k → k < free + count → hop next' k first ≡ hop next (k - count) first_free
  hops_past k le lt = let e : k ≡ count + (k - count) = omega arith in ap (λ m. hop next' m first) e ∙ hops_after (k - count) (omega arith)

  none_here : (i k : ℕ) → i ≡ first → k < blocks_of (get_or lens' i 0) → ⊥
  none_here i k is lt = omega (arith, ap (λ m. blocks_of (get_or lens' m 0)) is ∙ ap blocks_of (get_or-set_same lens first 0 0 chain_inside))

  count_else : (i : ℕ) → i ≢ first → blocks_of (get_or lens' i 0) ≡ blocks_of (get_or lens i 0)
  count_else i other = ap blocks_of (get_or-set_other lens first i 0 0 other)

  same_length : length next' ≡ length next
  same_length = length-set next last_block first_free

  within' : (run k : ℕ) → k < run_count (free + count) lens' run → hop next' k (run_first first run) < length next'
  within' zero k lt = elim (cases_lt k count) [
    | inl near ↦ omega (arith, hops_here k near, run.within k near, same_length)
    | inr far ↦ omega (arith, hops_past k far lt, kept.within 0 (k - count) (omega arith), same_length)
  ]
  within' (suc i) k lt = elim (cases_eq i first) [
    | inl is ↦ absurd (none_here i k is lt)
    | inr other ↦
        let at : k < blocks_of (get_or lens i 0) = omega (arith, count_else i other) in
        omega (arith, hops_else i k other at, kept.within (suc i) k at, same_length)
  ]

  -- no block is in the chain and after it
  mixed : (k l : ℕ) → k < count → count ≤ l → l < free + count → hop next' k first ≡ hop next' l first → ⊥
  mixed k l near far lt same =
      omega (arith, (kept.apart (suc first) 0 k (l - count) near (omega arith) (sym (hops_here k near) ∙ same ∙ hops_past l far lt)).0)

  free_apart : (k l : ℕ) → k < free + count → l < free + count → hop next' k first ≡ hop next' l first → k ≡ l
  free_apart k l a b same = elim (cases_lt k count) [
    | inl near ↦ elim (cases_lt l count) [
      | inl near' ↦ run.apart k l near near' (sym (hops_here k near) ∙ same ∙ hops_here l near')
      | inr far' ↦ absurd (mixed k l near far' b same)
    ]
    | inr far ↦ elim (cases_lt l count) [
      | inl near' ↦ absurd (mixed l k near' far a (sym same))
      | inr far' ↦ omega (arith, (kept.apart 0 0 (k - count) (l - count) (omega arith) (omega arith) (sym (hops_past k far a) ∙ same ∙ hops_past l far' b)).1)
    ]
  ]

  -- no block is free and in a chain
  crossed : (i k l : ℕ) → k < free + count → l < blocks_of (get_or lens' i 0) → hop next' k first ≡ hop next' l i → ⊥
  crossed i k l a b same = elim (cases_eq i first) [
    | inl is ↦ none_here i l is b
    | inr other ↦
        let at : l < blocks_of (get_or lens i 0) = omega (arith, count_else i other) in
        elim (cases_lt k count) [
          | inl near ↦ other (omega (arith, (kept.apart (suc first) (suc i) k l near at (sym (hops_here k near) ∙ same ∙ hops_else i l other at)).0))
          | inr far ↦ omega (arith, (kept.apart 0 (suc i) (k - count) l (omega arith) at (sym (hops_past k far a) ∙ same ∙ hops_else i l other at)).0)
        ]
  ]

  chains_apart : (i j k l : ℕ) → k < blocks_of (get_or lens' i 0) → l < blocks_of (get_or lens' j 0) → hop next' k i ≡ hop next' l j → (suc i ≡ suc j) × (k ≡ l)
  chains_apart i j k l a b same = elim (cases_eq i first) [
    | inl is ↦ absurd (none_here i k is a)
    | inr other ↦ elim (cases_eq j first) [
      | inl is ↦ absurd (none_here j l is b)
      | inr other' ↦
          let at_k : k < blocks_of (get_or lens i 0) = omega (arith, count_else i other) in
          let at_l : l < blocks_of (get_or lens j 0) = omega (arith, count_else j other') in
          kept.apart (suc i) (suc j) k l at_k at_l (sym (hops_else i k other at_k) ∙ same ∙ hops_else j l other' at_l)
    ]
  ]

  apart' : (run other k l : ℕ) → k < run_count (free + count) lens' run → l < run_count (free + count) lens' other
      → hop next' k (run_first first run) ≡ hop next' l (run_first first other) → (run ≡ other) × (k ≡ l)
  apart' zero zero k l a b same = (refl, free_apart k l a b same)
  apart' zero (suc j) k l a b same = absurd (crossed j k l a b same)
  apart' (suc i) zero k l a b same = absurd (crossed i l k b a (sym same))
  apart' (suc i) (suc j) k l a b same = chains_apart i j k l a b same

  pub given_keeps : AreRunsSound bytes next' lens' first (free + count)
  given_keeps = record {
    few = omega (arith, kept.few, same_length);
    sized = omega (arith, kept.sized, same_length);
    rows = length-set lens first 0 ∙ kept.rows ∙ sym same_length;
    within = within';
    apart = apart';
    whole = omega (arith, sum_by-set blocks_of lens first 0 0 chain_inside, kept.whole, same_length);
  }

  -- All other chains are as before.
  pub given_chains : chains_from bytes next' 0 lens' ≡ set (chains_from bytes next 0 lens) first []
  given_chains =
      changed-chains bytes bytes next next' lens first 0 [] chain_inside
      (λ i below other. same_gathered bytes bytes next next' i (get_or lens i 0) (blocks_of (get_or lens i 0)) (λ k lt. hops_else i k other lt) (λ k lt. refl)) refl
