-- A take: the front of the free blocks becomes a chain.
use Rattle.std.proofs.Common.{◌≡◌, ◌≢◌, ℕ, zero, suc, ◌+◌, ◌-◌, ◌<◌, ◌≤◌, List, length, get_or, set, sym, refl, ◌∙◌, ap, arith, inl, inr}
use Rattle.std.proofs.lemmas.Bool.{cases_eq, cases_lt}
use Rattle.std.proofs.lemmas.List.{get_or-set_same, get_or-set_other, length-set}
use Rattle.std.proofs.lemmas.List.Sums.{sum_by-set}
use Rattle.block_region.specs.Blocks.{blocks_of, block_at}
use Rattle.block_region.specs.Runs.{hop, run_bytes, chains_from, run_first, run_count, AreRunsSound}
use Rattle.block_region.proofs.RunLaws.{hop-add, same_gathered, changed-chains}

module _ (bytes next lens : List ℕ) (first_free free : ℕ) (kept : AreRunsSound bytes next lens first_free free) (some : 0 < free) where
  pub first_inside : first_free < length next
  first_inside = kept.within 0 0 some

  -- no chain begins at a free block
  pub first_fresh : get_or lens first_free 0 ≡ 0
  first_fresh = elim (cases_lt 0 (get_or lens first_free 0)) [
    | inl taken ↦ absurd (omega (arith, (kept.apart 0 (suc first_free) 0 0 some (omega arith) refl).0))
    | inr not ↦ omega arith
  ]

module _ (bytes bytes' next lens : List ℕ) (first_free free len : ℕ) (kept : AreRunsSound bytes next lens first_free free) (some : 0 < len) (room : blocks_of len ≤ free) where
  abbrev count : ℕ
  count = blocks_of len

  abbrev after : ℕ
  after = hop next count first_free

  abbrev lens' : List ℕ
  lens' = set lens first_free len

  inside : first_free < length next
  inside = first_inside bytes next lens first_free free kept (omega arith)

  fresh : get_or lens first_free 0 ≡ 0
  fresh = first_fresh bytes next lens first_free free kept (omega arith)

  count_here : (i : ℕ) → i ≡ first_free → blocks_of (get_or lens' i 0) ≡ count
  count_here i is = ap (λ m. blocks_of (get_or lens' m 0)) is ∙ ap blocks_of (get_or-set_same lens first_free len 0 (omega (arith, inside, kept.rows)))

  count_else : (i : ℕ) → i ≢ first_free → blocks_of (get_or lens' i 0) ≡ blocks_of (get_or lens i 0)
  count_else i other = ap blocks_of (get_or-set_other lens first_free i len 0 other)

  within' : (run k : ℕ) → k < run_count (free - count) lens' run → hop next k (run_first after run) < length next
  within' zero k lt = omega (arith, hop-add next count k first_free, kept.within 0 (count + k) (omega arith))
  within' (suc i) k lt = elim (cases_eq i first_free) [
    | inl is ↦ omega (arith, ap (hop next k) is, kept.within 0 k (omega (arith, count_here i is)))
    | inr other ↦ kept.within (suc i) k (omega (arith, count_else i other))
  ]

  -- no block is after the new chain and in a chain
  crossed : (i k l : ℕ) → k < free - count → l < blocks_of (get_or lens' i 0) → hop next k after ≡ hop next l i → ⊥
  crossed i k l a b same = elim (cases_eq i first_free) [
    | inl is ↦
        let at : l < count = omega (arith, count_here i is) in
        omega (arith, (kept.apart 0 0 (count + k) l (omega arith) (omega arith) (hop-add next count k first_free ∙ same ∙ ap (hop next l) is)).1)
    | inr other ↦
        omega (arith, (kept.apart 0 (suc i) (count + k) l (omega arith) (omega (arith, count_else i other)) (hop-add next count k first_free ∙ same)).0)
  ]

  chains_apart : (i j k l : ℕ) → k < blocks_of (get_or lens' i 0) → l < blocks_of (get_or lens' j 0) → hop next k i ≡ hop next l j → (i ≡ j) × (k ≡ l)
  chains_apart i j k l a b same = elim (cases_eq i first_free) [
    | inl is ↦
        let at_k : k < count = omega (arith, count_here i is) in
        elim (cases_eq j first_free) [
          | inl is' ↦
              let at_l : l < count = omega (arith, count_here j is') in (
                is ∙ sym is',
                (kept.apart 0 0 k l (omega arith) (omega arith) (sym (ap (hop next k) is) ∙ same ∙ ap (hop next l) is')).1,
              )
          | inr other ↦ absurd (omega (arith, (kept.apart 0 (suc j) k l (omega arith) (omega (arith, count_else j other)) (sym (ap (hop next k) is) ∙ same)).0))
        ]
    | inr other ↦
        let at_k : k < blocks_of (get_or lens i 0) = omega (arith, count_else i other) in
        elim (cases_eq j first_free) [
          | inl is' ↦ absurd (omega (arith, (kept.apart (suc i) 0 k l at_k (omega (arith, count_here j is')) (same ∙ ap (hop next l) is')).0))
          | inr other' ↦
              let both = kept.apart (suc i) (suc j) k l at_k (omega (arith, count_else j other')) same in
              (omega (arith, both.0), both.1)
        ]
  ]

  apart' : (run other k l : ℕ) → k < run_count (free - count) lens' run → l < run_count (free - count) lens' other
      → hop next k (run_first after run) ≡ hop next l (run_first after other) → (run ≡ other) × (k ≡ l)
  apart' zero zero k l a b same = (
    refl,
    omega (arith, (kept.apart 0 0 (count + k) (count + l) (omega arith) (omega arith) (hop-add next count k first_free ∙ same ∙ sym (hop-add next count l first_free))).1),
  )
  apart' zero (suc j) k l a b same = absurd (crossed j k l a b same)
  apart' (suc i) zero k l a b same = absurd (crossed i l k b a (sym same))
  apart' (suc i) (suc j) k l a b same = let both = chains_apart i j k l a b same in (ap suc both.0, both.1)

  pub taken_keeps : length bytes' ≡ length bytes → AreRunsSound bytes' next lens' after (free - count)
  taken_keeps same = record {
    few = kept.few;
    sized = same ∙ kept.sized;
    rows = length-set lens first_free len ∙ kept.rows;
    within = within';
    apart = apart';
    whole = omega (arith, sum_by-set blocks_of lens first_free len 0 (omega (arith, inside, kept.rows)), ap blocks_of fresh, kept.whole);
  }

  -- All other chains are as before.
  pub taken_chains : (given : List ℕ) → ((other : ℕ) → ((k : ℕ) → k < count → ¬ (other ≡ hop next k first_free)) → block_at bytes' other ≡ block_at bytes other)
      → run_bytes bytes' next first_free len ≡ given
      → chains_from bytes' next 0 lens' ≡ set (chains_from bytes next 0 lens) first_free given
  taken_chains given others filled =
      changed-chains bytes bytes' next next lens first_free len given (omega (arith, inside, kept.rows))
      (λ i below other. same_gathered bytes bytes' next next i (get_or lens i 0) (blocks_of (get_or lens i 0)) (λ k lt. refl)
      (λ k lt. others (hop next k i) (λ l at same. absurd (omega (arith, (kept.apart (suc i) 0 k l lt (omega arith) same).0)))))
      filled
