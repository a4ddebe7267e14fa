-- What a take leaves of a region, as its callers see it.
use Rattle.std.proofs.Common.{◌≡◌, ℕ, ◌+◌, ◌-◌, ◌<◌, ◌≤◌, ◌^◌, List, [], length, get_or, set, sym, ◌∙◌, ap, subst, arith}
use Rattle.std.proofs.lemmas.List.{get_or-set_same, length-set, set_past, get_or_past, with_items_is}
use Rattle.std.specs.Vec.{with_items}
use Rattle.block_region.specs.Blocks.{blocks_of, block_at}
use Rattle.block_region.specs.Regions.{RegionState, chain_bytes_at, with_chain, block_count, taken_blocks, free_blocks}
use Rattle.block_region.specs.Runs.{hop, run_bytes, chains_from, AreRunsSound}
use Rattle.block_region.specs.declared.region.Region.TheInside.{Inside}
use Rattle.block_region.proofs.RunLaws.{length-chains, chain_of}
use Rattle.block_region.proofs.Views.{room_is}
use Rattle.block_region.proofs.Taking.{first_inside, first_fresh, taken_keeps, taken_chains}

-- the run of free blocks from a block on, after it was filled
pub record Filled (old new next : List ℕ) (first : ℕ) (given : List ℕ) (after : ℕ) : Type 0 where
  pub len : length new ≡ length old
  pub filled : run_bytes new next first (length given) ≡ given
  pub others : (other : ℕ) → ((k : ℕ) → k < blocks_of (length given) → ¬ (other ≡ hop next k first)) → block_at new other ≡ block_at old other
  pub after_is : after ≡ hop next (blocks_of (length given)) first

-- the same of the lists that were seen
pub filled_in : (old new next seen_old seen_next : List ℕ) (first : ℕ) (given : List ℕ) (after : ℕ) → seen_old ≡ old → seen_next ≡ next → Filled seen_old new seen_next first given after → Filled old new next first given after
filled_in old new next seen_old seen_next first given after a b fact =
    subst (λ (l : List ℕ). Filled l new next first given after) a (subst (λ (n : List ℕ). Filled seen_old new n first given after) b fact)

pub record Taken (bytes' next lens : List ℕ) (first_free free count after : ℕ) (region : RegionState) (given : List ℕ) : Type 0 where
  pub first_inside : first_free < length lens
  pub keeps : AreRunsSound bytes' next (set lens first_free (length given)) after (free - count)
  pub fresh : chain_bytes_at region first_free ≡ []
  pub taken : record { chains = chains_from bytes' next 0 (set lens first_free (length given)) } ≡ with_chain region first_free given
  pub begins : chain_bytes_at (with_chain region first_free given) first_free ≡ given
  pub room : free_blocks (with_chain region first_free given) + blocks_of (length given) ≡ free_blocks region

pub takes : (bytes bytes' put next lens : List ℕ) (first_free free count after : ℕ) (region : RegionState) (given : List ℕ) → AreRunsSound bytes next lens first_free free
    → record { chains = chains_from bytes next 0 lens } ≡ region → Filled bytes put next first_free given after → bytes' ≡ put
    → count ≡ blocks_of (length given) → count ≤ free → 0 < length given
    → Taken bytes' next lens first_free free count after region given
takes bytes bytes' put next lens first_free free count after region given kept view fill is count_is room some = record {
  first_inside = inside;
  keeps = keeps;
  fresh = ap (λ (r : RegionState). chain_bytes_at r first_free) (sym view) ∙ chain_of bytes next lens first_free inside ∙ ap (λ n. run_bytes bytes next first_free n) fresh_len;
  taken = taken;
  begins = get_or-set_same region.chains first_free given [] (omega (arith, inside, length-chains bytes next 0 lens, ap (λ (r : RegionState). block_count r) view));
  room = omega (arith, room_is bytes next lens first_free free kept region view, new_room, length-set region.chains first_free given);
}
  where
    fits : blocks_of (length given) ≤ free
    fits = omega arith

    positive : 0 < free
    positive = omega arith

    inside : first_free < length lens
    inside = omega (arith, first_inside bytes next lens first_free free kept positive, kept.rows)

    fresh_len : get_or lens first_free 0 ≡ 0
    fresh_len = first_fresh bytes next lens first_free free kept positive

    keeps : AreRunsSound bytes' next (set lens first_free (length given)) after (free - count)
    keeps =
        subst (λ b. AreRunsSound bytes' next (set lens first_free (length given)) b (free - count)) (sym fill.after_is)
        (subst (λ n. AreRunsSound bytes' next (set lens first_free (length given)) (hop next (blocks_of (length given)) first_free) (free - n)) (sym count_is)
        (taken_keeps bytes bytes' next lens first_free free (length given) kept some fits (ap length is ∙ fill.len)))

    taken : record { chains = chains_from bytes' next 0 (set lens first_free (length given)) } ≡ with_chain region first_free given
    taken =
        ap (λ (chains : List (List ℕ)). record { chains = chains })
        (taken_chains bytes bytes' next lens first_free free (length given) kept some fits given
        (λ other apart. ap (λ (b : List ℕ). block_at b other) is ∙ fill.others other apart)
        (ap (λ (b : List ℕ). run_bytes b next first_free (length given)) is ∙ fill.filled))
        ∙ ap (λ (r : RegionState). with_chain r first_free given) view

    new_room : free - count + taken_blocks (with_chain region first_free given) ≡ block_count (with_chain region first_free given)
    new_room = room_is bytes' next (set lens first_free (length given)) after (free - count) keeps (with_chain region first_free given) taken

-- the same of a region's fields, where they were seen as slices
pub took : (r : Inside) (region : RegionState) (given old links put : List ℕ) (count after : ℕ) → AreRunsSound r.bytes.items r.next.items r.lens.items r.first_free r.free
    → record { chains = chains_from r.bytes.items r.next.items 0 r.lens.items } ≡ region → old ≡ r.bytes.items → links ≡ r.next.items
    → length put ≡ length old → run_bytes put links r.first_free (length given) ≡ given
    → ((other : ℕ) → ((k : ℕ) → k < blocks_of (length given) → ¬ (other ≡ hop links k r.first_free)) → block_at put other ≡ block_at old other)
    → after ≡ hop links (blocks_of (length given)) r.first_free
    → count ≡ blocks_of (length given) → count ≤ r.free → 0 < length given
    → Taken (with_items r.bytes put).items r.next.items r.lens.items r.first_free r.free count after region given
took r region given old links put count after kept view same_bytes same_next len filled others after_is count_is room some =
    takes r.bytes.items (with_items r.bytes put).items put r.next.items r.lens.items r.first_free r.free count after region given kept view
    (filled_in r.bytes.items put r.next.items old links r.first_free given after same_bytes same_next (record { len = len; filled = filled; others = others; after_is = after_is }))
    (with_items_is r.bytes put (omega (arith, len, ap length same_bytes, r.bytes.ok.0))) count_is room some

-- A chain of no bytes begins at no block.
pub takes_none : (bytes next lens : List ℕ) (first_free free none : ℕ) (region : RegionState) (given : List ℕ) → AreRunsSound bytes next lens first_free free
    → record { chains = chains_from bytes next 0 lens } ≡ region → none ≡ 2 ^ 32 - 1 → (chain_bytes_at region none ≡ []) × (region ≡ with_chain region none given)
takes_none bytes next lens first_free free none region given kept view is =
    let past : length region.chains ≤ none = omega (arith, kept.few, kept.rows, length-chains bytes next 0 lens, ap (λ (r : RegionState). block_count r) view) in (
      get_or_past region.chains none [] past,
      ap (λ (chains : List (List ℕ)). record { chains = chains }) (sym (set_past region.chains none given past)),
    )
