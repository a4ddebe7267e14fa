-- What a give leaves of a region, as its callers see it.
use Rattle.std.proofs.Common.{◌≡◌, ℕ, ◌+◌, ◌-◌, ◌<◌, ◌^◌, List, [], length, get_or, set, sym, ◌∙◌, ap, subst, arith}
use Rattle.std.proofs.lemmas.Bool.{ne_eqb, cond-false}
use Rattle.std.proofs.lemmas.List.{length-set}
use Rattle.block_region.specs.Blocks.{blocks_of}
use Rattle.block_region.specs.Regions.{RegionState, ChainState, Holds, with_chain, without_chain, block_count, taken_blocks, free_blocks}
use Rattle.block_region.specs.Runs.{hop, chains_from, AreRunsSound}
use Rattle.block_region.specs.declared.region.Region.TheInside.{Inside}
use Rattle.block_region.specs.declared.chain.Chain.TheInside.{Inside as ChainInside}
use Rattle.block_region.proofs.Views.{count_fits, room_is, len_is}
use Rattle.block_region.proofs.Giving.{last_block, last_inside, chain_inside, given_keeps, given_chains}

pub record Given (bytes next lens : List ℕ) (first_free free first count last : ℕ) (region : RegionState) (chain : ChainState) : Type 0 where
  pub fits : free + count < 2 ^ 32
  pub last_inside : last < length next
  pub first_inside : first < length lens
  pub keeps : AreRunsSound bytes (set next last first_free) (set lens first 0) first (free + count)
  pub given : record { chains = chains_from bytes (set next last first_free) 0 (set lens first 0) } ≡ without_chain region chain
  pub room : free_blocks (without_chain region chain) ≡ free_blocks region + blocks_of chain.len

pub gives : (bytes next lens : List ℕ) (first_free free first len count last : ℕ) (region : RegionState) (chain : ChainState) → AreRunsSound bytes next lens first_free free
    → record { chains = chains_from bytes next 0 lens } ≡ region → record { first = first; len = len } ≡ chain → Holds region chain → 0 < len
    → count ≡ blocks_of len → last ≡ hop next (count - 1) first
    → Given bytes next lens first_free free first count last region chain
gives bytes next lens first_free free first len count last region chain kept view seen held some count_is last_is = record {
  fits = omega (arith, all, count_fits bytes next lens first_free free kept first, kept.few);
  last_inside = omega (arith, last_same, last_inside bytes next lens first_free free first kept some');
  first_inside = chain_inside bytes next lens first_free free first kept some';
  keeps = keeps;
  given = given;
  room = omega (arith, room_is bytes next lens first_free free kept region view, new_room, new_count, ap (λ (c : ChainState). c.len) seen);
}
  where
    whole : get_or lens first 0 ≡ len
    whole = len_is bytes next lens first_free free kept region view chain first len seen held some

    some' : 0 < get_or lens first 0
    some' = omega (arith, whole)

    all : count ≡ blocks_of (get_or lens first 0)
    all = count_is ∙ ap blocks_of (sym whole)

    last_same : last ≡ last_block bytes next lens first_free free first kept some'
    last_same = last_is ∙ ap (λ n. hop next (n - 1) first) all

    keeps : AreRunsSound bytes (set next last first_free) (set lens first 0) first (free + count)
    keeps =
        subst (λ b. AreRunsSound bytes (set next b first_free) (set lens first 0) first (free + count)) (sym last_same)
        (subst (λ n. AreRunsSound bytes (set next (last_block bytes next lens first_free free first kept some') first_free) (set lens first 0) first (free + n)) (sym all)
        (given_keeps bytes next lens first_free free first kept some'))

    without : without_chain region chain ≡ with_chain region first []
    without = subst (λ (c : ChainState). without_chain region c ≡ with_chain region first []) seen
        (cond-false _ region (with_chain region first []) (ne_eqb len 0 (λ none. omega arith)))

    given : record { chains = chains_from bytes (set next last first_free) 0 (set lens first 0) } ≡ without_chain region chain
    given =
        ap (λ b. record { chains = chains_from bytes (set next b first_free) 0 (set lens first 0) }) last_same
        ∙ ap (λ (chains : List (List ℕ)). record { chains = chains }) (given_chains bytes next lens first_free free first kept some')
        ∙ ap (λ (r : RegionState). with_chain r first []) view
        ∙ sym without

    new_room : free + count + taken_blocks (without_chain region chain) ≡ block_count (without_chain region chain)
    new_room = room_is bytes (set next last first_free) (set lens first 0) first (free + count) keeps (without_chain region chain) given

    new_count : block_count (without_chain region chain) ≡ block_count region
    new_count = ap (λ (r : RegionState). block_count r) without ∙ length-set region.chains first []

-- the same of a region's fields, where the links were seen as a slice
pub gave : (r : Inside) (c : ChainInside) (region : RegionState) (chain : ChainState) (seen : List ℕ) (count last : ℕ) → AreRunsSound r.bytes.items r.next.items r.lens.items r.first_free r.free
    → record { chains = chains_from r.bytes.items r.next.items 0 r.lens.items } ≡ region → record { first = c.first; len = c.len } ≡ chain → Holds region chain → 0 < c.len
    → count ≡ blocks_of c.len → seen ≡ r.next.items → last ≡ hop seen (count - 1) c.first
    → Given r.bytes.items r.next.items r.lens.items r.first_free r.free c.first count last region chain
gave r c region chain seen count last kept view shown held some count_is same last_is =
    gives r.bytes.items r.next.items r.lens.items r.first_free r.free c.first c.len count last region chain kept view shown held some count_is
    (last_is ∙ ap (λ (n : List ℕ). hop n (count - 1) c.first) same)
