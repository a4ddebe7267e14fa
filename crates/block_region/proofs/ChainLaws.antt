-- Chains through takes and gives.
use Rattle.std.proofs.Common.{◌≡◌, ◌≢◌, ℕ, ◌+◌, ◌<◌, List, [], length, get_or, take, sym, ◌∙◌, ap, subst, arith, inl, inr}
use Rattle.std.specs.List.{All, AllPairs, remove}
use Rattle.std.proofs.lemmas.Bool.{cases_lt, cases_order, eq-eqb, ne_eqb, cond-true, cond-false}
use Rattle.std.proofs.lemmas.List.{get_or-set_other, get_or_past, set_past, get_or_default}
use Rattle.std.proofs.lemmas.List.Edits.{length-remove, get_or-remove_below, get_or-remove_above}
use Rattle.std.proofs.lemmas.List.Elements.{All-push}
use Rattle.std.proofs.lemmas.List.Folds.{sum_by-replicate}
use Rattle.std.proofs.lemmas.List.Quantifiers.{all_pairs_push, all_pairs_remove}
use Rattle.std.proofs.lemmas.List.Sums.{sum_by-set, sum_by_push, sum_by-remove}
use Rattle.block_region.specs.Blocks.{blocks_of}
use Rattle.block_region.specs.Regions.{RegionState, ChainState, chain_bytes_at, Holds, with_chain, without_chain, taken_blocks}
use Rattle.block_region.specs.Laws.{BeginApart, AreAllOut, IsKept, NoneAreOut, TakenChainsAreOut, GivenChainsLeaveTheRest, BlocksAddUp}

abbrev chain_blocks : ChainState → ℕ
chain_blocks chain = blocks_of chain.len

-- a chain whose block holds the same bytes is kept
same_kept : (before after : RegionState) (chain : ChainState) → Holds before chain → (0 < chain.len → chain_bytes_at after chain.first ≡ chain_bytes_at before chain.first) → IsKept before after chain
same_kept before after chain held same = record {
  held = λ some. ap length (same some) ∙ held some;
  bytes = elim (cases_lt 0 chain.len) [
    | inl some ↦ ap (take chain.len) (same some)
    | inr none ↦
        let e : chain.len ≡ 0 = omega arith in
        ap (λ n. take n (chain_bytes_at after chain.first)) e ∙ sym (ap (λ n. take n (chain_bytes_at before chain.first)) e)
  ];
}

-- A take keeps every chain that is held.
takes_keep : (region : RegionState) (first : ℕ) (bytes : List ℕ) (other : ChainState) → chain_bytes_at region first ≡ [] → Holds region other
    → IsKept region (with_chain region first bytes) other
takes_keep region first bytes other fresh held =
    same_kept region (with_chain region first bytes) other held
    (λ some. get_or-set_other region.chains first other.first bytes [] (λ same. absurd (omega (arith, held some, ap (λ b. length (chain_bytes_at region b)) same, ap length fresh))))

without_is : (region : RegionState) (chain : ChainState) → 0 < chain.len → without_chain region chain ≡ with_chain region chain.first []
without_is region chain some = cond-false _ region (with_chain region chain.first []) (ne_eqb chain.len 0 (λ none. omega arith))

without_none : (region : RegionState) (chain : ChainState) → chain.len ≡ 0 → without_chain region chain ≡ region
without_none region chain none = cond-true _ region (with_chain region chain.first []) (eq-eqb chain.len 0 none)

-- A give keeps every other chain that is held.
gives_keep : (region : RegionState) (chain other : ChainState) → BeginApart chain other → Holds region other → IsKept region (without_chain region chain) other
gives_keep region chain other apart held = same_kept region (without_chain region chain) other held (λ some. elim (cases_lt 0 chain.len) [
  | inl has ↦
      ap (λ (r : RegionState). chain_bytes_at r other.first) (without_is region chain has)
      ∙ get_or-set_other region.chains chain.first other.first [] [] (λ same. apart has some (sym same))
  | inr none ↦ ap (λ (r : RegionState). chain_bytes_at r other.first) (without_none region chain (omega arith))
])

pub none_out : NoneAreOut
none_out blocks = record {
  held = λ k d lt. absurd (omega arith);
  apart = λ i j d lt below. absurd (omega arith);
  whole = sym (sum_by-replicate (λ (bytes : List ℕ). blocks_of (length bytes)) blocks [] ∙ omega arith);
}

abbrev taken_of : List ℕ → ℕ
taken_of bytes = blocks_of (length bytes)

-- a take takes the blocks of its bytes
taken_more : (region : RegionState) (chain : ChainState) (bytes : List ℕ) → chain.len ≡ length bytes → chain_bytes_at region chain.first ≡ [] → Holds (with_chain region chain.first bytes) chain
    → taken_blocks (with_chain region chain.first bytes) ≡ taken_blocks region + blocks_of chain.len
taken_more region chain bytes size fresh held = elim (cases_lt chain.first (length region.chains)) [
  | inl below ↦ omega (arith, sum_by-set taken_of region.chains chain.first bytes [] below, ap taken_of fresh, ap blocks_of size)
  | inr past ↦
      let same = set_past region.chains chain.first bytes past in
      let none : chain.len ≡ 0 = elim (cases_lt 0 chain.len) [
        | inl some ↦ absurd (omega (arith, held some, ap (λ (chains : List (List ℕ)). length (get_or chains chain.first [])) same, ap length (get_or_past region.chains chain.first [] past)))
        | inr none ↦ omega arith
      ] in
      omega (arith, ap (λ (chains : List (List ℕ)). taken_blocks (record { chains = chains })) same, ap blocks_of none)
]

-- a give frees the blocks of its chain
taken_less : (region : RegionState) (chain : ChainState) → Holds region chain → taken_blocks (without_chain region chain) + blocks_of chain.len ≡ taken_blocks region
taken_less region chain held = elim (cases_lt 0 chain.len) [
  | inl some ↦
      let below : chain.first < length region.chains = elim (cases_lt chain.first (length region.chains)) [
        | inl inside ↦ inside
        | inr past ↦ absurd (omega (arith, held some, ap length (get_or_past region.chains chain.first [] past)))
      ] in
      omega (arith, ap (λ (r : RegionState). taken_blocks r) (without_is region chain some), sum_by-set taken_of region.chains chain.first [] [] below, ap blocks_of (held some))
  | inr none ↦
      let e : chain.len ≡ 0 = omega arith in
      omega (arith, ap (λ (r : RegionState). taken_blocks r) (without_none region chain e), ap blocks_of e)
]

pub taken_out : TakenChainsAreOut
taken_out region chains chain bytes all size fresh held =
    let after = with_chain region chain.first bytes in
    let kept : All (IsKept region after) chains = λ k d lt. takes_keep region chain.first bytes (get_or chains k d) fresh (all.held k d lt) in (
      record {
        held = All-push (Holds after) chains chain (λ k d lt. (kept k d lt).held) held;
        apart = all_pairs_push BeginApart chains chain all.apart (λ k d lt some more same.
            absurd (omega (arith, all.held k d lt some, ap (λ b. length (chain_bytes_at region b)) same, ap length fresh)));
        whole = omega (arith, sum_by_push chain_blocks chains chain, all.whole, taken_more region chain bytes size fresh held);
      },
      kept,
    )

-- The chain at a place begins apart from all others.
others_apart : (chains : List ChainState) (chain : ChainState) (place : ℕ) → AllPairs BeginApart chains → place < length chains → get_or chains place chain ≡ chain
    → (k : ℕ) (d : ChainState) → k < length chains → k ≢ place → BeginApart chain (get_or chains k d)
others_apart chains chain place all below at k d lt differ some more same =
    let here : get_or chains place d ≡ chain = get_or_default chains place d chain below ∙ at in
    let some' : 0 < (get_or chains place d).len = omega (arith, ap (λ (c : ChainState). c.len) here) in
    elim (cases_order k place) [
      | inl is ↦ differ is
      | inr other ↦ elim other [
        | inl less ↦ all k place d less below more some' (sym same ∙ sym (ap (λ (c : ChainState). c.first) here))
        | inr after ↦ all place k d after lt some' more (ap (λ (c : ChainState). c.first) here ∙ same)
      ]
    ]

rest_kept : (region : RegionState) (chains : List ChainState) (chain : ChainState) (place : ℕ) → AreAllOut region chains
    → place < length chains → get_or chains place chain ≡ chain → All (IsKept region (without_chain region chain)) (remove chains place)
rest_kept region chains chain place all below at k d lt =
    let after = without_chain region chain in
    let short = length-remove chains place below in
    elim (cases_lt k place) [
      | inl before ↦
          subst (IsKept region after) (sym (get_or-remove_below chains place d k before below))
          (gives_keep region chain (get_or chains k d) (others_apart chains chain place all.apart below at k d (omega arith) (λ same. absurd (omega arith))) (all.held k d (omega arith)))
      | inr beyond ↦
          subst (IsKept region after) (sym (get_or-remove_above chains place d k beyond below))
          (gives_keep region chain (get_or chains (k + 1) d) (others_apart chains chain place all.apart below at (k + 1) d (omega arith) (λ same. absurd (omega arith))) (all.held (k + 1) d (omega arith)))
    ]

pub given_rest : GivenChainsLeaveTheRest
given_rest region chains chain place all below at =
    let after = without_chain region chain in
    let holds : Holds region chain = subst (Holds region) at (all.held place chain below) in
    let kept : All (IsKept region after) (remove chains place) = rest_kept region chains chain place all below at in (
      record {
        held = λ k d lt. (kept k d lt).held;
        apart = all_pairs_remove BeginApart chains place below all.apart;
        whole = omega (arith, sum_by-remove chain_blocks chains place chain below, ap chain_blocks at, all.whole, taken_less region chain holds);
      },
      kept,
    )

pub add_up : BlocksAddUp
add_up region chains all within = omega (arith, all.whole)
