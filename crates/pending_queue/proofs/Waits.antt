-- Entries that wait with their chains: one more at the end, one less at the front, and one that goes from the front to the end.
use Rattle.std.proofs.Common.{◌≡◌, ℕ, suc, ◌≤◌, ◌<◌, List, [], ◌∷◌, ◌++◌, length, get_or, take, drop, refl, sym, ap, ◌∙◌, subst, arith, inl, inr, length-append}
use Rattle.std.specs.List.{All, sum_by}
use Rattle.std.proofs.lemmas.Bool.{cases_lt}
use Rattle.std.proofs.lemmas.List.{length-map, length-take-le, map-append, get_or-map}
use Rattle.std.proofs.lemmas.List.Elements.{All-head, All-tail, All-push}
use Rattle.std.proofs.lemmas.List.Quantifiers.{all_pairs_push}
use Rattle.std.proofs.lemmas.List.Sums.{sum_by-cons, sum_by_push}
use Rattle.ckd_track.specs.Entries.{longest_entry}
use Rattle.block_region.specs.Blocks.{blocks_of}
use Rattle.block_region.specs.Regions.{RegionState, ChainState, chain_bytes_at, chain_bytes, Holds, with_chain, without_chain, block_count, taken_blocks}
use Rattle.block_region.specs.Laws.{BeginApart, AreAllOut, IsKept}
use Rattle.block_region.proofs.ChainLaws.{taken_out, given_rest}
use Rattle.pending_queue.specs.declared.waiting.Waiting.{Waiting}
use Rattle.pending_queue.specs.Entries.{WaitingEntry, IsOfWrite, entry_by}
use Rattle.pending_queue.specs.Rooms.{blocks_taken}
use Rattle.pending_queue.specs.Waitings.{WaitingState, SameMemory, IsWithinLongest, entry_in, entries_in, chains_of, AreChainsSound}

-- ---- lengths

pub chain_length : (region : RegionState) (chain : ChainState) → Holds region chain → length (chain_bytes region chain) ≡ chain.len
chain_length region chain held = elim (cases_lt 0 chain.len) [
  | inl some ↦ length-take-le chain.len (chain_bytes_at region chain.first) (omega (arith, held some))
  | inr none ↦
      let e : chain.len ≡ 0 = omega arith in
      ap (λ n. length (take n (chain_bytes_at region chain.first))) e ∙ sym e
]

abbrev chain_blocks : ChainState → ℕ
chain_blocks chain = blocks_of chain.len

abbrev form_blocks : WaitingEntry → ℕ
form_blocks entry = blocks_of (length entry.form)

taken_are : (region : RegionState) (waiting : List Waiting) → All (Holds region) (chains_of waiting) → blocks_taken (entries_in region waiting) ≡ sum_by chain_blocks (chains_of waiting)
taken_are region [] held = refl
taken_are region (w ∷ rest) held =
    let first = ap blocks_of (chain_length region w.chain (All-head (Holds region) w.chain (chains_of rest) held)) in
    omega (arith, first, taken_are region rest (All-tail (Holds region) w.chain (chains_of rest) held), sum_by-cons form_blocks (entry_in region w) (entries_in region rest), sum_by-cons chain_blocks w.chain (chains_of rest))

-- The entries take the blocks that are taken of the region.
pub taken_of_region : (region : RegionState) (waiting : List Waiting) → AreAllOut region (chains_of waiting) → blocks_taken (entries_in region waiting) ≡ taken_blocks region
taken_of_region region waiting out = taken_are region waiting out.held ∙ out.whole

-- ---- chains that are kept

same_entries : (before after : RegionState) (waiting : List Waiting) → All (IsKept before after) (chains_of waiting) → entries_in after waiting ≡ entries_in before waiting
same_entries before after [] kept = refl
same_entries before after (w ∷ rest) kept =
    let first = All-head (IsKept before after) w.chain (chains_of rest) kept in
    let others = same_entries before after rest (All-tail (IsKept before after) w.chain (chains_of rest) kept) in
    λ i. entry_by w.head w.effect (first.bytes i) ∷ others i

-- ---- one more at the end

-- What a take of a region says of the chain that it gives.
pub record IsTaken (before after : RegionState) (chain : ChainState) (bytes : List ℕ) : Type 0 where
  pub len : chain.len ≡ length bytes
  pub fresh : chain_bytes_at before chain.first ≡ []
  pub taken : after ≡ with_chain before chain.first bytes
  pub held : Holds after chain
  pub bytes_are : chain_bytes after chain ≡ bytes

pub record IsPushed (most capacity : ℕ) (before after : RegionState) (waiting now : List Waiting) (entry : WaitingEntry) : Type 0 where
  pub keeps : AreChainsSound most capacity after now
  pub entries : entries_in after now ≡ entries_in before waiting ++ entry ∷ []

pub pushed : (most old capacity : ℕ) (before after : RegionState) (waiting now : List Waiting) (w : Waiting) (bytes : List ℕ) → AreChainsSound most old before waiting → length waiting < most → IsTaken before after w.chain bytes
    → IsOfWrite (entry_by w.head w.effect bytes) → length bytes ≤ longest_entry → now ≡ waiting ++ w ∷ [] → capacity ≡ old → IsPushed most capacity before after waiting now (entry_by w.head w.effect bytes)
pushed most old capacity before after waiting now w bytes keeps fits taken written short is same_capacity =
    let entry = entry_by w.head w.effect bytes in
    let held = subst (λ (r : RegionState). Holds r w.chain) taken.taken taken.held in
    let out = taken_out before (chains_of waiting) w.chain bytes keeps.out taken.len taken.fresh held in
    let out_after = subst (λ (r : RegionState). AreAllOut r (chains_of waiting ++ w.chain ∷ [])) (sym taken.taken) out.0 in
    let same = same_entries before after waiting (subst (λ (r : RegionState). All (IsKept before r) (chains_of waiting)) (sym taken.taken) out.1) in
    let entries : entries_in after now ≡ entries_in before waiting ++ entry ∷ [] =
    ap (entries_in after) is ∙ map-append (entry_in after) waiting (w ∷ []) ∙ (λ i. same i ++ entry_by w.head w.effect (taken.bytes_are i) ∷ []) in
    record {
      keeps = record {
        size = keeps.size;
        room = omega (arith, keeps.room, same_capacity);
        few = omega (arith, ap length is, length-append waiting (w ∷ []));
        out = subst (AreAllOut after) (sym (ap chains_of is ∙ map-append (λ (x : Waiting). x.chain) waiting (w ∷ []))) out_after;
        written = subst (All IsOfWrite) (sym entries) (All-push IsOfWrite (entries_in before waiting) entry keeps.written written);
        short = subst (All IsWithinLongest) (sym entries) (All-push IsWithinLongest (entries_in before waiting) entry keeps.short short);
      };
      entries = entries;
    }

-- ---- one less at the front

pub record IsGiven (most capacity : ℕ) (before after : RegionState) (waiting rest : List Waiting) : Type 0 where
  pub keeps : AreChainsSound most capacity after rest
  pub entries : entries_in after rest ≡ drop 1 (entries_in before waiting)

pub given : (most old capacity : ℕ) (before after : RegionState) (waiting rest : List Waiting) (w : Waiting) → AreChainsSound most old before waiting → waiting ≡ w ∷ rest → after ≡ without_chain before w.chain → capacity ≡ old
    → IsGiven most capacity before after waiting rest
given most old capacity before after waiting rest w kept is given_back same_capacity =
    let keeps = subst (AreChainsSound most old before) is kept in
    let out = given_rest before (chains_of (w ∷ rest)) w.chain 0 keeps.out (omega arith) refl in
    let same = same_entries before after rest (subst (λ (r : RegionState). All (IsKept before r) (chains_of rest)) (sym given_back) out.1) in
    record {
      keeps = record {
        size = keeps.size;
        room = omega (arith, keeps.room, same_capacity);
        few = omega (arith, keeps.few);
        out = subst (λ (r : RegionState). AreAllOut r (chains_of rest)) (sym given_back) out.0;
        written = subst (All IsOfWrite) (sym same) (All-tail IsOfWrite (entry_in before w) (entries_in before rest) keeps.written);
        short = subst (All IsWithinLongest) (sym same) (All-tail IsWithinLongest (entry_in before w) (entries_in before rest) keeps.short);
      };
      entries = same ∙ sym (ap (λ (ws : List Waiting). drop 1 (entries_in before ws)) is);
    }

-- ---- the first after the others

after : (most capacity : ℕ) (region : RegionState) (w : Waiting) (rest : List Waiting) → AreChainsSound most capacity region (w ∷ rest) → AreChainsSound most capacity region (rest ++ w ∷ [])
after most capacity region w rest keeps =
    let chains = chains_of rest in
    let there = sym (map-append (λ (x : Waiting). x.chain) rest (w ∷ [])) in
    let entries = sym (map-append (entry_in region) rest (w ∷ [])) in
    let first = entry_in region w in
    let others = entries_in region rest in
    record {
      size = keeps.size;
      room = keeps.room;
      few = omega (arith, keeps.few, length-append rest (w ∷ []));
      out = subst (AreAllOut region) there (record {
        held = All-push (Holds region) chains w.chain (All-tail (Holds region) w.chain chains keeps.out.held) (All-head (Holds region) w.chain chains keeps.out.held);
        apart = all_pairs_push BeginApart chains w.chain (λ i j d below lt. keeps.out.apart (suc i) (suc j) d (omega arith) (omega arith))
            (λ k d lt some more same. keeps.out.apart 0 (suc k) d (omega arith) (omega arith) more some (sym same));
        whole = omega (arith, sum_by_push chain_blocks chains w.chain, sum_by-cons chain_blocks w.chain chains, keeps.out.whole);
      });
      written = subst (All IsOfWrite) entries (All-push IsOfWrite others first (All-tail IsOfWrite first others keeps.written) (All-head IsOfWrite first others keeps.written));
      short = subst (All IsWithinLongest) entries (All-push IsWithinLongest others first (All-tail IsWithinLongest first others keeps.short) (All-head IsWithinLongest first others keeps.short));
    }

pub record IsTurned (most capacity : ℕ) (region : RegionState) (waiting now : List Waiting) : Type 0 where
  pub keeps : AreChainsSound most capacity region now
  pub entries : entries_in region now ≡ drop 1 (entries_in region waiting) ++ take 1 (entries_in region waiting)

turned_front : (most capacity : ℕ) (region : RegionState) (waiting : List Waiting) → AreChainsSound most capacity region waiting → 0 < length waiting → IsTurned most capacity region waiting (drop 1 waiting ++ take 1 waiting)
turned_front most capacity region [] keeps some = absurd (omega arith)
turned_front most capacity region (w ∷ rest) keeps some = record { keeps = after most capacity region w rest keeps; entries = map-append (entry_in region) rest (w ∷ []) }

pub turned : (most old capacity : ℕ) (region : RegionState) (waiting now : List Waiting) → AreChainsSound most old region waiting → 0 < length waiting → now ≡ drop 1 waiting ++ take 1 waiting → capacity ≡ old
    → IsTurned most capacity region waiting now
turned most old capacity region waiting now keeps some is same_capacity = subst (IsTurned most capacity region waiting) (sym is)
    (turned_front most capacity region waiting (record { size = keeps.size; room = omega (arith, keeps.room, same_capacity); few = keeps.few; out = keeps.out; written = keeps.written; short = keeps.short }) some)

-- ---- at a place

pub waiting_at : (region : RegionState) (waiting : List Waiting) (i : ℕ) (w : Waiting) (other : WaitingEntry) → i < length waiting → w ≡ get_or waiting i w → get_or (entries_in region waiting) i other ≡ entry_in region w
waiting_at region waiting i w other lt is = get_or-map (entry_in region) waiting i w other lt ∙ ap (entry_in region) (sym is)

pub held_at : (region : RegionState) (waiting : List Waiting) (i : ℕ) (w : Waiting) → All (Holds region) (chains_of waiting) → i < length waiting → w ≡ get_or waiting i w → Holds region w.chain
held_at region waiting i w held lt is =
    subst (Holds region) (get_or-map (λ (x : Waiting). x.chain) waiting i w w.chain lt ∙ ap (λ (x : Waiting). x.chain) (sym is))
    (held i w.chain (omega (arith, length-map waiting (λ (x : Waiting). x.chain))))

-- the length of a chain, where its form is an entry's
pub len_at : (region : RegionState) (waiting : List Waiting) (i : ℕ) (w : Waiting) (other : WaitingEntry) → All (Holds region) (chains_of waiting) → i < length waiting → w ≡ get_or waiting i w
    → w.chain.len ≡ length (get_or (entries_in region waiting) i other).form
len_at region waiting i w other held lt is = sym (chain_length region w.chain (held_at region waiting i w held lt is)) ∙ ap (λ (e : WaitingEntry). length e.form) (sym (waiting_at region waiting i w other lt is))

pub short_at : (region : RegionState) (waiting : List Waiting) (i : ℕ) (w : Waiting) → All (Holds region) (chains_of waiting) → All IsWithinLongest (entries_in region waiting) → i < length waiting → w ≡ get_or waiting i w
    → w.chain.len ≤ longest_entry
short_at region waiting i w held short lt is =
    let entry = entry_in region w in
    omega (arith, len_at region waiting i w entry held lt is, short i entry (omega (arith, length-map waiting (entry_in region))))

-- ---- the same memory

pub same_through : (first before after now : WaitingState) → SameMemory first before → SameMemory before after → now ≡ after → SameMemory first now
same_through first before after now one other is = record { most = ap (λ (s : WaitingState). s.most) is ∙ other.most ∙ one.most; blocks = ap (λ (s : WaitingState). block_count s.region) is ∙ other.blocks ∙ one.blocks }
