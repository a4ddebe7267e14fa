-- How the links of a group are made, entry by entry.
use Rattle.std.proofs.Common.{◌≡◌, ◌≢◌, ◌+◌, ◌≤◌, ◌<◌, ℕ, List, length, replicate, set, get_or, Some, sym, ap, subst, ◌∙◌, arith, length-set, inl, inr}
use Rattle.std.specs.Prelude.{slice_get}
use Rattle.std.proofs.lemmas.Bool.{cases_eq}
use Rattle.std.proofs.lemmas.List.{get_or-set_same, get_or-set_other, get_or-replicate, length-replicate}
use Rattle.pending_queue.specs.declared.head.EntryHead.{EntryHead}
use Rattle.image_former.specs.Links.{bucket_of, bucket_of_some, bucket_at, linked_count, IsNextOfBucket, IsLastOfBucket, AreLinkedBack, AreLinkedForth, LeadsForth}
use Rattle.image_former.specs.declared.links.TheConstants.{BUCKETS, LINKED}

pub bucket_there : (heads : List EntryHead) (place : ℕ) (head : EntryHead) → slice_get heads place ≡ Some head → bucket_at heads place ≡ bucket_of head
bucket_there heads place head is = ap bucket_of_some is

-- ---- back

-- The entries before a place are linked back, and of each bucket the last one is known.
pub record LinkedBack (heads : List EntryHead) (place : ℕ) (back last : List ℕ) : Type 0 where
  pub backs : length back ≡ LINKED
  pub lasts : length last ≡ BUCKETS
  pub each : (p : ℕ) → p < place → IsLastOfBucket heads p (bucket_at heads p) (get_or back p 0)
  pub table : (b : ℕ) → b < BUCKETS → IsLastOfBucket heads place b (get_or last b 0)

pub none_back : (heads : List EntryHead) → LinkedBack heads 0 (replicate LINKED 0) (replicate BUCKETS 0)
none_back heads = record {
  backs = length-replicate {A = ℕ} LINKED 0;
  lasts = length-replicate {A = ℕ} BUCKETS 0;
  each = λ p lt. absurd (omega (arith, lt));
  table = λ b lt. let is : get_or (replicate BUCKETS 0) b 0 ≡ 0 = get_or-replicate {A = ℕ} BUCKETS b 0 0 lt in record {
    high = omega (arith, is);
    shares = λ e more. absurd (omega (arith, is, more));
    none = λ q low lt. absurd (omega (arith, lt));
  };
}

last_more : (heads : List EntryHead) (place bucket last : ℕ) → IsLastOfBucket heads place bucket last → bucket_at heads place ≢ bucket → IsLastOfBucket heads (place + 1) bucket last
last_more heads place bucket last is other = record {
  high = omega (arith, is.high);
  shares = is.shares;
  none = λ q low lt. elim (cases_eq q place) [
    | inl here ↦ λ same. other (ap (bucket_at heads) (sym here) ∙ same)
    | inr away ↦ is.none q low (omega (arith, lt, away))
  ];
}

last_here : (heads : List EntryHead) (place bucket : ℕ) → bucket_at heads place ≡ bucket → IsLastOfBucket heads (place + 1) bucket (place + 1)
last_here heads place bucket is = record {
  high = omega arith;
  shares = λ e more. ap (bucket_at heads) (omega (arith, more)) ∙ is;
  none = λ q low lt. absurd (omega (arith, low, lt));
}

-- one entry more
pub more_back : (heads : List EntryHead) (place bucket : ℕ) (back last : List ℕ) → LinkedBack heads place back last → bucket_at heads place ≡ bucket → bucket < BUCKETS → place < LINKED
    → LinkedBack heads (place + 1) (set back place (get_or last bucket 0)) (set last bucket (place + 1))
more_back heads place bucket back last l is within low = record {
  backs = length-set back place (get_or last bucket 0) ∙ l.backs;
  lasts = length-set last bucket (place + 1) ∙ l.lasts;
  each = λ p lt. elim (cases_eq p place) [
    | inl here ↦
        let value = ap (λ n. get_or (set back place (get_or last bucket 0)) n 0) here ∙ get_or-set_same back place (get_or last bucket 0) 0 (omega (arith, low, l.backs)) in
        let last_of : IsLastOfBucket heads p (bucket_at heads p) (get_or last bucket 0) =
        subst (λ (n : ℕ). IsLastOfBucket heads n (bucket_at heads n) (get_or last bucket 0)) (sym here) (subst (λ (b : ℕ). IsLastOfBucket heads place b (get_or last bucket 0)) (sym is) (l.table bucket within)) in
        subst (λ (v : ℕ). IsLastOfBucket heads p (bucket_at heads p) v) (sym value) last_of
    | inr away ↦
        subst (λ (v : ℕ). IsLastOfBucket heads p (bucket_at heads p) v) (sym (get_or-set_other back place p (get_or last bucket 0) 0 away)) (l.each p (omega (arith, lt, away)))
  ];
  table = λ b lt. elim (cases_eq b bucket) [
    | inl here ↦
        let value = ap (λ n. get_or (set last bucket (place + 1)) n 0) here ∙ get_or-set_same last bucket (place + 1) 0 (omega (arith, within, l.lasts)) in
        subst (λ (v : ℕ). IsLastOfBucket heads (place + 1) b v) (sym value) (last_here heads place b (is ∙ sym here))
    | inr away ↦
        subst (λ (v : ℕ). IsLastOfBucket heads (place + 1) b v) (sym (get_or-set_other last bucket b (place + 1) 0 away))
        (last_more heads place b (get_or last b 0) (l.table b lt) (λ same. away (sym same ∙ is)))
  ];
}

pub all_back : (heads : List EntryHead) (place : ℕ) (back last : List ℕ) → LinkedBack heads place back last → linked_count heads ≤ place → AreLinkedBack heads back
all_back heads place back last l end = record { size = l.backs; each = λ p lt. l.each p (omega (arith, lt, end)) }

-- ---- forth

-- The entries from a place on are linked forth, and of each bucket the first one is known.
pub record LinkedForth (heads : List EntryHead) (place : ℕ) (forth next : List ℕ) : Type 0 where
  pub forths : length forth ≡ LINKED
  pub nexts : length next ≡ BUCKETS
  pub each : (p : ℕ) → place ≤ p → p < linked_count heads → IsNextOfBucket heads (p + 1) (bucket_at heads p) (get_or forth p 0)
  pub table : (b : ℕ) → b < BUCKETS → IsNextOfBucket heads place b (get_or next b 0)

pub none_forth : (heads : List EntryHead) (count place : ℕ) → count ≡ linked_count heads → place ≡ count → LinkedForth heads place (replicate LINKED count) (replicate BUCKETS count)
none_forth heads count place is end = record {
  forths = length-replicate LINKED count;
  nexts = length-replicate BUCKETS count;
  each = λ p low lt. absurd (omega (arith, lt, low, is, end));
  table = λ b lt. let value : get_or (replicate BUCKETS count) b 0 ≡ count = get_or-replicate {A = ℕ} BUCKETS b count 0 lt in record {
    low = omega (arith, value, end);
    high = omega (arith, value, is);
    shares = λ lt. absurd (omega (arith, lt, value, is));
    none = λ q low lt. absurd (omega (arith, lt, low, value, end));
  };
}

next_more : (heads : List EntryHead) (place bucket next : ℕ) → IsNextOfBucket heads (place + 1) bucket next → bucket_at heads place ≢ bucket → IsNextOfBucket heads place bucket next
next_more heads place bucket next is other = record {
  low = omega (arith, is.low);
  high = is.high;
  shares = is.shares;
  none = λ q low lt. elim (cases_eq q place) [
    | inl here ↦ λ same. other (ap (bucket_at heads) (sym here) ∙ same)
    | inr away ↦ is.none q (omega (arith, low, away)) lt
  ];
}

next_here : (heads : List EntryHead) (place bucket : ℕ) → bucket_at heads place ≡ bucket → place < linked_count heads → IsNextOfBucket heads place bucket place
next_here heads place bucket is within = record {
  low = omega arith;
  high = omega (arith, within);
  shares = λ lt. is;
  none = λ q low lt. absurd (omega (arith, low, lt));
}

-- one entry more
more_forth : (heads : List EntryHead) (place bucket : ℕ) (forth next : List ℕ) → LinkedForth heads (place + 1) forth next → bucket_at heads place ≡ bucket → bucket < BUCKETS → place < linked_count heads → place < LINKED
    → LinkedForth heads place (set forth place (get_or next bucket 0)) (set next bucket place)
more_forth heads place bucket forth next l is within lt low = record {
  forths = length-set forth place (get_or next bucket 0) ∙ l.forths;
  nexts = length-set next bucket place ∙ l.nexts;
  each = λ p from below. elim (cases_eq p place) [
    | inl here ↦
        let value = ap (λ n. get_or (set forth place (get_or next bucket 0)) n 0) here ∙ get_or-set_same forth place (get_or next bucket 0) 0 (omega (arith, low, l.forths)) in
        let next_of : IsNextOfBucket heads (p + 1) (bucket_at heads p) (get_or next bucket 0) =
        subst (λ (n : ℕ). IsNextOfBucket heads (n + 1) (bucket_at heads n) (get_or next bucket 0)) (sym here) (subst (λ (b : ℕ). IsNextOfBucket heads (place + 1) b (get_or next bucket 0)) (sym is) (l.table bucket within)) in
        subst (λ (v : ℕ). IsNextOfBucket heads (p + 1) (bucket_at heads p) v) (sym value) next_of
    | inr away ↦
        subst (λ (v : ℕ). IsNextOfBucket heads (p + 1) (bucket_at heads p) v) (sym (get_or-set_other forth place p (get_or next bucket 0) 0 away)) (l.each p (omega (arith, from, away)) below)
  ];
  table = λ b under. elim (cases_eq b bucket) [
    | inl here ↦
        let value = ap (λ n. get_or (set next bucket place) n 0) here ∙ get_or-set_same next bucket place 0 (omega (arith, within, l.nexts)) in
        subst (λ (v : ℕ). IsNextOfBucket heads place b v) (sym value) (next_here heads place b (is ∙ sym here) lt)
    | inr away ↦
        subst (λ (v : ℕ). IsNextOfBucket heads place b v) (sym (get_or-set_other next bucket b place 0 away))
        (next_more heads place b (get_or next b 0) (l.table b under) (λ same. away (sym same ∙ is)))
  ];
}

pub next_forth : (heads : List EntryHead) (above place low bucket : ℕ) (forth next : List ℕ) → above ≡ place + 1 → low ≡ place → LinkedForth heads above forth next → bucket_at heads place ≡ bucket → bucket < BUCKETS
    → place < linked_count heads → place < LINKED → LinkedForth heads low (set forth place (get_or next bucket 0)) (set next bucket place)
next_forth heads above place low bucket forth next up down l is within lt small =
    subst (λ (n : ℕ). LinkedForth heads n (set forth place (get_or next bucket 0)) (set next bucket place)) (sym down)
    (more_forth heads place bucket forth next (subst (λ (n : ℕ). LinkedForth heads n forth next) up l) is within lt small)

pub all_forth : (heads : List EntryHead) (place : ℕ) (forth next : List ℕ) → LinkedForth heads place forth next → place ≡ 0 → AreLinkedForth heads forth
all_forth heads place forth next l start = record { size = l.forths; each = λ p lt. l.each p (omega (arith, start)) lt }

-- ---- where to look next

goes_linked : (heads : List EntryHead) (forth : List ℕ) (place : ℕ) → AreLinkedForth heads forth → place < LINKED → place < length heads → LeadsForth heads place (get_or forth place 0)
goes_linked heads forth place l low within =
    let n = l.each place (omega (arith, low, within)) in
    record { rises = omega (arith, n.low); within = omega (arith, n.high); none = n.none; shares = n.shares; one_on = λ high. absurd (omega (arith, high, low, within)) }

pub goes_by_link : (heads : List EntryHead) (forth : List ℕ) (place next : ℕ) → next ≡ get_or forth place 0 → AreLinkedForth heads forth → place < LINKED → place < length heads → LeadsForth heads place next
goes_by_link heads forth place next is l low within = subst (λ (n : ℕ). LeadsForth heads place n) (sym is) (goes_linked heads forth place l low within)

pub goes_on : (heads : List EntryHead) (place next : ℕ) → next ≡ place + 1 → LINKED ≤ place → place < length heads → LeadsForth heads place next
goes_on heads place next is high within = record {
  rises = omega (arith, is);
  within = omega (arith, is, within);
  none = λ q low lt. absurd (omega (arith, low, lt, is));
  shares = λ lt. absurd (omega (arith, lt, high, is));
  one_on = λ after. is;
}
