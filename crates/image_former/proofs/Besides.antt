-- Entries that are not in a track's bucket are not of that track.
use Rattle.std.proofs.Common.{◌≡◌, ◌+◌, ◌-◌, ◌*◌, ◌%◌, ◌≤◌, ◌<◌, ◌||◌, ℕ, zero, suc, true, false, List, [], ◌∷◌, length, map, length-take, take, Some, refl, sym, ap, subst, ◌∙◌, arith, inl, inr}
use Rattle.std.specs.Prelude.{slice_get}
use Rattle.std.specs.List.{list_any}
use Rattle.std.proofs.lemmas.Bool.{cases_Bool, cases_eq, cases_lt}
use Rattle.std.proofs.lemmas.Option.{same_Some, slice_get_cases, slice_get_within, get_or_from_slice_get}
use Rattle.std.proofs.lemmas.List.{get_or-take}
use Rattle.std.proofs.lemmas.List.Folds.{list_any_at}
use Rattle.ckd_track.specs.declared.rec.Rec.{Rec}
use Rattle.pending_queue.specs.declared.head.EntryHead.{EntryHead}
use Rattle.pending_queue.specs.Entries.{WaitingEntry}
use Rattle.image_former.specs.Links.{bucket_of, bucket_at, linked_count, NoneIn, LeadsForth}
use Rattle.image_former.specs.Steps.{is_beside, same_track}
use Rattle.image_former.specs.declared.links.TheConstants.{BUCKETS}
use Rattle.image_former.proofs.Changing.{Applying, apply_other}
use Rattle.image_former.proofs.Entries.{EntryThere, head_in, beside_parts}
use Rattle.image_former.proofs.Linking.{bucket_there}

-- No entry from one place up to another is on the track of a head.
abbrev pub NoneBeside : EntryHead → List WaitingEntry → (from to : ℕ) → Type 0
NoneBeside head entries from to = (q : ℕ) (e : WaitingEntry) → from ≤ q → q < to → slice_get entries q ≡ Some e → is_beside head e ≡ false

head_there : (entries : List WaitingEntry) (q : ℕ) (e : WaitingEntry) → slice_get entries q ≡ Some e → slice_get (map head_in entries) q ≡ Some e.head
head_there [] q e is = absurd cc
head_there (x ∷ entries) zero e is = ap (λ (y : WaitingEntry). Some y.head) (same_Some x e is)
head_there (x ∷ entries) (suc q) e is = head_there entries q e is

beside_shares : (head : EntryHead) (e : WaitingEntry) → is_beside head e ≡ true → bucket_of head ≡ bucket_of e.head
beside_shares head e is = let b = beside_parts head e is in λ i. (b.track i + 61 * b.volume i + 67 * b.control i) % BUCKETS

pub none_beside : (head : EntryHead) (entries : List WaitingEntry) (from to : ℕ) → NoneIn (map head_in entries) from to (bucket_of head) → NoneBeside head entries from to
none_beside head entries from to none q e low lt is = elim (cases_Bool (is_beside head e)) [
  | inl on ↦ absurd (none q low lt (bucket_there (map head_in entries) q e.head (head_there entries q e is) ∙ sym (beside_shares head e on)))
  | inr off ↦ off
]

pub any_none : (head : EntryHead) (entries : List WaitingEntry) (to : ℕ) → NoneBeside head entries 0 to → list_any (is_beside head) (take to entries) ≡ false
any_none head entries zero none = refl
any_none head [] (suc to) none = refl
any_none head (e ∷ entries) (suc to) none =
    let first = none 0 e (omega arith) (omega arith) refl in
    let more = any_none head entries to (λ q x low lt is. none (suc q) x (omega arith) (omega (arith, lt)) is) in
    λ j. first j || more j

-- an entry before is on the track
pub any_here : (head : EntryHead) (entries : List WaitingEntry) (i to : ℕ) (e : WaitingEntry) → slice_get entries i ≡ Some e → is_beside head e ≡ true → i < to → list_any (is_beside head) (take to entries) ≡ true
any_here head entries i to e there on lt =
    list_any_at (is_beside head) (take to entries) i e (omega (arith, slice_get_within entries i e there, lt, length-take to entries))
    (ap (is_beside head) (get_or-take to entries i e lt ∙ get_or_from_slice_get entries i e e there) ∙ on)

-- One place more is looked at: the last one of the bucket, which is not on the track.
pub none_by_link : (head g : EntryHead) (entries : List WaitingEntry) (earlier at to : ℕ) → NoneBeside head entries at to → (earlier < at) × (bucket_at (map head_in entries) earlier ≡ bucket_at (map head_in entries) at) × NoneIn (map head_in entries) (earlier + 1) at (bucket_at (map head_in entries) at)
    → bucket_at (map head_in entries) at ≡ bucket_of head → slice_get (map head_in entries) earlier ≡ Some g → same_track head g ≡ false → NoneBeside head entries earlier to
none_by_link head g entries earlier at to none link shares there off q e low lt is = elim (cases_eq q earlier) [
  | inl here ↦ ap (same_track head) (same_Some e.head g (sym (head_there entries q e is) ∙ ap (slice_get (map head_in entries)) here ∙ there)) ∙ off
  | inr away ↦ elim (cases_lt q at) [
    | inl before ↦
        none_beside head entries (earlier + 1) at (subst (λ (b : ℕ). NoneIn (map head_in entries) (earlier + 1) at b) shares link.2) q e (omega (arith, low, away)) before is
    | inr after ↦ none q e after lt is
  ]
]

-- None is left before a place that nothing leads back from.
pub none_before : (head : EntryHead) (entries : List WaitingEntry) (at to : ℕ) → NoneBeside head entries at to → NoneIn (map head_in entries) 0 at (bucket_at (map head_in entries) at) → bucket_at (map head_in entries) at ≡ bucket_of head
    → NoneBeside head entries 0 to
none_before head entries at to none link shares q e low lt is = elim (cases_lt q at) [
  | inl before ↦ none_beside head entries 0 at (subst (λ (b : ℕ). NoneIn (map head_in entries) 0 at b) shares link) q e low before is
  | inr after ↦ none q e after lt is
]

-- nothing is left to do between
pub apply_gap : (head : EntryHead) (place later gap to : ℕ) (entries : List WaitingEntry) (first now : List Rec) → to ≡ later + gap → Applying head place later entries first now → NoneBeside head entries later to → to ≤ length entries
    → Applying head place to entries first now
apply_gap head place later zero to entries first now is so_far none within = subst (λ (n : ℕ). Applying head place n entries first now) (omega (arith, is)) so_far
apply_gap head place later (suc gap) to entries first now is so_far none within = elim (slice_get_cases entries later).1 [
  | inl there ↦
      let t : EntryThere entries later there.0.head = record { entry = there.0; there = there.2; head = refl } in
      apply_gap head place (later + 1) gap to entries first now (omega (arith, is))
      (apply_other head there.0.head place later entries t first now so_far (none later there.0 (omega arith) (omega (arith, is)) there.2))
      (λ q e low lt there. none q e (omega (arith, low)) lt there) within
  | inr out ↦ absurd (omega (arith, out.0, within, is))
]

-- The next place at which to look: nothing is left to do before it.
pub apply_forth : (head : EntryHead) (place at next : ℕ) (entries : List WaitingEntry) (first now : List Rec) → Applying head place (at + 1) entries first now → LeadsForth (map head_in entries) at next → next ≤ length entries
    → (at < linked_count (map head_in entries) → bucket_at (map head_in entries) at ≡ bucket_of head) → Applying head place next entries first now
apply_forth head place at next entries first now so_far goes within shares = elim (cases_lt at (linked_count (map head_in entries))) [
  | inl linked ↦
      apply_gap head place (at + 1) (next - (at + 1)) next entries first now (omega (arith, goes.rises)) so_far
      (none_beside head entries (at + 1) next (subst (λ (b : ℕ). NoneIn (map head_in entries) (at + 1) next b) (shares linked) goes.none)) within
  | inr after ↦ subst (λ (n : ℕ). Applying head place n entries first now) (sym (goes.one_on after)) so_far
]
