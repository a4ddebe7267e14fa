-- What stands at a spot, from what is found there.
use Rattle.std.proofs.Common.{◌≡◌, ◌⊎◌, inl, inr, ℕ, ◌+◌, ◌-◌, ◌^◌, ◌≤◌, ◌<◌, Bool, true, false, cond, nat_eq, nat_lt, nat_le, ◌&&◌, List, [], length, drop, slice_index, Option, Some, None, Result, Ok, Err, refl, sym, ap, ◌∙◌, arith, length-take}
use Rattle.std.specs.Int.{w8, w16, w32, w64}
use Rattle.std.proofs.lemmas.Bool.{eqb-true, eqb-false}
use Rattle.tod_stamp.specs.Fields.{◌>>=◌, Left, Bad, number_at, within}
use Rattle.tod_stamp.proofs.FieldLaws.{at_place, bind_ok}
use Rattle.crash_plant.specs.declared.spot.Spot.{Spot}
use Rattle.xrc_journal.specs.Items.{Item, Form, anywhere, none_earlier, are_items_after, body_spelling}
use Rattle.xrc_journal.specs.Reading.{Items, items_at}
use Rattle.xrc_journal.specs.Records.{Found, RecordHead, record_head_at, is_body_length, next_set, spot_in, stretch, group_or, switch_or, switch_of, record_or, walk_one}
use Rattle.xrc_journal.specs.Records.Found.{End, Group, Switch, Damaged}
use Rattle.xrc_journal.specs.declared.spot.Walked.TheVariants.{End as WalkedEnd, Group as WalkedGroup, Switch as WalkedSwitch}
use Rattle.xrc_journal.specs.declared.spot.WalkError.TheVariants.{Damaged as WalkDamaged}
use Rattle.tod_stamp.specs.declared.stamp.Stamp.{Stamp}
use Rattle.xrc_journal.specs.Answers.{items_found, told_of}
use Rattle.xrc_journal.proofs.Fields.{given_is}
use Rattle.xrc_journal.proofs.RecordsRead.{group_fits, group_found}
use Rattle.site_means.specs.Steps.{HavePlaces}
use Rattle.control_set.proofs.Keeps.{number_kept}
use Rattle.site_means.proofs.Long.{Ending, items_long}

-- ---- the answer of a walk

pub told_end : (set : ℕ) (found : Found) → told_of set found ≡ Ok WalkedEnd → found ≡ End
told_end set End e = refl
told_end set (Group time items after) e = absurd cc
told_end set (Switch time after) e = absurd cc
told_end set (Damaged place items) e = absurd cc

pub told_group : (set : ℕ) (found : Found) (time : Stamp) (after : Spot) → told_of set found ≡ Ok (WalkedGroup time after) → found ≡ Group time.0 (items_found found) after
told_group set End time after e = absurd cc
told_group set (Group t items a) time after e = let same : (t ≡ time.0) × (a ≡ after) = (cc, cc) in (λ i. Group (same.0 i) items (same.1 i))
told_group set (Switch t a) time after e = absurd cc
told_group set (Damaged place items) time after e = absurd cc

pub told_switch : (set : ℕ) (found : Found) (time : Stamp) (after : Spot) → told_of set found ≡ Ok (WalkedSwitch time after) → found ≡ Switch time.0 after
told_switch set End time after e = absurd cc
told_switch set (Group t items a) time after e = absurd cc
told_switch set (Switch t a) time after e = let same : (t ≡ time.0) × (a ≡ after) = (cc, cc) in (λ i. Switch (same.0 i) (same.1 i))
told_switch set (Damaged place items) time after e = absurd cc

pub told_damaged : (set : ℕ) (found : Found) (j place : ℕ) → told_of set found ≡ Err (WalkDamaged j place) → found ≡ Damaged place (items_found found)
told_damaged set End j place e = absurd cc
told_damaged set (Group t items a) j place e = absurd cc
told_damaged set (Switch t a) j place e = absurd cc
told_damaged set (Damaged p items) j place e = let same : p ≡ place = cc in (λ i. Damaged (same i) items)

-- ---- a header

-- the body's length keeps its rule
head_fits : (size : ℕ) (at : Spot) (last : ℕ) (left : Left) (head : RecordHead) (next : Left) → record_head_at size at last left ≡ Ok (head, next) → is_body_length size at head.kind head.len ≡ true
unfolding record_head_at
head_fits size at last left head next e =
    let expected : ℕ → Bool = λ n. nat_eq n at.number && nat_lt n (2 ^ 64 - 1) in
    let one = bind_ok (number_at w8 (within 1 2) left) (λ k. number_at w64 expected k.1 >>= (λ n. number_at w64 (nat_le last) n.1 >>= (λ t. number_at w32 (is_body_length size at k.0) t.1 >>= (λ l. Ok (record { kind = k.0; time = t.0; len = l.0 }, l.1))))) (head, next) e in
    let two = bind_ok (number_at w64 expected one.0.1) (λ n. number_at w64 (nat_le last) n.1 >>= (λ t. number_at w32 (is_body_length size at one.0.0) t.1 >>= (λ l. Ok (record { kind = one.0.0; time = t.0; len = l.0 }, l.1)))) (head, next) one.2 in
    let three = bind_ok (number_at w64 (nat_le last) two.0.1) (λ t. number_at w32 (is_body_length size at one.0.0) t.1 >>= (λ l. Ok (record { kind = one.0.0; time = t.0; len = l.0 }, l.1))) (head, next) two.2 in
    let four = bind_ok (number_at w32 (is_body_length size at one.0.0) three.0.1) (λ l. Ok (record { kind = one.0.0; time = three.0.0; len = l.0 }, l.1)) (head, next) three.2 in
    let kept = number_kept w32 (is_body_length size at one.0.0) three.0.1 four.0.0 four.0.1 four.1 in
    let is = given_is (record { kind = one.0.0; time = three.0.0; len = four.0.0 }, four.0.1) (head, next) four.2 in
    ap (λ (p : RecordHead × Left). is_body_length size at p.0.kind p.0.len) (sym is) ∙ kept

-- ---- a group

-- where a group ends
pub record GroupEnds (journal : List ℕ) (at after : Spot) : Type 0 where
  pub set : after.set ≡ at.set
  pub number : after.number ≡ at.number + 1
  pub room : after.place + 24 ≤ length journal

pub group_ends : (form : Form) (sets : ℕ) (journal : List ℕ) (at : Spot) (last time : ℕ) (items : List Item) (after : Spot) → walk_one form sets journal at last ≡ Group time items after → GroupEnds journal at after
group_ends form sets journal at last time items after e =
    let f = group_found form sets journal at last time items after e in
    let bounds = group_fits (length journal) at f.head f.kind (head_fits (length journal) at last (at_place (at.place + 1) (stretch (at.place + 1) 21 journal)) f.head f.left f.header) in
    record {
      set = sym (ap (λ (s : Spot). s.set) f.after_is);
      number = sym (ap (λ (s : Spot). s.number) f.after_is);
      room = omega (arith, ap (λ (s : Spot). s.place) f.after_is, bounds.1);
    }

-- ---- the items that were found

-- the place after what was found, or that of the first bad byte
abbrev pub after_found : Found → ℕ
after_found End = 0
after_found (Group time items after) = after.place
after_found (Switch time after) = after.place
after_found (Damaged place items) = place

module _ (form : Form) (sets : ℕ) (journal : List ℕ) (at : Spot) (last : ℕ) where
  -- the items that were found end before it
  abbrev Lie : Found → Type 0
  Lie found = are_items_after anywhere none_earlier (items_found found) ≡ true → (items_found found ≡ []) ⊎ (at.place + 22 + length (body_spelling (items_found found)) ≤ after_found found)

  group_lies : (head : RecordHead) (read : Items) (bad : Option ℕ) → read.bad ≡ bad → (are_items_after anywhere none_earlier read.good ≡ true → Ending (at_place (at.place + 22) (stretch (at.place + 22) head.len journal)) read) → Lie (group_or at head read bad)
  group_lies head read None none ends keep = inr (omega (arith, (ends keep).within, length-take head.len (drop (at.place + 22) journal)))
  group_lies head read (Some place) some ends keep = inr (omega (arith, (ends keep).before place some))

  switch_lies : (head : RecordHead) (set : Result (ℕ × Left) Bad) → Lie (switch_or at head set)
  switch_lies head (Ok set) keep = inl refl
  switch_lies head (Err bad) keep = inl refl

  by_kind : (head : RecordHead) (group : Bool) → (let read = items_at form (at.place + 22) (stretch (at.place + 22) head.len journal) in Lie (cond group (group_or at head read read.bad) (switch_of sets journal at head)))
  by_kind head true =
      let read = items_at form (at.place + 22) (stretch (at.place + 22) head.len journal) in
      group_lies head read read.bad refl (items_long (length (stretch (at.place + 22) head.len journal)) form none_earlier (at_place (at.place + 22) (stretch (at.place + 22) head.len journal)) none_earlier)
  by_kind head false = switch_lies head (number_at w16 (λ n. nat_eq n (next_set sets at.set)) (at_place (at.place + 22) (stretch (at.place + 22) 2 journal)))

  by_head : (read : Result (RecordHead × Left) Bad) → Lie (record_or form sets journal at read)
  by_head (Ok head) keep = by_kind head.0 (nat_eq head.0.kind 1) keep
  by_head (Err bad) keep = inl refl

  by_gate : (is_open : Bool) → Lie (cond is_open (record_or form sets journal at (record_head_at (length journal) at last (at_place (at.place + 1) (stretch (at.place + 1) 21 journal)))) End)
  by_gate true keep = by_head (record_head_at (length journal) at last (at_place (at.place + 1) (stretch (at.place + 1) 21 journal))) keep
  by_gate false keep = inl refl

  lie : Lie (walk_one form sets journal at last)
  unfolding walk_one
  lie = by_gate (nat_eq (slice_index journal at.place) 1)

  -- so their places are numbers of 64 bits where that one is
  pub found_places : (found : Found) → walk_one form sets journal at last ≡ found → after_found found < 2 ^ 64 → HavePlaces at (items_found (walk_one form sets journal at last))
  found_places found is short keep = elim (lie keep) [
    | inl none ↦ inl none
    | inr within ↦ inr (omega (arith, within, short, ap after_found is))
  ]

  -- ---- a switch

  switch_is : (head : RecordHead) (set : Result (ℕ × Left) Bad) (time : ℕ) (after : Spot) → number_at w16 (λ n. nat_eq n (next_set sets at.set)) (at_place (at.place + 22) (stretch (at.place + 22) 2 journal)) ≡ set → switch_or at head set ≡ Switch time after
      → after ≡ spot_in (next_set sets at.set) at
  switch_is head (Ok set) time after read e =
      let kept = number_kept w16 (λ n. nat_eq n (next_set sets at.set)) _ set.0 set.1 read in
      let same : spot_in set.0 at ≡ after = cc in
      sym same ∙ ap (λ (n : ℕ). spot_in n at) (eqb-true set.0 (next_set sets at.set) kept)
  switch_is head (Err bad) time after read e = absurd cc

  group_is_none : (head : RecordHead) (read : Items) (bad : Option ℕ) (time : ℕ) (after : Spot) → group_or at head read bad ≡ Switch time after → ⊥
  group_is_none head read None time after e = cc
  group_is_none head read (Some place) time after e = cc

  switch_by_kind : (head : RecordHead) (group : Bool) (time : ℕ) (after : Spot)
      → (let read = items_at form (at.place + 22) (stretch (at.place + 22) head.len journal) in cond group (group_or at head read read.bad) (switch_of sets journal at head) ≡ Switch time after) → after ≡ spot_in (next_set sets at.set) at
  switch_by_kind head true time after e = let read = items_at form (at.place + 22) (stretch (at.place + 22) head.len journal) in absurd (group_is_none head read read.bad time after e)
  switch_by_kind head false time after e = switch_is head (number_at w16 (λ n. nat_eq n (next_set sets at.set)) (at_place (at.place + 22) (stretch (at.place + 22) 2 journal))) time after refl e

  switch_by_head : (read : Result (RecordHead × Left) Bad) (time : ℕ) (after : Spot) → record_or form sets journal at read ≡ Switch time after → after ≡ spot_in (next_set sets at.set) at
  switch_by_head (Ok head) time after e = switch_by_kind head.0 (nat_eq head.0.kind 1) time after e
  switch_by_head (Err bad) time after e = absurd cc

  switch_by_gate : (is_open : Bool) (time : ℕ) (after : Spot) → cond is_open (record_or form sets journal at (record_head_at (length journal) at last (at_place (at.place + 1) (stretch (at.place + 1) 21 journal)))) End ≡ Switch time after → after ≡ spot_in (next_set sets at.set) at
  switch_by_gate true time after e = switch_by_head (record_head_at (length journal) at last (at_place (at.place + 1) (stretch (at.place + 1) 21 journal))) time after e
  switch_by_gate false time after e = absurd cc

  pub switch_leads : (time : ℕ) (after : Spot) → walk_one form sets journal at last ≡ Switch time after → after ≡ spot_in (next_set sets at.set) at
  unfolding walk_one
  switch_leads time after e = switch_by_gate (nat_eq (slice_index journal at.place) 1) time after e

pub next_within : (sets set : ℕ) → set < sets → next_set sets set < sets
next_within sets set lt = by_last (nat_eq (set + 1) sets) refl
  where
    by_last : (last : Bool) → nat_eq (set + 1) sets ≡ last → cond last 0 (set + 1) < sets
    by_last true is = omega (arith, lt)
    by_last false is = omega (arith, lt, eqb-false (set + 1) sets is)
