-- What stands at a spot, from its gate, its header and its body.
use Rattle.std.proofs.Common.{◌≡◌, ◌≢◌, ℕ, ◌+◌, ◌-◌, ◌<◌, ◌≤◌, Bool, true, false, cond, nat_eq, nat_lt, nat_le, ◌&&◌, ◌^◌, List, [], length, take, drop, slice_index, Option, Some, None, Result, Ok, Err, refl, sym, ap, ◌∙◌, arith, length-take, length-drop}
use Rattle.std.specs.Int.{Width, w8, w16, w32, w64, byte_len, from_be_bytes}
use Rattle.std.proofs.lemmas.Bool.{ltb-false, eq-eqb, ne_eqb}
use Rattle.std.proofs.lemmas.List.{take_all}
use Rattle.tod_stamp.specs.Fields.{◌>>=◌, Left, Bad, after, number_at, within}
use Rattle.tod_stamp.specs.Fields.Bad.{Cut, Broken}
use Rattle.tod_stamp.specs.declared.stamp.Stamp.{Stamp}
use Rattle.tod_stamp.proofs.FieldLaws.{at_place, bind_ok, guard_ok, allow_ok}
use Rattle.crash_plant.specs.declared.spot.Spot.{Spot}
use Rattle.xrc_journal.specs.declared.header.RecordHeader.{RecordHeader}
use Rattle.xrc_journal.specs.declared.header.RecordHeader.TheVariants.{Group as GroupHeader, Switch as SwitchHeader}
use Rattle.xrc_journal.specs.Items.{Item, Form}
use Rattle.xrc_journal.specs.Records.{Found, RecordHead, is_body_length, record_head_at, stretch, next_set, spot_in, switch_or, switch_of, group_of, walk_one}
use Rattle.xrc_journal.specs.Records.Found.{Switch, Damaged}
use Rattle.xrc_edge.specs.Causes.{Rose}
use Rattle.crash_plant.specs.declared.device.Device.{Device}
use Rattle.crash_plant.specs.Moments.{PlantState, on, Same}
use Rattle.crash_plant.proofs.Steps.{works_on_trans}
use Rattle.crash_plant.proofs.BehindGates.{same_after}
use Rattle.xrc_journal.specs.declared.spot.Walked.{Walked}
use Rattle.xrc_journal.specs.Bodies.{BodyState}
use Rattle.xrc_journal.specs.declared.spot.WalkError.{WalkError}
use Rattle.xrc_journal.specs.declared.spot.WalkError.TheVariants.{Damaged as WalkDamaged, Fault as WalkFault}
use Rattle.xrc_journal.specs.Answers.{header_of, group_at, switch_at, told_of, items_found, Finds, ReadsOnly, WalkCause}
use Rattle.xrc_journal.proofs.Headers.{group_length}
use Rattle.xrc_journal.proofs.Steps.{number_step, number_cut}
use Rattle.xrc_journal.proofs.RecordsAgain.{opened}

-- the header at a spot
abbrev pub header_at : (journal : List ℕ) → Spot → (last : ℕ) → Result (RecordHead × Left) Bad
header_at journal at last = record_head_at (length journal) at last (at_place (at.place + 1) (stretch (at.place + 1) 21 journal))

group_time : (t s : Stamp) (n m : ℕ) → (let x : Option RecordHeader = Some (GroupHeader t n) in let y : Option RecordHeader = Some (GroupHeader s m) in x ≡ y) → t ≡ s
group_time t s n m e = cc

switch_time : (t s : Stamp) → (let x : Option RecordHeader = Some (SwitchHeader t) in let y : Option RecordHeader = Some (SwitchHeader s) in x ≡ y) → t ≡ s
switch_time t s e = cc

module _ (form : Form) (sets : ℕ) (journal : List ℕ) (at : Spot) (last : ℕ) (gate : slice_index journal at.place ≡ 1) where
  group_kind : (head : RecordHead) (left : Left) (group : Bool) (time : Stamp) (len : ℕ) → header_at journal at last ≡ Ok (head, left) → nat_eq head.kind 1 ≡ group
      → cond group (Some (GroupHeader (record { 0 = head.time }) head.len)) (Some (SwitchHeader (record { 0 = head.time }))) ≡ Some (GroupHeader time len) → walk_one form sets journal at last ≡ group_at form journal at time.0 len
  group_kind head left true time len is kind e =
      let t = ap (λ (s : Stamp). s.0) (group_time _ time _ len e) in
      let n = group_length _ time _ len e in
      opened form sets journal at last head left gate is ∙ ap (λ (b : Bool). cond b (group_of form journal at head) (switch_of sets journal at head)) kind ∙ (λ i. group_at form journal at (t i) (n i))
  group_kind head left false time len is kind e = absurd cc

  pub group_by : (time : Stamp) (len : ℕ) → header_of (header_at journal at last) ≡ Some (GroupHeader time len) → walk_one form sets journal at last ≡ group_at form journal at time.0 len
  group_by time len e = by_head (header_at journal at last) refl e
    where
      by_head : (r : Result (RecordHead × Left) Bad) → header_at journal at last ≡ r → header_of r ≡ Some (GroupHeader time len) → walk_one form sets journal at last ≡ group_at form journal at time.0 len
      by_head (Ok head) is e = group_kind head.0 head.1 (nat_eq head.0.kind 1) time len is refl e
      by_head (Err bad) is e = absurd cc

  switch_kind : (head : RecordHead) (left : Left) (group : Bool) (time : Stamp) → header_at journal at last ≡ Ok (head, left) → nat_eq head.kind 1 ≡ group
      → cond group (Some (GroupHeader (record { 0 = head.time }) head.len)) (Some (SwitchHeader (record { 0 = head.time }))) ≡ Some (SwitchHeader time) → walk_one form sets journal at last ≡ switch_at sets journal at time.0
  switch_kind head left true time is kind e = absurd cc
  switch_kind head left false time is kind e =
      let t = ap (λ (s : Stamp). s.0) (switch_time _ time e) in
      opened form sets journal at last head left gate is ∙ ap (λ (b : Bool). cond b (group_of form journal at head) (switch_of sets journal at head)) kind ∙ switch_same head ∙ (λ i. switch_at sets journal at (t i))
    where
      switch_same : (head : RecordHead) → switch_of sets journal at head ≡ switch_at sets journal at head.time
      switch_same head = by_set (number_at w16 (λ n. nat_eq n (next_set sets at.set)) (at_place (at.place + 22) (stretch (at.place + 22) 2 journal)))
        where
          by_set : (r : Result (ℕ × Left) Bad) → switch_or at head r ≡ switch_or at (record { kind = 2; time = head.time; len = 2 }) r
          by_set (Ok set) = refl
          by_set (Err bad) = refl

  pub switch_by : (time : Stamp) → header_of (header_at journal at last) ≡ Some (SwitchHeader time) → walk_one form sets journal at last ≡ switch_at sets journal at time.0
  switch_by time e = by_head (header_at journal at last) refl e
    where
      by_head : (r : Result (RecordHead × Left) Bad) → header_at journal at last ≡ r → header_of r ≡ Some (SwitchHeader time) → walk_one form sets journal at last ≡ switch_at sets journal at time.0
      by_head (Ok head) is e = switch_kind head.0 head.1 (nat_eq head.0.kind 1) time is refl e
      by_head (Err bad) is e = absurd cc

  header_bad_by : (r : Result (RecordHead × Left) Bad) → header_at journal at last ≡ r → header_of r ≡ None → walk_one form sets journal at last ≡ Damaged at.place []
  unfolding walk_one
  header_bad_by (Ok head) is e = absurd (some_kind (nat_eq head.0.kind 1) e)
    where
      some_kind : (group : Bool) → cond group (Some (GroupHeader (record { 0 = head.0.time }) head.0.len)) (Some (SwitchHeader (record { 0 = head.0.time }))) ≡ None → ⊥
      some_kind true e = cc
      some_kind false e = cc
  header_bad_by (Err bad) is e = rw (eq-eqb (slice_index journal at.place) 1 gate, is) refl

  pub bad_by : header_of (header_at journal at last) ≡ None → walk_one form sets journal at last ≡ Damaged at.place []
  bad_by e = header_bad_by (header_at journal at last) refl e

-- ---- a header that is cut

number_long : (w : Width) (rule : ℕ → Bool) (left : Left) (n : ℕ) (next : Left) → number_at w rule left ≡ Ok (n, next) → length left.bytes ≡ byte_len w + length next.bytes
unfolding number_at
number_long w rule left n next e =
    let found = from_be_bytes w (take (byte_len w) left.bytes) in
    let one = guard_ok (nat_lt (length left.bytes) (byte_len w)) (Cut left.place) (cond (rule found) (Ok (found, after (byte_len w) left)) (Err (Broken left.place))) (n, next) e in
    let two = allow_ok (rule found) (Broken left.place) (found, after (byte_len w) left) (n, next) one.1 in
    let long : byte_len w ≤ length left.bytes = ltb-false (length left.bytes) (byte_len w) one.0 in
    omega (arith, long, length-drop (byte_len w) left.bytes, ap (λ (p : ℕ × Left). length p.1.bytes) two.1)

pub header_long : (size : ℕ) (at : Spot) (last : ℕ) (left : Left) (head : RecordHead × Left) → record_head_at size at last left ≡ Ok head → 21 ≤ length left.bytes
unfolding record_head_at
header_long size at last left head e =
    let expected : ℕ → Bool = λ n. nat_eq n at.number && nat_lt n (2 ^ 64 - 1) in
    let one = bind_ok (number_at w8 (within 1 2) left) (λ k. number_at w64 expected k.1 >>= (λ n. number_at w64 (nat_le last) n.1 >>= (λ t. number_at w32 (is_body_length size at k.0) t.1 >>= (λ l. Ok (record { kind = k.0; time = t.0; len = l.0 }, l.1))))) head e in
    let two = bind_ok (number_at w64 expected one.0.1) (λ n. number_at w64 (nat_le last) n.1 >>= (λ t. number_at w32 (is_body_length size at one.0.0) t.1 >>= (λ l. Ok (record { kind = one.0.0; time = t.0; len = l.0 }, l.1)))) head one.2 in
    let three = bind_ok (number_at w64 (nat_le last) two.0.1) (λ t. number_at w32 (is_body_length size at one.0.0) t.1 >>= (λ l. Ok (record { kind = one.0.0; time = t.0; len = l.0 }, l.1))) head two.2 in
    let four = bind_ok (number_at w32 (is_body_length size at one.0.0) three.0.1) (λ l. Ok (record { kind = one.0.0; time = three.0.0; len = l.0 }, l.1)) head three.2 in
    omega (arith, number_long w8 (within 1 2) left one.0.0 one.0.1 one.1, number_long w64 expected one.0.1 two.0.0 two.0.1 two.1, number_long w64 (nat_le last) two.0.1 three.0.0 three.0.1 three.1, number_long w32 (is_body_length size at one.0.0) three.0.1 four.0.0 four.0.1 four.1)

pub cut_header : (journal : List ℕ) (at : Spot) (last : ℕ) → length journal < at.place + 22 → header_of (header_at journal at last) ≡ None
cut_header journal at last short = by_head (header_at journal at last) refl
  where
    by_head : (r : Result (RecordHead × Left) Bad) → header_at journal at last ≡ r → header_of r ≡ None
    by_head (Err bad) is = refl
    by_head (Ok head) is = absurd (omega (arith, short, header_long (length journal) at last (at_place (at.place + 1) (stretch (at.place + 1) 21 journal)) head is, length-take 21 (drop (at.place + 1) journal), length-drop (at.place + 1) journal))

-- ---- a switch's body

module _ (sets : ℕ) (journal : List ℕ) (at : Spot) (time : ℕ) where
  pub switch_cut : length journal < at.place + 24 → switch_at sets journal at time ≡ Damaged at.place []
  switch_cut short = ap (λ (r : Result (ℕ × Left) Bad). switch_or at (record { kind = 2; time = time; len = 2 }) r)
      (number_cut w16 (λ n. nat_eq n (next_set sets at.set)) (at.place + 22) (stretch (at.place + 22) 2 journal) (omega (arith, short, length-take 2 (drop (at.place + 22) journal), length-drop (at.place + 22) journal)))

  switch_read : (t : ℕ) → at.place + 24 ≤ length journal → t ≡ from_be_bytes w16 (stretch (at.place + 22) 2 journal) → switch_at sets journal at time ≡ cond (nat_eq t (next_set sets at.set)) (Switch time (spot_in t at)) (Damaged at.place [])
  switch_read t long is =
      let bytes = stretch (at.place + 22) 2 journal in
      let len : length bytes ≡ 2 = omega (arith, long, length-take 2 (drop (at.place + 22) journal), length-drop (at.place + 22) journal) in
      let found : from_be_bytes w16 (take 2 bytes) ≡ t = ap (λ (l : List ℕ). from_be_bytes w16 l) (take_all 2 bytes (omega (arith, len))) ∙ sym is in
      ap (λ (r : Result (ℕ × Left) Bad). switch_or at (record { kind = 2; time = time; len = 2 }) r) (number_step w16 (λ n. nat_eq n (next_set sets at.set)) (at.place + 22) 0 bytes (omega (arith, len)))
      ∙ by_rule (nat_eq (from_be_bytes w16 (take 2 bytes)) (next_set sets at.set)) (from_be_bytes w16 (take 2 bytes)) (at_place (at.place + 22 + 2) (drop 2 bytes))
      ∙ ap (λ (n : ℕ). cond (nat_eq n (next_set sets at.set)) (Switch time (spot_in n at)) (Damaged at.place [])) found
    where
      by_rule : (b : Bool) (n : ℕ) (left : Left) → switch_or at (record { kind = 2; time = time; len = 2 }) (cond b (Ok (n, left)) (Err (Broken (at.place + 22)))) ≡ cond b (Switch time (spot_in n at)) (Damaged at.place [])
      by_rule true n left = refl
      by_rule false n left = refl

  pub switch_other : (t : ℕ) → at.place + 24 ≤ length journal → t ≡ from_be_bytes w16 (stretch (at.place + 22) 2 journal) → t ≢ next_set sets at.set → switch_at sets journal at time ≡ Damaged at.place []
  switch_other t long is other = switch_read t long is ∙ ap (λ (b : Bool). cond b (Switch time (spot_in t at)) (Damaged at.place [])) (ne_eqb t (next_set sets at.set) other)

  pub switch_next : (t : ℕ) → at.place + 24 ≤ length journal → t ≡ from_be_bytes w16 (stretch (at.place + 22) 2 journal) → t ≡ next_set sets at.set → switch_at sets journal at time ≡ Switch time (spot_in t at)
  switch_next t long is next = switch_read t long is ∙ ap (λ (b : Bool). cond b (Switch time (spot_in t at)) (Damaged at.place [])) (eq-eqb t (next_set sets at.set) next)

-- ---- faults

pub fault_is : (set j : ℕ) → (let a : Result Walked WalkError = Err (WalkFault set) in let b : Result Walked WalkError = Err (WalkFault j) in a ≡ b) → j ≡ set
fault_is set j e = cc

-- a fault that rose is answered
pub fault_cause : (set before now : ℕ) → Rose before now → WalkCause set before now (Err (WalkFault set))
fault_cause set before now rose = record { fault = λ j is. (fault_is set j is, rose); others = λ none. absurd (none set refl) }

pub reads_only_trans : (tells : Type 0) (device : Device) (a b c : PlantState) → ReadsOnly tells device a b → ReadsOnly tells device b c → ReadsOnly tells device a c
reads_only_trans tells device a b c x y = record {
  same = λ told. y.same told ∙ x.same told;
  moments = λ told. same_after (on a device) (on b device) (on c device) Same ((x.only.elapses told).kept device) (x.moments told) ((y.only.elapses told).kept device) (y.moments told);
  only = works_on_trans tells _ _ _ _ x.only y.only;
}

-- ---- answers

held_none : (held : BodyState) (items : List Item) → held.items ≡ [] → items ≡ [] → held ≡ record { items = items; room = held.room }
held_none held items empty none = let same = empty ∙ sym none in λ i. record { items = same i; room = held.room }

pub finds_damaged : (set place : ℕ) (found : Found) (held : BodyState) → found ≡ Damaged place [] → held.items ≡ [] → Finds set found (Err (WalkDamaged set place)) held held
finds_damaged set place found held is empty = record { told = sym (ap (λ (f : Found). told_of set f) is); held = held_none held (items_found found) empty (ap items_found is) }

pub finds_switch : (set sets : ℕ) (journal : List ℕ) (at : Spot) (time : ℕ) (result : Result Walked WalkError) (held : BodyState) → result ≡ told_of set (switch_at sets journal at time) → held.items ≡ [] → Finds set (switch_at sets journal at time) result held held
finds_switch set sets journal at time result held told empty = record { told = told; held = held_none held (items_found (switch_at sets journal at time)) empty (by_set (number_at w16 (λ n. nat_eq n (next_set sets at.set)) (at_place (at.place + 22) (stretch (at.place + 22) 2 journal)))) }
  where
    by_set : (r : Result (ℕ × Left) Bad) → items_found (switch_or at (record { kind = 2; time = time; len = 2 }) r) ≡ []
    by_set (Ok set) = refl
    by_set (Err bad) = refl
