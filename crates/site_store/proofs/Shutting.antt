-- The control's slots while their gates are shut, the one that doesn't count first, over plain bytes and states.
use Rattle.std.proofs.Common.{◌≡◌, ◌≢◌, ◌⊎◌, inl, inr, ℕ, zero, suc, ◌≤◌, ◌<◌, Bool, true, false, not, cond, nat_eq, nat_lt, List, [], ◌∷◌, length, take, drop, slice_index, Option, Some, Result, Ok, Err, OnOk, refl, sym, ap, subst, ◌∙◌, arith, get_or-take, length-drop, length-take}
use Rattle.std.specs.Int.{w64, from_be_bytes}
use Rattle.std.proofs.lemmas.Bool.{cases_eq, eq-eqb, le-ltb, lt-ltb, ne_eqb}
use Rattle.std.proofs.lemmas.List.{drop-drop, drop-take, get_or-drop, take-take}
use Rattle.crash_plant.specs.Bytes.{Torn}
use Rattle.crash_plant.specs.Gates.{Shuts}
use Rattle.crash_plant.specs.declared.device.Device.TheVariants.{Control}
use Rattle.crash_plant.specs.Calls.{WorksOn}
use Rattle.crash_plant.specs.Moments.{Follows, IsDurable, SamePast, PlantState, Same, Standing, on}
use Rattle.crash_plant.proofs.BehindGates.{same_after, shuts, torn_here}
use Rattle.crash_plant.proofs.Steps.{follows_then, kept_trans, site_trans}
use Rattle.control_set.specs.declared.value.Mark.{Mark}
use Rattle.tod_stamp.specs.Fields.{u64_at}
use Rattle.control_set.specs.Places.{keeps, mark_in}
use Rattle.control_set.specs.Slots.{NoGateOpen, chosen_mark, chosen_of, is_closed, lengths_of, place_of_slot, slot_of}
use Rattle.control_set.proofs.Lengths.{same_lengths}
use Rattle.control_set.proofs.Reading.{closed_is, first_part, open_is, same_slot}
use Rattle.control_set.proofs.Stands.{none_of_gates}
use Rattle.site_store.specs.declared.starting.SlotFront.{SlotFront}
use Rattle.site_store.proofs.Calls.{durable_same}
use Rattle.site_store.specs.Formats.{AreHalves, AreZeroed, CountsOrNone, ShutsControl, ShutsSlots, front_at}

-- ---- bytes

-- the byte in front of what stands after a place
front_byte : (place : ℕ) (control : List ℕ) → slice_index (drop place control) 0 ≡ slice_index control place
front_byte place control = get_or-drop place control 0 0 ∙ ap (λ (k : ℕ). slice_index control k) (omega arith)

off_there : (place : ℕ) (control : List ℕ) → slice_index control place ≢ 1 → slice_index (drop place control) 0 ≢ 1
off_there place control off is = off (sym (front_byte place control) ∙ is)

closed_there : (lengths : List ℕ) (place : ℕ) (control : List ℕ) → slice_index control place ≢ 1 → is_closed (slot_of lengths (drop place control)) ≡ true
closed_there lengths place control off = ap is_closed (closed_is lengths (drop place control) (off_there place control off))

-- While one slot's gate is written the other slot stays.
other_slot : (lengths : List ℕ) (b : Bool) (x y : List ℕ) → Torn (place_of_slot b) 1 x y → slot_of lengths (drop (place_of_slot (not b)) y) ≡ slot_of lengths (drop (place_of_slot (not b)) x)
other_slot lengths false x y torn = ap (λ (l : List ℕ). slot_of lengths l) (sym (drop-drop 511 1 y) ∙ ap (λ (l : List ℕ). drop 511 l) torn.after ∙ drop-drop 511 1 x)
other_slot lengths true x y torn = same_slot lengths x y (sym (take-take 49 512 y (omega arith)) ∙ ap (λ (l : List ℕ). take 49 l) torn.before ∙ take-take 49 512 x (omega arith))

pub other_gate : (b : Bool) (x y : List ℕ) → Torn (place_of_slot b) 1 x y → slice_index y (place_of_slot (not b)) ≡ slice_index x (place_of_slot (not b))
other_gate false x y torn = sym (get_or-drop 1 y 511 0) ∙ ap (λ (l : List ℕ). slice_index l 511) torn.after ∙ get_or-drop 1 x 511 0
other_gate true x y torn = sym (get_or-take 512 y 0 0 (omega arith)) ∙ ap (λ (l : List ℕ). slice_index l 0) torn.before ∙ get_or-take 512 x 0 0 (omega arith)

-- ---- the chosen mark

not_err : (place : ℕ) (mark : Option Mark) → Err place ≡ Ok mark → ⊥
not_err place mark e = cc

abbrev counted : Option Mark → Result (Option Mark) ℕ
counted mark = Ok mark

-- which of two marks counts, by whether their numbers are the same, and whether the first is below
abbrev either : (m n : Mark) (same below : Bool) → Result (Option Mark) ℕ
either m n same below = cond same (Err 512) (Ok (Some (cond below n m)))

-- Of two marks the one that isn't below the other counts.
second_counts : (m n : Mark) (mark : Option Mark) → m.number ≤ n.number → either m n (nat_eq m.number n.number) (nat_lt m.number n.number) ≡ counted mark → counted (Some n) ≡ counted mark
second_counts m n mark low is = elim (cases_eq m.number n.number) [
  | inl same ↦ absurd (not_err 512 mark (ap (λ (b : Bool). either m n b (nat_lt m.number n.number)) (sym (eq-eqb m.number n.number same)) ∙ is))
  | inr differ ↦ sym (ap (λ (b : Bool). either m n b (nat_lt m.number n.number)) (ne_eqb m.number n.number differ) ∙ ap (λ (b : Bool). either m n false b) (lt-ltb m.number n.number (omega (arith, low, differ)))) ∙ is
]

first_counts : (m n : Mark) (mark : Option Mark) → n.number ≤ m.number → either m n (nat_eq m.number n.number) (nat_lt m.number n.number) ≡ counted mark → counted (Some m) ≡ counted mark
first_counts m n mark low is = elim (cases_eq m.number n.number) [
  | inl same ↦ absurd (not_err 512 mark (ap (λ (b : Bool). either m n b (nat_lt m.number n.number)) (sym (eq-eqb m.number n.number same)) ∙ is))
  | inr differ ↦ sym (ap (λ (b : Bool). either m n b (nat_lt m.number n.number)) (ne_eqb m.number n.number differ) ∙ ap (λ (b : Bool). either m n false b) (le-ltb m.number n.number low)) ∙ is
]

-- A slot that is held or damaged is held where a damaged one can't be.
is_held : {S : Type 0} (slot held damaged : S) (k : Bool) (P : S → Type 0) → slot ≡ cond k held damaged → P slot → (P damaged → ⊥) → slot ≡ held
is_held slot held damaged true P is here never = is
is_held slot held damaged false P is here never = absurd (never (subst P is here))

never_beside : {S : Type 0} (chosen : S → S → Result (Option Mark) ℕ) (slot held damaged : S) (mark : Option Mark) → slot ≡ held → chosen held damaged ≡ Err 512 → chosen slot damaged ≡ counted mark → ⊥
never_beside chosen slot held damaged mark is bad here = not_err 512 mark (sym bad ∙ (λ i. chosen (sym is i) damaged) ∙ here)

-- the number behind a gate, of the 49 bytes of a slot
number_there : (bytes : List ℕ) → (mark_in (take 49 bytes)).number ≡ u64_at bytes 5
number_there bytes = ap (λ (l : List ℕ). from_be_bytes w64 (take 8 l)) (drop-take 5 44 bytes) ∙ ap (λ (l : List ℕ). from_be_bytes w64 l) (take-take 8 44 (drop 5 bytes) (omega arith))

-- Where both gates are open, both slots hold a mark, since it was told which one counts. Where the one that isn't above the other is
-- closed, the other counts still.
one_counts : (lengths x : List ℕ) → 1024 ≤ length x → (mark : Option Mark) → chosen_mark lengths x ≡ Ok mark → slice_index x 0 ≡ 1 → slice_index x 512 ≡ 1
    → (m n : Mark) → m ≡ mark_in (take 49 x) → n ≡ mark_in (take 49 (drop 512 x)) → (c : List ℕ)
    → (m.number ≤ n.number → slice_index c 0 ≢ 1 → slot_of lengths (drop 512 c) ≡ slot_of lengths (drop 512 x) → chosen_mark lengths c ≡ Ok mark)
    × (n.number ≤ m.number → slice_index c 512 ≢ 1 → slot_of lengths c ≡ slot_of lengths x → chosen_mark lengths c ≡ Ok mark)
one_counts lengths x long mark is first_on second_on m n m_is n_is c =
    let first = is_held (slot_of lengths x) _ _ (keeps lengths (take 49 x)) (λ s. chosen_of s (slot_of lengths (drop 512 x)) ≡ Ok mark)
    (sym (first_part lengths x) ∙ open_is lengths (take 49 x) (omega (arith, length-take 49 x, long)) (get_or-take 49 x 0 0 (omega arith) ∙ first_on)) is (λ e. not_err 0 mark e) in
    let second = is_held (slot_of lengths (drop 512 x)) _ _ (keeps lengths (take 49 (drop 512 x))) (λ s. chosen_of (slot_of lengths x) s ≡ Ok mark)
    (sym (first_part lengths (drop 512 x)) ∙ open_is lengths (take 49 (drop 512 x)) (omega (arith, length-take 49 (drop 512 x), length-drop 512 x, long)) (get_or-take 49 (drop 512 x) 0 0 (omega arith) ∙ front_byte 512 x ∙ second_on)) is
    (never_beside chosen_of (slot_of lengths x) _ _ mark first refl) in
    let found : either (mark_in (take 49 x)) (mark_in (take 49 (drop 512 x))) (nat_eq (mark_in (take 49 x)).number (mark_in (take 49 (drop 512 x))).number) (nat_lt (mark_in (take 49 x)).number (mark_in (take 49 (drop 512 x))).number) ≡ counted mark
    = (λ i. chosen_of (sym first i) (sym second i)) ∙ is in
    let told : either m n (nat_eq m.number n.number) (nat_lt m.number n.number) ≡ counted mark = (λ i. either (m_is i) (n_is i) (nat_eq (m_is i).number (n_is i).number) (nat_lt (m_is i).number (n_is i).number)) ∙ found in (
      λ low off same. (λ i. chosen_of (closed_is lengths c off i) ((same ∙ second) i)) ∙ (λ i. counted (Some (sym n_is i))) ∙ second_counts m n mark low told,
      λ low off same. (λ i. chosen_of ((same ∙ first) i) (closed_is lengths (drop 512 c) (off_there 512 c off) i)) ∙ (λ i. counted (Some (sym m_is i))) ∙ first_counts m n mark low told,
    )

-- ---- while the gates are shut

-- One slot is as it was with the other, or it is closed, and the other is as it was or closed.
abbrev InOrder : (lengths x z : List ℕ) → (b : Bool) → Type 0
InOrder lengths x z b =
    ((slot_of lengths (drop (place_of_slot b) z) ≡ slot_of lengths (drop (place_of_slot b) x)) × (slot_of lengths (drop (place_of_slot (not b)) z) ≡ slot_of lengths (drop (place_of_slot (not b)) x)))
    ⊎ ((slice_index z (place_of_slot b) ≢ 1) × ((slot_of lengths (drop (place_of_slot (not b)) z) ≡ slot_of lengths (drop (place_of_slot (not b)) x)) ⊎ (slice_index z (place_of_slot (not b)) ≢ 1)))

-- the number of one slot isn't above the other's
abbrev IsBelow : (x : List ℕ) → (b : Bool) → Type 0
IsBelow x b = u64_at (drop (place_of_slot b) x) 5 ≤ u64_at (drop (place_of_slot (not b)) x) 5

-- what is seen of one slot that is shut, while the other one stays
one_off : (lengths x z : List ℕ) (b : Bool) → 1024 ≤ length x → IsBelow x b → slice_index z (place_of_slot b) ≢ 1 → slot_of lengths (drop (place_of_slot (not b)) z) ≡ slot_of lengths (drop (place_of_slot (not b)) x) → CountsOrNone lengths x z
one_off lengths x z false long low off still mark is = elim (cases_eq (slice_index x 0) 1) [
  | inr was_off ↦ inl ((λ i. chosen_of ((closed_is lengths z off ∙ sym (closed_is lengths x was_off)) i) (still i)) ∙ is)
  | inl first_on ↦ elim (cases_eq (slice_index x 512) 1) [
    | inr other_off ↦ inr (λ i. chosen_of (closed_is lengths z off i) ((still ∙ closed_is lengths (drop 512 x) (off_there 512 x other_off)) i))
    | inl second_on ↦ inl ((one_counts lengths x long mark is first_on second_on (mark_in (take 49 x)) (mark_in (take 49 (drop 512 x))) refl refl z).0 (omega (arith, number_there x, number_there (drop 512 x), low)) off still)
  ]
]
one_off lengths x z true long low off still mark is = elim (cases_eq (slice_index x 512) 1) [
  | inr was_off ↦ inl ((λ i. chosen_of (still i) ((closed_is lengths (drop 512 z) (off_there 512 z off) ∙ sym (closed_is lengths (drop 512 x) (off_there 512 x was_off))) i)) ∙ is)
  | inl second_on ↦ elim (cases_eq (slice_index x 0) 1) [
    | inr other_off ↦ inr (λ i. chosen_of ((still ∙ closed_is lengths x other_off) i) (closed_is lengths (drop 512 z) (off_there 512 z off) i))
    | inl first_on ↦ inl ((one_counts lengths x long mark is first_on second_on (mark_in (take 49 x)) (mark_in (take 49 (drop 512 x))) refl refl z).1 (omega (arith, number_there x, number_there (drop 512 x), low)) off still)
  ]
]

gates_off : (z : List ℕ) (b : Bool) → slice_index z (place_of_slot b) ≢ 1 → slice_index z (place_of_slot (not b)) ≢ 1 → NoGateOpen z
gates_off z false off other = record { first = off; second = other }
gates_off z true off other = record { first = other; second = off }

counts_in_order : (lengths x z : List ℕ) (b : Bool) → 1024 ≤ length x → IsBelow x b → InOrder lengths x z b → CountsOrNone lengths x z
counts_in_order lengths x z false long low (inl same) mark is = inl ((λ i. chosen_of (same.0 i) (same.1 i)) ∙ is)
counts_in_order lengths x z true long low (inl same) mark is = inl ((λ i. chosen_of (same.1 i) (same.0 i)) ∙ is)
counts_in_order lengths x z b long low (inr (off, inl still)) mark is = one_off lengths x z b long low off still mark is
counts_in_order lengths x z b long low (inr (off, inr both)) mark is = inr (none_of_gates lengths z (gates_off z b off both))

slots_in_order : (lengths x z : List ℕ) (b : Bool) → InOrder lengths x z b → ShutsSlots lengths x z
slots_in_order lengths x z false (inl same) = record { first = inl same.0; second = inl same.1 }
slots_in_order lengths x z true (inl same) = record { first = inl same.1; second = inl same.0 }
slots_in_order lengths x z false (inr (off, inl still)) = record { first = inr (closed_there lengths 0 z off); second = inl still }
slots_in_order lengths x z true (inr (off, inl still)) = record { first = inl still; second = inr (closed_there lengths 512 z off) }
slots_in_order lengths x z false (inr (off, inr both)) = record { first = inr (closed_there lengths 0 z off); second = inr (closed_there lengths 512 z both) }
slots_in_order lengths x z true (inr (off, inr both)) = record { first = inr (closed_there lengths 0 z both); second = inr (closed_there lengths 512 z off) }

module _ (lengths x : List ℕ) (b : Bool) (long : 1024 ≤ length x) (low : IsBelow x b) where
  shuts_in_order : (z : List ℕ) → InOrder lengths x z b → ShutsControl lengths x z
  shuts_in_order z order = record { slots = slots_in_order lengths x z b order; counts = counts_in_order lengths x z b long low order }

  -- the idle slot's gate
  one_shut : (y : List ℕ) → Shuts (place_of_slot b) x y → ShutsControl lengths x y
  one_shut y s = shuts_in_order y (elim s.gate [
    | inl same ↦ inl (ap (λ (l : List ℕ). slot_of lengths (drop (place_of_slot b) l)) same, other_slot lengths b x y s.torn)
    | inr off ↦ inr (off, inl (other_slot lengths b x y s.torn))
  ])

  -- and then that of the one that counts
  both_shut : (y z : List ℕ) → Shuts (place_of_slot b) x y → slice_index y (place_of_slot b) ≢ 1 → Shuts (place_of_slot (not b)) y z → ShutsControl lengths x z
  both_shut y z s off more = shuts_in_order z (inr (
    λ on. off (sym (back b y z more.torn) ∙ on),
    elim more.gate [
      | inl same ↦ inl (ap (λ (l : List ℕ). slot_of lengths (drop (place_of_slot (not b)) l)) same ∙ other_slot lengths b x y s.torn)
      | inr last_off ↦ inr last_off
    ],
  ))
    where
      back : (b : Bool) (y z : List ℕ) → Torn (place_of_slot (not b)) 1 y z → slice_index z (place_of_slot b) ≡ slice_index y (place_of_slot b)
      back false y z torn = other_gate true y z torn
      back true y z torn = other_gate false y z torn

-- ---- devices

-- a byte 1 lies in its list
one_within : (bytes : List ℕ) (k : ℕ) → slice_index bytes k ≡ 1 → k < length bytes
one_within [] k is = absurd (omega (arith, is))
one_within (b ∷ bytes) zero is = omega arith
one_within (b ∷ bytes) (suc k) is = let more = one_within bytes k is in omega (arith, more)

shuts_here : (place : ℕ) (x y : List ℕ) → y ≡ x → Shuts place x y
shuts_here place x y same = record { torn = subst (λ (l : List ℕ). Torn place 1 x l) (sym same) (torn_here place 1 x); gate = inl same }

-- A gate that was only synced is left.
pub gate_left : (place : ℕ) (old new : Standing) → Follows Same old new → Follows (Shuts place) old new
gate_left place old new same t from to c left = let start = same t from to c left in (start.0, start.1, shuts_here place start.0 c start.2)

-- A gate that is open, whatever a crash leaves, and is written, is as it was or shut.
pub gate_shuts : (place : ℕ) (old new : Standing) → IsDurable old → slice_index old.bytes place ≡ 1 → Follows (Torn place 1) old new → Follows (Shuts place) old new
gate_shuts place old new durable is_open torn t from to c left =
    let start = torn t from to c left in
    let open_here : slice_index start.0 place ≡ 1 = ap (λ (l : List ℕ). slice_index l place) (durable start.0 start.1) ∙ is_open in
    (start.0, start.1, shuts place start.0 c (one_within start.0 place open_here) open_here start.2)

pub control_here : (lengths x y : List ℕ) → y ≡ x → ShutsControl lengths x y
control_here lengths x y same = record {
  slots = record { first = inl (ap (λ (l : List ℕ). slot_of lengths l) same); second = inl (ap (λ (l : List ℕ). slot_of lengths (drop 512 l)) same) };
  counts = λ mark is. inl (ap (λ (l : List ℕ). chosen_mark lengths l) same ∙ is);
}

-- Reads come before the gates are shut.
pub control_after : (lengths : List ℕ) (old mid new : Standing) → SamePast old mid → Follows Same old mid → SamePast mid new → Follows (ShutsControl lengths) mid new → Follows (ShutsControl lengths) old new
control_after lengths old mid new kept same more shuts =
    follows_then old mid new Same (ShutsControl lengths) (ShutsControl lengths) kept.later same more shuts
    (λ x y here step. control_here lengths x y step) (λ x y z here there step last. subst (λ (l : List ℕ). ShutsControl lengths l z) step last)

module _ (lengths : List ℕ) (p q : ℕ) (halves : AreHalves p q) (idle counted : SlotFront) (old mid : Standing) (long : 1024 ≤ length old.bytes) (durable : IsDurable old) (idle_is : idle ≡ front_at p old.bytes) (counted_is : counted ≡ front_at q old.bytes) (order : idle.number ≤ counted.number)
    (kept : SamePast old mid) (one : Follows (Shuts p) old mid) where
  abbrev b : Bool
  b = halves.0

  low : IsBelow old.bytes b
  low = omega (arith, ap (λ (f : SlotFront). f.number) (idle_is ∙ ap (λ (k : ℕ). front_at k old.bytes) halves.1), ap (λ (f : SlotFront). f.number) (counted_is ∙ ap (λ (k : ℕ). front_at k old.bytes) halves.2), order)

  from_old : (x y : List ℕ) → old.images old.clock x → Shuts p x y → Shuts (place_of_slot b) old.bytes y
  from_old x y here step = subst (λ (l : List ℕ). Shuts (place_of_slot b) l y) (durable x here) (subst (λ (k : ℕ). Shuts k x y) halves.1 step)

  one_step : (x y : List ℕ) → old.images old.clock x → Shuts p x y → ShutsControl lengths x y
  one_step x y here step = subst (λ (l : List ℕ). ShutsControl lengths l y) (sym (durable x here)) (one_shut lengths old.bytes b long low y (from_old x y here step))

  pub one_follows : Follows (ShutsControl lengths) old mid
  one_follows t from to c left = let start = one t from to c left in (start.0, start.1, one_step start.0 c start.1 start.2)

  pub both_follow : (new : Standing) → IsDurable mid → slice_index mid.bytes p ≢ 1 → SamePast mid new → Follows (Shuts q) mid new → Follows (ShutsControl lengths) old new
  both_follow new mid_durable off more two =
      follows_then old mid new (Shuts p) (Shuts q) (ShutsControl lengths) kept.later one more two one_step
      (λ x y z here there step last. subst (λ (l : List ℕ). ShutsControl lengths l z) (sym (durable x here))
      (both_shut lengths old.bytes b long low y z (from_old x y here step) (λ on. off (ap (λ (l : List ℕ). slice_index l p) (sym (mid_durable y there)) ∙ ap (λ (k : ℕ). slice_index y k) halves.1 ∙ on)) (subst (λ (k : ℕ). Shuts k y z) halves.2 last)))

-- ---- the whole plant

module _ (tells : Type 0) (told : tells) (old one two : PlantState) (first : WorksOn tells (λ d. d ≡ Control) old one) (second : WorksOn tells (λ d. d ≡ Control) one two)
    (first_reads : Follows Same (on old Control) (on one Control)) (second_reads : Follows Same (on one Control) (on two Control)) where
  both_kept : SamePast (on old Control) (on two Control)
  both_kept = kept_trans (on old Control) (on one Control) (on two Control) ((first.elapses told).kept Control) ((second.elapses told).kept Control)

  both_read : Follows Same (on old Control) (on two Control)
  both_read = same_after (on old Control) (on one Control) (on two Control) Same ((first.elapses told).kept Control) first_reads ((second.elapses told).kept Control) second_reads

  -- Two reads shut nothing,
  pub reads_follow : Follows (ShutsControl (lengths_of old)) (on old Control) (on two Control)
  reads_follow t from to c left = let start = both_read t from to c left in (start.0, start.1, control_here (lengths_of old) start.0 c start.2)

  -- and leave what is durable.
  pub reads_durable : one.bytes Control ≡ old.bytes Control → two.bytes Control ≡ one.bytes Control → IsDurable (on old Control) → IsDurable (on two Control)
  reads_durable same more durable = durable_same old two Control both_read both_kept.later (more ∙ same) durable

  pub shut_after_reads : (new : PlantState) → WorksOn tells (λ d. d ≡ Control) two new → Follows (ShutsControl (lengths_of two)) (on two Control) (on new Control) → Follows (ShutsControl (lengths_of old)) (on old Control) (on new Control)
  shut_after_reads new works shuts =
      control_after (lengths_of old) (on old Control) (on two Control) (on new Control) both_kept both_read ((works.elapses told).kept Control)
      (subst (λ (l : List ℕ). Follows (ShutsControl l) (on two Control) (on new Control)) (same_lengths old two (site_trans old one two first.site second.site)) shuts)

-- ---- answers

pub on_ok_both : {T E : Type 0} {A B C : Type 0} (r : Result T E) → (A → B → C) → OnOk r A → OnOk r B → OnOk r C
on_ok_both (Ok v) both a b = both a b
on_ok_both (Err e) both a b = tt

pub half_low : (p q : ℕ) → AreHalves p q → (p ≤ 512) × (q ≤ 512)
half_low p q halves = (omega (arith, halves.1, low halves.0), omega (arith, halves.2, low (not halves.0)))
  where
    low : (b : Bool) → place_of_slot b ≤ 512
    low false = omega arith
    low true = omega arith

-- Of two halves the other one's gate stays while the one's is written.
pub other_stays : (p q : ℕ) (x y : List ℕ) → AreHalves p q → Torn p 1 x y → slice_index y q ≡ slice_index x q
other_stays p q x y halves torn =
    ap (λ (k : ℕ). slice_index y k) halves.2 ∙ other_gate halves.0 x y (subst (λ (k : ℕ). Torn k 1 x y) halves.1 torn) ∙ ap (λ (k : ℕ). slice_index x k) (sym halves.2)

pub other_halves : (p q : ℕ) → AreHalves p q → AreHalves q p
other_halves p q (false, one, other) = (true, other, one)
other_halves p q (true, one, other) = (false, other, one)

-- The second gate is shut after the first one.
pub none_open : (p q : ℕ) (y z : List ℕ) → AreHalves p q → slice_index y p ≢ 1 → slice_index z q ≢ 1 → Torn q 1 y z → NoGateOpen z
none_open p q y z halves off last torn = gates_off z halves.0
    (λ on. off (sym (other_stays q p y z (other_halves p q halves) torn) ∙ ap (λ (k : ℕ). slice_index z k) halves.1 ∙ on))
    (λ on. last (ap (λ (k : ℕ). slice_index z k) halves.2 ∙ on))

-- Two gates that had the byte 0 where they were open: by their fronts.
pub zeroed_by : (x z : List ℕ) (first second : SlotFront) → first ≡ front_at 0 x → second ≡ front_at 512 x → (first.is_open ≡ true → slice_index z first.place ≡ 0) → (second.is_open ≡ true → slice_index z second.place ≡ 0) → AreZeroed x z
zeroed_by x z first second first_is second_is a b = record {
  first = λ on. sym (ap (λ (f : SlotFront). slice_index z f.place) first_is) ∙ a (ap (λ (f : SlotFront). f.is_open) first_is ∙ eq-eqb (slice_index x 0) 1 on);
  second = λ on. sym (ap (λ (f : SlotFront). slice_index z f.place) second_is) ∙ b (ap (λ (f : SlotFront). f.is_open) second_is ∙ eq-eqb (slice_index x 512) 1 on);
}
