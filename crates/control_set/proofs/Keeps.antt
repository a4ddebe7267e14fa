-- A mark that was read keeps the table, whatever the bytes are.
use Rattle.std.proofs.Common.{◌≡◌, ℕ, ◌-◌, ◌^◌, Bool, true, false, cond, nat_eq, nat_lt, nat_le, List, length, take, drop, Option, Some, Result, Ok, Err, refl, ap, subst}
use Rattle.std.specs.Prelude.{codes, bytes_eq, slice_range}
use Rattle.std.specs.Int.{Width, w8, w16, w64, byte_len, from_be_bytes}
use Rattle.std.proofs.lemmas.Bool.{leb-true}
use Rattle.tod_stamp.specs.Fields.{Left, Bad, bytes_at, number_at, within, after}
use Rattle.tod_stamp.specs.Fields.Bad.{Cut, Broken}
use Rattle.tod_stamp.specs.Names.{is_field}
use Rattle.tod_stamp.proofs.FieldLaws.{at_place, bind_ok, guard_ok, allow_ok}
use Rattle.tod_stamp.proofs.NameLaws.{both_true}
use Rattle.control_set.specs.declared.value.Mark.{Mark}
use Rattle.control_set.specs.declared.slot.Slot.{Slot}
use Rattle.control_set.specs.declared.slot.Slot.TheVariants.{Closed, Holds, Damaged}
use Rattle.control_set.specs.Marks.{IsMark, mark_at, has_spot}
use Rattle.control_set.specs.Slots.{HoldsMark, is_open, slot_read, slot_of, chosen_of, chosen_mark}
use Rattle.control_set.proofs.Lengths.{room_is}

-- a number that was read keeps its rule
pub number_kept : (w : Width) (rule : ℕ → Bool) (left : Left) (n : ℕ) (next : Left) → number_at w rule left ≡ Ok (n, next) → rule n ≡ true
unfolding number_at
number_kept w rule left n next e =
    let value = from_be_bytes w (take (byte_len w) left.bytes) in
    let long = guard_ok (nat_lt (length left.bytes) (byte_len w)) (Cut left.place) (cond (rule value) (Ok (value, after (byte_len w) left)) (Err (Broken left.place))) (n, next) e in
    let kept = allow_ok (rule value) (Broken left.place) (value, after (byte_len w) left) (n, next) long.1 in
    subst (λ (k : ℕ). rule k ≡ true) (ap (λ (p : ℕ × Left). p.0) kept.1) kept.0

mark_is : (a b : Mark × Left) → (let x : Result (Mark × Left) Bad = Ok a in let y : Result (Mark × Left) Bad = Ok b in x ≡ y) → a ≡ b
mark_is a b e = cc

pub mark_keeps : (lengths : List ℕ) (left : Left) (m : Mark) (next : Left) → mark_at lengths left ≡ Ok (m, next) → IsMark lengths m
unfolding mark_at
mark_keeps lengths left m next e =
    let word = bind_ok (bytes_at 4 (bytes_eq (codes "XCTL")) left) _ (m, next) e in
    let number = bind_ok (number_at w64 (within 1 (2 ^ 64 - 2)) word.0.1) _ (m, next) word.2 in
    let session = bind_ok (bytes_at 8 (is_field 8) number.0.1) _ (m, next) number.2 in
    let slot = bind_ok (number_at w8 (within 0 1) session.0.1) _ (m, next) session.2 in
    let set = bind_ok (number_at w16 (λ n. nat_lt n (length lengths)) slot.0.1) _ (m, next) slot.2 in
    let place = bind_ok (number_at w64 (has_spot lengths set.0.0) set.0.1) _ (m, next) set.2 in
    let spot = bind_ok (number_at w64 (nat_le 1) place.0.1) _ (m, next) place.2 in
    let time = bind_ok (number_at w64 (nat_le 1) spot.0.1) _ (m, next) spot.2 in
    let ended = bind_ok (number_at w8 (within 0 1) time.0.1) _ (m, next) time.2 in
    let is = ap (λ (p : Mark × Left). p.0) (mark_is _ (m, next) ended.2) in
    let among = both_true (nat_le 1 number.0.0) (nat_le number.0.0 (2 ^ 64 - 2)) (number_kept w64 (within 1 (2 ^ 64 - 2)) word.0.1 number.0.0 number.0.1 number.1) in
    let low = both_true (nat_le 0 slot.0.0) (nat_le slot.0.0 1) (number_kept w8 (within 0 1) session.0.1 slot.0.0 slot.0.1 slot.1) in
    let room = room_is lengths set.0.0 place.0.0 (number_kept w64 (has_spot lengths set.0.0) set.0.1 place.0.0 place.0.1 place.1) in
    subst (λ (k : Mark). IsMark lengths k) is (record {
      number = leb-true 1 number.0.0 among.0;
      most = leb-true number.0.0 (2 ^ 64 - 2) among.1;
      state_slot = leb-true slot.0.0 1 low.1;
      set = room.0;
      room = room.1;
      next = leb-true 1 spot.0.0 (number_kept w64 (nat_le 1) place.0.1 spot.0.0 spot.0.1 spot.1);
      time = leb-true 1 time.0.0 (number_kept w64 (nat_le 1) spot.0.1 time.0.0 time.0.1 time.1);
    })

held_keeps : (lengths : List ℕ) (left : Left) (r : Result (Mark × Left) Bad) → mark_at lengths left ≡ r → HoldsMark lengths (slot_read r)
held_keeps lengths left (Ok found) e = mark_keeps lengths left found.0 found.1 e
held_keeps lengths left (Err bad) e = tt

open_keeps : (lengths : List ℕ) (b : Bool) (s : Slot) → HoldsMark lengths s → HoldsMark lengths (cond b s Closed)
open_keeps lengths true s k = k
open_keeps lengths false s k = tt

-- what a slot holds keeps the table
pub slot_keeps : (lengths bytes : List ℕ) → HoldsMark lengths (slot_of lengths bytes)
slot_keeps lengths bytes =
    let left = at_place 1 (slice_range bytes 1 49) in
    open_keeps lengths (is_open bytes) (slot_read (mark_at lengths left)) (held_keeps lengths left (mark_at lengths left) refl)

-- and so does the mark that counts
pub chosen_of_keeps : (lengths : List ℕ) (first second : Slot) (m : Mark) → HoldsMark lengths first → HoldsMark lengths second → chosen_of first second ≡ Ok (Some m) → IsMark lengths m
chosen_of_keeps lengths Closed Closed m j k e = absurd cc
chosen_of_keeps lengths Closed (Holds n) m j k e = let is : n ≡ m = cc in subst (λ (x : Mark). IsMark lengths x) is k
chosen_of_keeps lengths Closed Damaged m j k e = absurd cc
chosen_of_keeps lengths Damaged second m j k e = absurd cc
chosen_of_keeps lengths (Holds n) Closed m j k e = let is : n ≡ m = cc in subst (λ (x : Mark). IsMark lengths x) is j
chosen_of_keeps lengths (Holds n) Damaged m j k e = absurd cc
chosen_of_keeps lengths (Holds n) (Holds l) m j k e = by_numbers (nat_eq n.number l.number) (nat_lt n.number l.number) e
  where
    by_numbers : (same below : Bool) → cond {A = Result (Option Mark) ℕ} same (Err 512) (Ok (Some (cond below l n))) ≡ Ok (Some m) → IsMark lengths m
    by_numbers true below e = absurd cc
    by_numbers false true e = let is : l ≡ m = cc in subst (λ (x : Mark). IsMark lengths x) is k
    by_numbers false false e = let is : n ≡ m = cc in subst (λ (x : Mark). IsMark lengths x) is j

pub chosen_keeps : (lengths control : List ℕ) (m : Mark) → chosen_mark lengths control ≡ Ok (Some m) → IsMark lengths m
chosen_keeps lengths control m e = chosen_of_keeps lengths _ _ m (slot_keeps lengths control) (slot_keeps lengths (drop 512 control)) e
