-- What 49 bytes of a slot are.
use Rattle.std.proofs.Common.{◌≡◌, ◌≢◌, ℕ, ◌+◌, ◌-◌, ◌^◌, ◌≤◌, Bool, true, false, cond, nat_eq, nat_le, nat_lt, ◌&&◌, List, [], ◌∷◌, ◌++◌, length, take, drop, slice_index, get_or-take, Option, Some, None, Result, Ok, Err, refl, sym, ap, ◌∙◌, arith, length-drop, length-take, append-nil}
use Rattle.std.specs.Prelude.{codes, bytes_eq}
use Rattle.std.specs.Int.{Width, w8, w16, w64, byte_len, from_be_bytes}
use Rattle.std.proofs.lemmas.Bool.{le-leb, le-ltb, ne_eqb, eq-eqb}
use Rattle.std.proofs.lemmas.List.{take_at, take-take, drop-drop, get_or-drop}
use Rattle.tod_stamp.specs.Fields.{◌>>=◌, Left, Bad, bytes_at, number_at, within}
use Rattle.tod_stamp.specs.Fields.Bad.{Broken}
use Rattle.tod_stamp.proofs.FieldLaws.{at_place}
use Rattle.tod_stamp.specs.Names.{is_field, name_in, before_spaces}
use Rattle.control_set.specs.declared.value.Mark.{Mark}
use Rattle.control_set.specs.declared.slot.Slot.TheVariants.{Closed, Holds, Damaged}
use Rattle.control_set.specs.Marks.{mark_at, has_spot}
use Rattle.tod_stamp.specs.Fields.{u16_at}
use Rattle.control_set.specs.Places.{session_at, mark_in, keeps}
use Rattle.control_set.specs.Slots.{slot_read, slot_of, is_closed}

-- a field at a place in bytes that are long enough
step_bytes : (n : ℕ) (rule : List ℕ → Bool) (p k : ℕ) (bytes : List ℕ) → k + n ≤ length bytes
    → bytes_at n rule (at_place p (drop k bytes)) ≡ cond (rule (take n (drop k bytes))) (Ok (take n (drop k bytes), at_place (p + n) (drop (k + n) bytes))) (Err (Broken p))
unfolding bytes_at
step_bytes n rule p k bytes long =
    let enough : nat_lt (length (drop k bytes)) n ≡ false = le-ltb _ _ (omega (arith, long, length-drop k bytes)) in
    rw (enough, drop-drop n k bytes) refl

step_number : (w : Width) (rule : ℕ → Bool) (p k : ℕ) (bytes : List ℕ) → k + byte_len w ≤ length bytes
    → number_at w rule (at_place p (drop k bytes))
    ≡ cond (rule (from_be_bytes w (take (byte_len w) (drop k bytes)))) (Ok (from_be_bytes w (take (byte_len w) (drop k bytes)), at_place (p + byte_len w) (drop (k + byte_len w) bytes))) (Err (Broken p))
unfolding number_at
step_number w rule p k bytes long =
    let enough : nat_lt (length (drop k bytes)) (byte_len w) ≡ false = le-ltb _ _ (omega (arith, long, length-drop k bytes)) in
    rw (enough, drop-drop (byte_len w) k bytes) refl

one_byte : (k : ℕ) (bytes : List ℕ) → from_be_bytes w8 (take 1 (drop k bytes)) ≡ slice_index bytes k
one_byte k bytes = get_or-take 1 (drop k bytes) 0 0 (omega arith) ∙ get_or-drop k bytes 0 0 ∙ ap (λ (i : ℕ). slice_index bytes i) (omega arith)

step_byte : (rule : ℕ → Bool) (p k : ℕ) (bytes : List ℕ) → k + 1 ≤ length bytes
    → number_at w8 rule (at_place p (drop k bytes)) ≡ cond (rule (slice_index bytes k)) (Ok (slice_index bytes k, at_place (p + 1) (drop (k + 1) bytes))) (Err (Broken p))
step_byte rule p k bytes long = step_number w8 rule p k bytes long ∙ ap (λ (n : ℕ). cond (rule n) (Ok (n, at_place (p + 1) (drop (k + 1) bytes))) (Err (Broken p))) (one_byte k bytes)

-- one field more, and the last
field : {A : Type 0} (r : Result A Bad) (b s : Bool) (x : A) (e : Bad) (then : A → Result (Mark × Left) Bad) (m : Mark) → r ≡ cond b (Ok x) (Err e) → slot_read (then x) ≡ cond s (Holds m) Damaged → slot_read (r >>= then) ≡ cond (b && s) (Holds m) Damaged
field {A = A} r b s x e then m is next = ap (λ (q : Result A Bad). slot_read (q >>= then)) is ∙ by_rule b
  where
    by_rule : (b : Bool) → slot_read (cond b (Ok x) (Err e) >>= then) ≡ cond (b && s) (Holds m) Damaged
    by_rule true = next
    by_rule false = refl

last : {A : Type 0} (r : Result A Bad) (b : Bool) (x : A) (e : Bad) (then : A → Result (Mark × Left) Bad) (m : Mark) → r ≡ cond b (Ok x) (Err e) → slot_read (then x) ≡ Holds m → slot_read (r >>= then) ≡ cond b (Holds m) Damaged
last {A = A} r b x e then m is next = ap (λ (q : Result A Bad). slot_read (q >>= then)) is ∙ by_rule b
  where
    by_rule : (b : Bool) → slot_read (cond b (Ok x) (Err e) >>= then) ≡ cond b (Holds m) Damaged
    by_rule true = next
    by_rule false = refl

pub table : (lengths bytes : List ℕ) → length bytes ≡ 49 → slot_read (mark_at lengths (at_place 1 (drop 1 bytes))) ≡ cond (keeps lengths bytes) (Holds (mark_in bytes)) Damaged
unfolding mark_at
table lengths bytes len =
    field _ _ _ _ _ _ _ (step_bytes 4 (bytes_eq (codes "XCTL")) 1 1 bytes (omega (arith, len)))
    (field _ _ _ _ _ _ _ (step_number w64 (within 1 (2 ^ 64 - 2)) 5 5 bytes (omega (arith, len)))
    (field _ _ _ _ _ _ _ (step_bytes 8 (is_field 8) 13 13 bytes (omega (arith, len)))
    (field _ _ _ _ _ _ _ (step_byte (within 0 1) 21 21 bytes (omega (arith, len)))
    (field _ _ _ _ _ _ _ (step_number w16 (λ n. nat_lt n (length lengths)) 22 22 bytes (omega (arith, len)))
    (field _ _ _ _ _ _ _ (step_number w64 (has_spot lengths (u16_at bytes 22)) 24 24 bytes (omega (arith, len)))
    (field _ _ _ _ _ _ _ (step_number w64 (nat_le 1) 32 32 bytes (omega (arith, len)))
    (field _ _ _ _ _ _ _ (step_number w64 (nat_le 1) 40 40 bytes (omega (arith, len)))
    (last _ _ _ _ _ _ (step_byte (within 0 1) 48 48 bytes (omega (arith, len))) refl))))))))

-- ---- slots

take_all : (n : ℕ) (xs : List ℕ) → length xs ≡ n → take n xs ≡ xs
take_all n xs len = ap (λ (l : List ℕ). take n l) (sym (append-nil xs)) ∙ take_at xs [] n len

pub slot_is : (lengths : List ℕ) (b : ℕ) (bytes : List ℕ) → slot_of lengths (b ∷ bytes) ≡ cond (nat_eq b 1) (slot_read (mark_at lengths (at_place 1 (take 48 bytes)))) Closed
slot_is lengths b bytes = ap (λ (t : Bool). cond (t && nat_eq b 1) (slot_read (mark_at lengths (at_place 1 (take 48 bytes)))) Closed) (le-leb 1 (length (b ∷ bytes)) (omega arith))

pub open_is : (lengths bytes : List ℕ) → length bytes ≡ 49 → slice_index bytes 0 ≡ 1 → slot_of lengths bytes ≡ cond (keeps lengths bytes) (Holds (mark_in bytes)) Damaged
open_is lengths [] len gate = absurd (omega (arith, len))
open_is lengths (b ∷ bytes) len gate = slot_is lengths b bytes ∙ rw (eq-eqb b 1 gate, take_all 48 bytes (omega (arith, len))) (table lengths (b ∷ bytes) len)

-- Bytes with no session's name in its field keep no table.
no_field : (bytes : List ℕ) → length bytes ≡ 8 → None ≡ name_in 8 bytes → is_field 8 bytes ≡ false
no_field bytes len e = by_field (is_field 8 bytes) (ap (λ (t : Bool). cond {A = Option (List ℕ)} (t && is_field 8 bytes) (Some (before_spaces bytes)) None) (sym (eq-eqb (length bytes) 8 len)) ∙ sym e)
  where
    by_field : (t : Bool) → cond {A = Option (List ℕ)} t (Some (before_spaces bytes)) None ≡ None → t ≡ false
    by_field true e = absurd cc
    by_field false e = refl

third_false : (a b f r : Bool) → f ≡ false → (a && (b && (f && r))) ≡ false
third_false true true false r e = refl
third_false true false false r e = refl
third_false false b false r e = refl
third_false a b true r e = absurd cc

pub no_session : (lengths bytes : List ℕ) → length bytes ≡ 49 → None ≡ name_in 8 (session_at bytes) → keeps lengths bytes ≡ false
no_session lengths bytes len e = third_false _ _ (is_field 8 (session_at bytes)) _ (no_field (session_at bytes) (omega (arith, len, length-take 8 (drop 13 bytes), length-drop 13 bytes)) e)

-- an open gate before the 48 bytes of a mark
pub holds_is : (lengths body rest : List ℕ) (m : Mark) → length body ≡ 48 → slot_read (mark_at lengths (at_place 1 body)) ≡ Holds m → slot_of lengths (1 ∷ body ++ rest) ≡ Holds m
holds_is lengths body rest m len is = slot_is lengths 1 (body ++ rest) ∙ ap (λ (l : List ℕ). slot_read (mark_at lengths (at_place 1 l))) (take_at body rest 48 len) ∙ is

-- a gate that isn't 1
pub closed_is : (lengths bytes : List ℕ) → slice_index bytes 0 ≢ 1 → slot_of lengths bytes ≡ Closed
closed_is lengths [] gate = refl
closed_is lengths (b ∷ bytes) gate = slot_is lengths b bytes ∙ ap (λ (t : Bool). cond t (slot_read (mark_at lengths (at_place 1 (take 48 bytes)))) Closed) (ne_eqb b 1 gate)

-- a slot is its first 49 bytes
pub first_part : (lengths bytes : List ℕ) → slot_of lengths (take 49 bytes) ≡ slot_of lengths bytes
first_part lengths [] = refl
first_part lengths (b ∷ bytes) = slot_is lengths b (take 48 bytes) ∙ ap (λ (l : List ℕ). cond (nat_eq b 1) (slot_read (mark_at lengths (at_place 1 l))) Closed) (take-take 48 48 bytes (omega arith)) ∙ sym (slot_is lengths b bytes)

pub same_slot : (lengths b c : List ℕ) → take 49 c ≡ take 49 b → slot_of lengths c ≡ slot_of lengths b
same_slot lengths b c same = sym (first_part lengths c) ∙ ap (λ (l : List ℕ). slot_of lengths l) same ∙ first_part lengths b

-- ---- whether a gate is open

held_open : (r : Result (Mark × Left) Bad) → is_closed (slot_read r) ≡ false
held_open (Ok found) = refl
held_open (Err bad) = refl

pub gate_shut : (lengths bytes : List ℕ) → is_closed (slot_of lengths bytes) ≡ true → slice_index bytes 0 ≢ 1
gate_shut lengths [] is gate = absurd (omega (arith, gate))
gate_shut lengths (b ∷ bytes) is gate = clash (sym (ap is_closed (slot_is lengths b bytes ∙ ap (λ (t : Bool). cond t (slot_read (mark_at lengths (at_place 1 (take 48 bytes)))) Closed) (eq-eqb b 1 gate)) ∙ held_open (mark_at lengths (at_place 1 (take 48 bytes)))) ∙ is)
  where
    clash : (false ≡ true) → ⊥
    clash e = cc
