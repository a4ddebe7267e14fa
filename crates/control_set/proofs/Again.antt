-- A mark that is spelled is read again.
use Rattle.std.proofs.Common.{◌≡◌, ℕ, ◌+◌, ◌-◌, ◌^◌, ◌≤◌, Bool, true, false, nat_eq, nat_le, nat_lt, List, [], ◌∷◌, ◌++◌, length, Ok, refl, ap, ◌∙◌, arith, length-append, append_assoc}
use Rattle.std.specs.Prelude.{codes, bytes_eq, slice_index}
use Rattle.std.specs.Int.{w8, w16, w64, to_be_bytes}
use Rattle.std.proofs.lemmas.Bool.{le-leb, le-ltb, lt-ltb}
use Rattle.tod_stamp.specs.Fields.{number_at, within}
use Rattle.tod_stamp.specs.Names.{is_field, session_field}
use Rattle.tod_stamp.proofs.FieldLaws.{at_place, wide16, wide64, number_again, bytes_again}
use Rattle.tod_stamp.proofs.NameLaws.{and_true, fields_back, length-name_field}
use Rattle.control_set.specs.declared.value.Mark.{Mark}
use Rattle.control_set.specs.Marks.{IsMark, IsInRange, mark_spelling, mark_at, has_spot, flag}
use Rattle.control_set.specs.Laws.{MarksReadBack}

-- the rules of the table as tests
pub range_kept : (lengths : List ℕ) (m : Mark) → IsMark lengths m → within 1 (2 ^ 64 - 2) m.number ≡ true
range_kept lengths m is = and_true (nat_le 1 m.number) (nat_le m.number (2 ^ 64 - 2)) (le-leb 1 m.number is.number) (le-leb m.number (2 ^ 64 - 2) is.most)

pub set_kept : (lengths : List ℕ) (m : Mark) → IsMark lengths m → nat_lt m.at.set (length lengths) ≡ true
set_kept lengths m is = lt-ltb m.at.set (length lengths) is.set

pub room_kept : (lengths : List ℕ) (m : Mark) → IsMark lengths m → has_spot lengths m.at.set m.at.place ≡ true
room_kept lengths m is = and_true (nat_lt m.at.set (length lengths)) (nat_le (m.at.place + 24) (slice_index lengths m.at.set)) (set_kept lengths m is) (le-leb (m.at.place + 24) (slice_index lengths m.at.set) is.room)

up_to : (n : ℕ) → n ≤ 1 → within 0 1 n ≡ true
up_to n le = and_true (nat_le 0 n) (nat_le n 1) (le-leb 0 n (omega arith)) (le-leb n 1 le)

flag_kept : (b : Bool) → within 0 1 (flag b) ≡ true
flag_kept true = refl
flag_kept false = refl

flag_read : (b : Bool) → nat_eq (flag b) 1 ≡ b
flag_read true = refl
flag_read false = refl

byte_again : (rule : ℕ → Bool) (place n : ℕ) (rest : List ℕ) → rule n ≡ true → number_at w8 rule (at_place place (n ∷ rest)) ≡ Ok (n, at_place (place + 1) rest)
unfolding number_at
byte_again rule place n rest kept =
    let long : nat_lt (length (n ∷ rest)) 1 ≡ false = le-ltb _ _ (omega arith) in
    rw (long, kept) refl

-- the fields of a mark one after another, nested as they are read
nested : (a n f : List ℕ) (b : ℕ) (s p k t g rest : List ℕ) → (a ++ n ++ f ++ b ∷ [] ++ s ++ p ++ k ++ t ++ g) ++ rest ≡ a ++ (n ++ (f ++ (b ∷ (s ++ (p ++ (k ++ (t ++ (g ++ rest))))))))
nested a n f b s p k t g rest = simp append_assoc refl

fields_again : (lengths : List ℕ) (place : ℕ) (m : Mark) (rest : List ℕ) → IsMark lengths m → IsInRange m
    → mark_at lengths (at_place place (codes "XCTL" ++ (to_be_bytes w64 m.number ++ (session_field m.session ++ (m.state_slot ∷ (to_be_bytes w16 m.at.set ++ (to_be_bytes w64 m.at.place ++ (to_be_bytes w64 m.at.number ++ (to_be_bytes w64 m.time.0 ++ (flag m.ended ∷ rest))))))))))
    ≡ Ok (m, at_place (place + 4 + 8 + 8 + 1 + 2 + 8 + 8 + 8 + 1) rest)
unfolding mark_at
fields_again lengths place m rest is range =
    let t8 = flag m.ended ∷ rest in
    let t7 = to_be_bytes w64 m.time.0 ++ t8 in
    let t6 = to_be_bytes w64 m.at.number ++ t7 in
    let t5 = to_be_bytes w64 m.at.place ++ t6 in
    let t4 = to_be_bytes w16 m.at.set ++ t5 in
    let t3 = m.state_slot ∷ t4 in
    let t2 = session_field m.session ++ t3 in
    let t1 = to_be_bytes w64 m.number ++ t2 in
    let name = fields_back 8 m.session range.session in
    let one = bytes_again 4 (bytes_eq (codes "XCTL")) place (codes "XCTL") t1 refl refl in
    let two = number_again w64 (2 ^ 64) wide64 (within 1 (2 ^ 64 - 2)) (place + 4) m.number t2 range.number (range_kept lengths m is) in
    let three = bytes_again 8 (is_field 8) (place + 4 + 8) (session_field m.session) t3 (length-name_field 8 m.session range.session) name.0 in
    let four = byte_again (within 0 1) (place + 4 + 8 + 8) m.state_slot t4 (up_to m.state_slot is.state_slot) in
    let five = number_again w16 (2 ^ 16) wide16 (λ n. nat_lt n (length lengths)) (place + 4 + 8 + 8 + 1) m.at.set t5 range.set (set_kept lengths m is) in
    let six = number_again w64 (2 ^ 64) wide64 (has_spot lengths m.at.set) (place + 4 + 8 + 8 + 1 + 2) m.at.place t6 range.place (room_kept lengths m is) in
    let seven = number_again w64 (2 ^ 64) wide64 (nat_le 1) (place + 4 + 8 + 8 + 1 + 2 + 8) m.at.number t7 range.next (le-leb 1 m.at.number is.next) in
    let eight = number_again w64 (2 ^ 64) wide64 (nat_le 1) (place + 4 + 8 + 8 + 1 + 2 + 8 + 8) m.time.0 t8 range.time (le-leb 1 m.time.0 is.time) in
    let nine = byte_again (within 0 1) (place + 4 + 8 + 8 + 1 + 2 + 8 + 8 + 8) (flag m.ended) rest (flag_kept m.ended) in
    rw (one, two, three, four, five, six, seven, eight, nine, flag_read m.ended, name.1) refl

pub marks_again : MarksReadBack
marks_again lengths place m rest is range =
    ap (λ (l : List ℕ). mark_at lengths (at_place place l)) (nested (codes "XCTL") (to_be_bytes w64 m.number) (session_field m.session) m.state_slot (to_be_bytes w16 m.at.set) (to_be_bytes w64 m.at.place) (to_be_bytes w64 m.at.number) (to_be_bytes w64 m.time.0) (flag m.ended ∷ []) rest)
    ∙ fields_again lengths place m rest is range
    ∙ ap (λ (k : ℕ). Ok (m, at_place k rest)) (omega arith)

pub length_is : (m : Mark) → IsInRange m → length (mark_spelling m) ≡ 48
length_is m range =
    let name = length-name_field 8 m.session range.session in
    ap length (nested_spelling m) ∙ omega (arith, name, length-append (session_field m.session) (back m))
  where
    back : Mark → List ℕ
    back m = m.state_slot ∷ (to_be_bytes w16 m.at.set ++ (to_be_bytes w64 m.at.place ++ (to_be_bytes w64 m.at.number ++ (to_be_bytes w64 m.time.0 ++ (flag m.ended ∷ [])))))

    nested_spelling : (m : Mark) → mark_spelling m ≡ codes "XCTL" ++ (to_be_bytes w64 m.number ++ (session_field m.session ++ back m))
    nested_spelling m = simp append_assoc refl

-- three parts of a mark's bytes, put one after the other
pub joined : (x : List ℕ) (b : ℕ) (s p n t g : List ℕ) → x ++ (b ∷ s ++ p ++ n ++ t ++ g) ≡ x ++ b ∷ [] ++ s ++ p ++ n ++ t ++ g
joined x b s p n t g = simp append_assoc refl
