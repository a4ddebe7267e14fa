-- The parts of a line: what is read stands in front of what is left, and what stands in front is read.
use Rattle.std.proofs.Common.{◌≡◌, ℕ, ◌+◌, ◌≤◌, Bool, true, false, not, cond, nat_eq, nat_lt, List, [], ◌∷◌, ◌++◌, length, take, drop, Option, Some, None, Result, Ok, Err, refl, sym, ap, subst, ◌∙◌, arith, inl, inr, length-append, suc, add-one}
use Rattle.std.specs.Prelude.{bytes_eq, codes}
use Rattle.std.specs.List.{position, position_or_len, list_all}
use Rattle.std.specs.Option.{option_map}
use Rattle.std.proofs.lemmas.Bool.{cases_Bool, ltb-true, lt-ltb, le-ltb, eqb-true, eq-eqb}
use Rattle.std.proofs.lemmas.List.{take_at, drop_at, take-append-drop}
use Rattle.std.proofs.lemmas.List.Quantifiers.{position-Some}
use Rattle.std.proofs.Math.Seq.{split_at as cut_around}
use Rattle.std.proofs.lemmas.Slice.Eq.{bytes_eq-Decides}
use Rattle.tod_stamp.specs.declared.name_error.NameError.{NameError}
use Rattle.tod_stamp.specs.declared.stamp.Stamp.{Stamp}
use Rattle.tod_stamp.specs.declared.stamp.StampError.{StampError}
use Rattle.tod_stamp.specs.declared.stamp.StampError.TheVariants.{Length}
use Rattle.tod_stamp.specs.Names.{is_name_char, is_name, is_serial, is_session, name_of}
use Rattle.tod_stamp.specs.Fields.{first_place}
use Rattle.tod_stamp.specs.Stamps.{stamp_of_digits, first_other, is_hex}
use Rattle.tod_stamp.proofs.NameLaws.{both_true, names_are_read, read_are_names}
use Rattle.xrc_command.specs.Reading.{text_at, time_at, positive_before, parted_at, split_at, before_space, from_space, read_name, serial_of, session_of}
use Rattle.tod_stamp.specs.Options.{◌>>=◌}

-- ---- steps

-- the value of a step that read something
pub bind_some : {A B : Type 0} (o : Option A) (f : A → Option B) (y : B) → (o >>= f) ≡ Some y → (x : A) × (o ≡ Some x) × (f x ≡ Some y)
bind_some (Some x) f y e = (x, refl, e)
bind_some None f y e = absurd cc

pub map_some : {A B : Type 0} (f : A → B) (o : Option A) (y : B) → option_map f o ≡ Some y → (x : A) × (o ≡ Some x) × (f x ≡ y)
map_some f (Some x) y e = (x, refl, cc)
map_some f None y e = absurd cc

-- a test that was passed
pub allow_some : {A : Type 0} (b : Bool) (o : Option A) (y : A) → cond b o None ≡ Some y → (b ≡ true) × (o ≡ Some y)
allow_some true o y e = (refl, e)
allow_some false o y e = absurd cc

deny_some : {A : Type 0} (b : Bool) (o : Option A) (y : A) → cond b None o ≡ Some y → (b ≡ false) × (o ≡ Some y)
deny_some true o y e = absurd cc
deny_some false o y e = (refl, e)

-- what follows from either side of a test
pub first_or : {A P : Type 0} (b : Bool) (x y : Option A) (z : A) → cond b x y ≡ Some z → (b ≡ true → x ≡ Some z → P) → (y ≡ Some z → P) → P
first_or true x y z e first second = first refl e
first_or false x y z e first second = second e

-- ---- texts

pub text_takes : (expected text rest : List ℕ) → text_at expected text ≡ Some rest → text ≡ expected ++ rest
unfolding text_at
text_takes expected text rest e =
    let found = allow_some (bytes_eq (take (length expected) text) expected) (Some (drop (length expected) text)) rest e in
    let front = (bytes_eq-Decides (take (length expected) text) expected).0 found.0 in
    let left : drop (length expected) text ≡ rest = (let h = found.1 in cc) in
    sym (take-append-drop (length expected) text) ∙ ap (λ (t : List ℕ). t ++ drop (length expected) text) front ∙ ap (λ (t : List ℕ). expected ++ t) left

pub text_again : (expected rest : List ℕ) → text_at expected (expected ++ rest) ≡ Some rest
unfolding text_at
text_again expected rest =
    rw (take_at expected rest (length expected) refl, drop_at expected rest (length expected) refl, (bytes_eq-Decides expected expected).1 refl) refl

-- ---- times

positive_some : (rest : List ℕ) (r : Result Stamp StampError) (y : Stamp × List ℕ) → positive_before rest r ≡ Some y → (time : Stamp) × (r ≡ Ok time) × (1 ≤ time.0) × ((time, rest) ≡ y)
positive_some rest (Ok time) y e =
    let found = allow_some (nat_lt 0 time.0) (Some (time, rest)) y e in
    let some = ltb-true 0 time.0 found.0 in
    (time, refl, omega (arith, some), (let h = found.1 in cc))
positive_some rest (Err error) y e = absurd cc

-- a time, and the bytes that spell it
pub record IsTimed (bytes : List ℕ) (time : Stamp) (rest : List ℕ) : Type 0 where
  pub digits : List ℕ
  pub parts : bytes ≡ digits ++ (codes " " ++ rest)
  pub reads : stamp_of_digits digits ≡ Ok time
  pub positive : 1 ≤ time.0

pub time_takes : (bytes : List ℕ) (time : Stamp) (rest : List ℕ) → time_at bytes ≡ Some (time, rest) → IsTimed bytes time rest
unfolding time_at
time_takes bytes time rest e =
    let long = deny_some (nat_lt (length bytes) 16) (text_at (codes " ") (drop 16 bytes) >>= λ text. positive_before text (stamp_of_digits (take 16 bytes))) (time, rest) e in
    let text = bind_some (text_at (codes " ") (drop 16 bytes)) (λ text. positive_before text (stamp_of_digits (take 16 bytes))) (time, rest) long.1 in
    let found = positive_some text.0 (stamp_of_digits (take 16 bytes)) (time, rest) text.2 in
    record {
      digits = take 16 bytes;
      parts = sym (take-append-drop 16 bytes) ∙ ap (λ (t : List ℕ). take 16 bytes ++ t) (text_takes (codes " ") (drop 16 bytes) text.0 text.1)
          ∙ ap (λ (y : Stamp × List ℕ). take 16 bytes ++ (codes " " ++ y.1)) found.3;
      reads = found.1 ∙ ap (λ (y : Stamp × List ℕ). Ok y.0) found.3;
      positive = subst (λ (y : Stamp × List ℕ). 1 ≤ y.0.0) found.3 found.2;
    }

-- a time has 16 digits
pub digits_length : (digits : List ℕ) (time : Stamp) → stamp_of_digits digits ≡ Ok time → length digits ≡ 16
digits_length digits time e = choose (nat_eq (length digits) 16) refl e
  where
    choose : (b : Bool) → nat_eq (length digits) 16 ≡ b → cond b (first_other digits (first_place (λ c. not (is_hex c)) 0 digits)) (Err Length) ≡ Ok time → length digits ≡ 16
    choose true same f = eqb-true (length digits) 16 same
    choose false other f = absurd cc

pub time_again : (digits rest : List ℕ) (time : Stamp) → stamp_of_digits digits ≡ Ok time → 1 ≤ time.0 → time_at (digits ++ (codes " " ++ rest)) ≡ Some (time, rest)
unfolding time_at
time_again digits rest time e some =
    let len = digits_length digits time e in
    let long : nat_lt (length (digits ++ (codes " " ++ rest))) 16 ≡ false = le-ltb _ _ (omega (arith, length-append digits (codes " " ++ rest))) in
    let positive : nat_lt 0 time.0 ≡ true = lt-ltb 0 time.0 (omega (arith, some)) in
    rw (long, take_at digits (codes " " ++ rest) 16 len, drop_at digits (codes " " ++ rest) 16 len, text_again (codes " ") rest, e, positive) refl

-- ---- up to a byte

pub split_takes : (end : ℕ) (text name rest : List ℕ) → split_at end text ≡ Some (name, rest) → text ≡ name ++ end ∷ rest
unfolding split_at
split_takes end text name rest e = choose (position (λ byte. nat_eq byte end) text) refl e
  where
    choose : (o : Option ℕ) → position (λ byte. nat_eq byte end) text ≡ o → parted_at text o ≡ Some (name, rest) → text ≡ name ++ end ∷ rest
    choose None is f = absurd cc
    choose (Some place) is f =
        let at = position-Some (λ byte. nat_eq byte end) text place 0 is in
        let parts : (take place text, drop (place + 1) text) ≡ (name, rest) = cc in
        let whole : text ≡ take place text ++ end ∷ drop (place + 1) text =
        cut_around text place 0 at.0 ∙ ap (λ b. take place text ++ b ∷ drop (suc place) text) (eqb-true _ end at.1) ∙ ap (λ n. take place text ++ end ∷ drop n text) (sym (add-one place)) in
        subst (λ (y : List ℕ × List ℕ). text ≡ y.0 ++ end ∷ y.1) parts whole

-- a byte that is no character of a name isn't in one
other_byte : (c end : ℕ) → is_name_char c ≡ true → is_name_char end ≡ false → nat_eq c end ≡ false
other_byte c end e f =
    elim (cases_Bool (nat_eq c end)) [
      | inl same ↦ absurd (clash (is_name_char end) (subst (λ d. is_name_char d ≡ true) (eqb-true c end same) e) f)
      | inr other ↦ other
    ]
  where
    clash : (b : Bool) → b ≡ true → b ≡ false → ⊥
    clash b e f = cc

-- The first such byte after a name is the rest's.
stops_there : (end : ℕ) (name rest : List ℕ) → list_all is_name_char name ≡ true → is_name_char end ≡ false → position_or_len (λ byte. nat_eq byte end) rest ≡ 0
    → position_or_len (λ byte. nat_eq byte end) (name ++ rest) ≡ length name
stops_there end [] rest e f first = first
stops_there end (c ∷ name) rest e f first =
    let parts = both_true (is_name_char c) (list_all is_name_char name) e in
    rw (other_byte c end parts.0 f) (ap (λ n. 1 + n) (stops_there end name rest parts.1 f first) ∙ one_more (length name))
  where
    one_more : (n : ℕ) → 1 + n ≡ suc n
    one_more n = omega arith

drop_past : (b : ℕ) (name rest : List ℕ) → drop (suc (length name)) (name ++ b ∷ rest) ≡ rest
drop_past b [] rest = refl
drop_past b (c ∷ name) rest = drop_past b name rest

pub split_again : (end : ℕ) (name rest : List ℕ) → list_all is_name_char name ≡ true → is_name_char end ≡ false → split_at end (name ++ end ∷ rest) ≡ Some (name, rest)
unfolding split_at
split_again end name rest e f =
    let there = stops_there end name (end ∷ rest) e f (rw (eq-eqb end end refl) refl) in
    let within : nat_lt (length name) (length (name ++ end ∷ rest)) ≡ true = lt-ltb _ _ (omega (arith, length-append name (end ∷ rest))) in
    rw (there, within, add-one (length name), take_at name (end ∷ rest) (length name) refl, drop_past end name rest) refl

-- ---- up to a space

pub space_parts : (text : List ℕ) → text ≡ before_space text ++ from_space text
unfolding before_space from_space
space_parts text = sym (take-append-drop (position_or_len (λ byte. nat_eq byte 32) text) text)

pub before_again : (name operand : List ℕ) → list_all is_name_char name ≡ true → position_or_len (λ byte. nat_eq byte 32) operand ≡ 0 → before_space (name ++ operand) ≡ name
unfolding before_space
before_again name operand e first = rw (stops_there 32 name operand e refl first) (take_at name operand (length name) refl)

pub from_again : (name operand : List ℕ) → list_all is_name_char name ≡ true → position_or_len (λ byte. nat_eq byte 32) operand ≡ 0 → from_space (name ++ operand) ≡ operand
unfolding from_space
from_again name operand e first = rw (stops_there 32 name operand e refl first) (drop_at name operand (length name) refl)

-- ---- names

name_takes : (most : ℕ) (bytes name : List ℕ) → read_name (name_of most bytes) ≡ Some name → (name ≡ bytes) × (is_name most name ≡ true)
name_takes most bytes name e = choose (name_of most bytes) refl e
  where
    choose : (r : Result (List ℕ) NameError) → name_of most bytes ≡ r → read_name r ≡ Some name → (name ≡ bytes) × (is_name most name ≡ true)
    choose (Ok found) is f = read_are_names most bytes name (let same : found ≡ name = cc in is ∙ ap Ok same)
    choose (Err error) is f = absurd cc

pub serial_takes : (bytes name : List ℕ) → serial_of bytes ≡ Some name → (name ≡ bytes) × (is_serial name ≡ true)
unfolding serial_of
serial_takes bytes name e = name_takes 6 bytes name e

pub serial_again : (name : List ℕ) → is_serial name ≡ true → serial_of name ≡ Some name
unfolding serial_of
serial_again name e = rw (names_are_read 6 name e) refl

pub session_takes : (bytes name : List ℕ) → session_of bytes ≡ Some name → (name ≡ bytes) × (is_session name ≡ true)
unfolding session_of
session_takes bytes name e = name_takes 8 bytes name e

pub session_again : (name : List ℕ) → is_session name ≡ true → session_of name ≡ Some name
unfolding session_of
session_again name e = rw (names_are_read 8 name e) refl
