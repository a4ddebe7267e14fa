-- What 43 bytes of a slot are, and that a progress that is spelled is read again.
use Rattle.std.proofs.Common.{◌≡◌, ◌≢◌, ℕ, suc, ◌+◌, Bool, true, false, cond, nat_eq, nat_le, ◌&&◌, List, ◌∷◌, ◌++◌, length, take, drop, slice_index, get_or-take, Option, Some, None, refl, sym, ap, ◌∙◌, arith, length-append, append_assoc}
use Rattle.std.specs.Prelude.{codes}
use Rattle.std.specs.Int.{w32, w64, from_be_bytes, to_be_bytes}
use Rattle.std.proofs.lemmas.Bool.{le-leb, ne_eqb, eq-eqb}
use Rattle.std.proofs.lemmas.List.{take_at, drop_at, drop-drop}
use Rattle.std.specs.Prelude.{IsTrue}
use Rattle.tod_stamp.proofs.FieldLaws.{wide32, wide64}
use Rattle.tod_stamp.specs.Fields.{u32_at, u64_at}
use Rattle.tod_stamp.specs.Names.{before_spaces, is_field, name_in, serial_field, session_field}
use Rattle.tod_stamp.proofs.NameLaws.{and_true, fields_back, length-name_field}
use Rattle.copy_progress.specs.declared.progress.Progress.{Progress}
use Rattle.copy_progress.specs.Progresses.{IsProgress, IsProgressInRange, is_table_kept, primary_field_of, progress_in, progress_spelling, session_field_of}
use Rattle.copy_progress.specs.Slots.{slot_in, leading_progress}

-- a gate that isn't 1
shut_in : (bytes : List ℕ) → slice_index bytes 0 ≢ 1 → slot_in bytes ≡ None
shut_in bytes gate = by_length (nat_eq (length bytes) 43)
  where
    by_length : (b : Bool) → cond (b && (nat_eq (slice_index bytes 0) 1 && is_table_kept bytes)) (Some (progress_in bytes)) None ≡ None
    by_length true = ap (λ (t : Bool). cond (t && is_table_kept bytes) (Some (progress_in bytes)) None) (ne_eqb (slice_index bytes 0) 1 gate)
    by_length false = refl

pub closed_is : (bytes : List ℕ) → slice_index bytes 0 ≢ 1 → leading_progress bytes ≡ None
closed_is bytes gate = shut_in (take 43 bytes) (λ is. gate (sym (get_or-take 43 bytes 0 0 (omega arith)) ∙ is))

pub same_slot : (b c : List ℕ) → take 43 c ≡ take 43 b → leading_progress c ≡ leading_progress b
same_slot b c same = ap slot_in same

-- ---- what is spelled is read again

module _ (p : Progress) (is : IsProgress p) (range : IsProgressInRange p) where
  abbrev tail : List ℕ
  tail = to_be_bytes w32 p.tracks ++ to_be_bytes w32 p.next

  abbrev middle : List ℕ
  middle = to_be_bytes w64 p.time.0 ++ (serial_field p.primary ++ tail)

  abbrev nested : List ℕ
  nested = codes "XCPY" ++ (to_be_bytes w64 p.number ++ (session_field p.session ++ middle))

  pub nested_is : progress_spelling p ≡ nested
  nested_is = simp append_assoc refl

  session_long : length (session_field p.session) ≡ 8
  session_long = length-name_field 8 p.session range.session

  primary_long : length (serial_field p.primary) ≡ 6
  primary_long = length-name_field 6 p.primary range.primary

  pub length_is : length (progress_spelling p) ≡ 42
  length_is = ap length nested_is ∙ omega (arith, session_long, primary_long, length-append (session_field p.session) middle, length-append (serial_field p.primary) tail)

  -- a gate and the spelling
  abbrev window : List ℕ
  window = 1 ∷ nested

  behind_session : (k : ℕ) → drop (8 + k) (session_field p.session ++ middle) ≡ drop k middle
  behind_session k = sym (drop-drop k 8 (session_field p.session ++ middle)) ∙ ap (λ (l : List ℕ). drop k l) (drop_at (session_field p.session) middle 8 session_long)

  behind_primary : (k : ℕ) → drop (6 + k) (serial_field p.primary ++ tail) ≡ drop k tail
  behind_primary k = sym (drop-drop k 6 (serial_field p.primary ++ tail)) ∙ ap (λ (l : List ℕ). drop k l) (drop_at (serial_field p.primary) tail 6 primary_long)

  number_is : u64_at window 5 ≡ p.number
  number_is = wide64.again p.number range.number

  session_field_is : session_field_of window ≡ session_field p.session
  session_field_is = take_at (session_field p.session) middle 8 session_long

  time_is : u64_at window 21 ≡ p.time.0
  time_is = ap (λ (l : List ℕ). from_be_bytes w64 (take 8 l)) (behind_session 0) ∙ wide64.again p.time.0 range.time

  primary_field_is : primary_field_of window ≡ serial_field p.primary
  primary_field_is = ap (λ (l : List ℕ). take 6 l) (behind_session 8) ∙ take_at (serial_field p.primary) tail 6 primary_long

  tracks_is : u32_at window 35 ≡ p.tracks
  tracks_is = ap (λ (l : List ℕ). from_be_bytes w32 (take 4 l)) (behind_session 14 ∙ behind_primary 0) ∙ wide32.again p.tracks range.tracks

  next_is : u32_at window 39 ≡ p.next
  next_is = ap (λ (l : List ℕ). from_be_bytes w32 (take 4 l)) (behind_session 18 ∙ behind_primary 4) ∙ wide32.again p.next range.next

  session_again : IsTrue (is_field 8 (session_field p.session)) × (before_spaces (session_field p.session) ≡ p.session)
  session_again = fields_back 8 p.session range.session

  primary_again : IsTrue (is_field 6 (serial_field p.primary)) × (before_spaces (serial_field p.primary) ≡ p.primary)
  primary_again = fields_back 6 p.primary range.primary

  kept : is_table_kept window ≡ true
  kept = and_true _ _ refl (and_true _ _ (ap (λ (n : ℕ). nat_le 1 n) number_is ∙ le-leb 1 p.number is.number)
      (and_true _ _ (ap (λ (l : List ℕ). is_field 8 l) session_field_is ∙ session_again.0)
      (and_true _ _ (ap (λ (l : List ℕ). is_field 6 l) primary_field_is ∙ primary_again.0)
      (ap (λ (n : ℕ). nat_le n (u32_at window 35)) next_is ∙ ap (λ (n : ℕ). nat_le p.next n) tracks_is ∙ le-leb p.next p.tracks is.next))))

  progress_is : progress_in window ≡ p
  progress_is = λ i. record {
    number = number_is i;
    session = (ap before_spaces session_field_is ∙ session_again.1) i;
    time = record { 0 = time_is i };
    primary = (ap before_spaces primary_field_is ∙ primary_again.1) i;
    tracks = tracks_is i;
    next = next_is i;
  }

  window_is : (rest : List ℕ) → take 43 (1 ∷ progress_spelling p ++ rest) ≡ window
  window_is rest = ap (λ (l : List ℕ). 1 ∷ l) (take_at (progress_spelling p) rest 42 length_is ∙ nested_is)

  -- a progress behind an open gate
  pub whole : (rest : List ℕ) → leading_progress (1 ∷ progress_spelling p ++ rest) ≡ Some p
  whole rest = ap slot_in (window_is rest) ∙ ap (λ (b : Bool). cond b (Some (progress_in window)) None) (and_true _ _ (eq-eqb (length window) 43 (ap suc (sym (ap length nested_is) ∙ length_is))) kept) ∙ ap Some progress_is

-- the name in a field
by_valid : (b : Bool) (name n : List ℕ) → cond {A = Option (List ℕ)} b (Some name) None ≡ Some n → n ≡ name
by_valid true name n e = sym (some_is name n e)
  where
    some_is : (a b : List ℕ) → (let x : Option (List ℕ) = Some a in let y : Option (List ℕ) = Some b in x ≡ y) → a ≡ b
    some_is a b e = cc
by_valid false name n e = absurd cc

pub field_is : (width : ℕ) (bytes n : List ℕ) → name_in width bytes ≡ Some n → n ≡ before_spaces bytes
field_is width bytes n e = by_valid (nat_eq (length bytes) width && is_field width bytes) (before_spaces bytes) n e

-- a slot is its first 43 bytes
pub first_part : (bytes : List ℕ) → slot_in (take 43 bytes) ≡ leading_progress bytes
first_part bytes = refl
