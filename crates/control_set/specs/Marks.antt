-- A mark: the table that it keeps, the 48 bytes that spell it behind a slot's gate, and how they are read.
use Rattle.std.specs.Prelude.{ℕ, ◌+◌, ◌-◌, ◌^◌, ◌<◌, ◌≤◌, ◌==◌, ◌&&◌, List, [], ◌∷◌, ◌++◌, length, Bool, Result, Ok, nat_lt, nat_le, if◌then◌else◌, slice_index, bytes_eq, codes, IsTrue}
use Rattle.crash_plant.specs.declared.layout.TheConstants.{SWITCH}
use Rattle.std.specs.Int.{w8, w16, w64, to_be_bytes}
use Rattle.tod_stamp.specs.Fields.{◌>>=◌, Left, Bad, bytes_at, number_at, within}
use Rattle.tod_stamp.specs.Names.{is_session, session_field, is_field, before_spaces}
use Rattle.control_set.specs.declared.value.Mark.{Mark}

-- The table of a slot's fields. The lengths are those of the plant's journals. From the place of the next record there is room
-- for a switch in its journal. (The session is a name by its type.)
pub record IsMark (lengths : List ℕ) (m : Mark) : Type 0 where
  pub number : 1 ≤ m.number
  pub most : m.number ≤ 2 ^ 64 - 2
  pub state_slot : m.state_slot ≤ 1
  pub set : m.at.set < length lengths
  pub room : m.at.place + SWITCH ≤ slice_index lengths m.at.set
  pub next : 1 ≤ m.at.number
  pub time : 1 ≤ m.time.0

-- What every mark keeps by its type: the ranges of its numbers, and a session's name.
pub record IsInRange (m : Mark) : Type 0 where
  pub number : m.number < 2 ^ 64
  pub session : IsTrue (is_session m.session)
  pub state_slot : m.state_slot < 2 ^ 8
  pub set : m.at.set < 2 ^ 16
  pub place : m.at.place < 2 ^ 64
  pub next : m.at.number < 2 ^ 64
  pub time : m.time.0 < 2 ^ 64

-- the byte of a flag
abbrev pub flag : Bool → ℕ
flag b = if b then 1 else 0

-- the bytes of a mark, behind a gate
abbrev pub mark_spelling : Mark → List ℕ
mark_spelling m = codes "XCTL" ++ to_be_bytes w64 m.number ++ session_field m.session ++ m.state_slot ∷ [] ++ to_be_bytes w16 m.at.set
    ++ to_be_bytes w64 m.at.place ++ to_be_bytes w64 m.at.number ++ to_be_bytes w64 m.time.0 ++ flag m.ended ∷ []

-- whether there is room for a switch from this place on in this journal
abbrev pub has_spot : (lengths : List ℕ) → (set place : ℕ) → Bool
has_spot lengths set place = nat_lt set (length lengths) && nat_le (place + SWITCH) (slice_index lengths set)

-- The mark that the bytes begin with, field by field; each keeps its rule of the table.
unfoldable pub mark_at : (lengths : List ℕ) → Left → Result (Mark × Left) Bad
mark_at lengths left = do
  word ← bytes_at 4 (bytes_eq (codes "XCTL")) left
  number ← number_at w64 (within 1 (2 ^ 64 - 2)) word.1
  session ← bytes_at 8 (is_field 8) number.1
  state_slot ← number_at w8 (within 0 1) session.1
  set ← number_at w16 (λ n. nat_lt n (length lengths)) state_slot.1
  place ← number_at w64 (has_spot lengths set.0) set.1
  next ← number_at w64 (nat_le 1) place.1
  time ← number_at w64 (nat_le 1) next.1
  ended ← number_at w8 (within 0 1) time.1
  Ok (
    record {
      number = number.0;
      session = before_spaces session.0;
      state_slot = state_slot.0;
      at = record { set = set.0; place = place.0; number = next.0 };
      time = record { 0 = time.0 };
      ended = ended.0 == 1;
    },
    ended.1,
  )
