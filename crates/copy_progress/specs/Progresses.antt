-- How far the copy of a pair has come: the table that a slot's fields keep, and the 42 bytes that spell them behind its gate.
use Rattle.std.specs.Prelude.{ℕ, ◌^◌, ◌<◌, ◌≤◌, ◌&&◌, List, ◌++◌, take, drop, slice_range, codes, Bool, nat_le, bytes_eq, IsTrue}
use Rattle.std.specs.Int.{w32, w64, to_be_bytes}
use Rattle.tod_stamp.specs.Fields.{u32_at, u64_at}
use Rattle.tod_stamp.specs.Names.{before_spaces, is_field, is_serial, is_session, serial_field, session_field}
use Rattle.copy_progress.specs.declared.progress.Progress.{Progress}

-- The table. (Session and primary are names by their types.)
pub record IsProgress (p : Progress) : Type 0 where
  pub number : 1 ≤ p.number
  pub next : p.next ≤ p.tracks

-- What each has by its types.
pub record IsProgressInRange (p : Progress) : Type 0 where
  pub number : p.number < 2 ^ 64
  pub session : IsTrue (is_session p.session)
  pub time : p.time.0 < 2 ^ 64
  pub primary : IsTrue (is_serial p.primary)
  pub tracks : p.tracks < 2 ^ 32
  pub next : p.next < 2 ^ 32

-- the bytes behind a gate
abbrev pub progress_spelling : Progress → List ℕ
progress_spelling p = codes "XCPY" ++ to_be_bytes w64 p.number ++ session_field p.session ++ to_be_bytes w64 p.time.0 ++ serial_field p.primary ++ to_be_bytes w32 p.tracks ++ to_be_bytes w32 p.next

-- ---- the fields of a slot at their places, the gate's first

abbrev pub session_field_of : List ℕ → List ℕ
session_field_of bytes = slice_range bytes 13 21

abbrev pub primary_field_of : List ℕ → List ℕ
primary_field_of bytes = slice_range bytes 29 35

-- the progress of these bytes, if they keep the table
abbrev pub progress_in : List ℕ → Progress
progress_in bytes = record {
  number = u64_at bytes 5;
  session = before_spaces (session_field_of bytes);
  time = record { 0 = u64_at bytes 21 };
  primary = before_spaces (primary_field_of bytes);
  tracks = u32_at bytes 35;
  next = u32_at bytes 39;
}

-- whether they keep it
abbrev pub is_table_kept : List ℕ → Bool
is_table_kept bytes = bytes_eq (codes "XCPY") (take 4 (drop 1 bytes)) && (nat_le 1 (u64_at bytes 5) && (is_field 8 (session_field_of bytes) && (is_field 6 (primary_field_of bytes) && nat_le (u32_at bytes 39) (u32_at bytes 35))))
