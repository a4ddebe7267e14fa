-- The fields of a slot at their places, the gate's first.
use Rattle.std.specs.Prelude.{ℕ, ◌-◌, ◌^◌, ◌==◌, ◌&&◌, List, take, drop, length, slice_index, codes, Bool, nat_lt, nat_le, bytes_eq}
use Rattle.tod_stamp.specs.Fields.{within, u16_at, u64_at}
use Rattle.tod_stamp.specs.Names.{is_field, before_spaces}
use Rattle.control_set.specs.declared.value.Mark.{Mark}
use Rattle.control_set.specs.Marks.{has_spot}

abbrev pub session_at : List ℕ → List ℕ
session_at bytes = take 8 (drop 13 bytes)

-- the mark of these bytes, if they keep the table
abbrev pub mark_in : List ℕ → Mark
mark_in bytes = record {
  number = u64_at bytes 5;
  session = before_spaces (session_at bytes);
  state_slot = slice_index bytes 21;
  at = record { set = u16_at bytes 22; place = u64_at bytes 24; number = u64_at bytes 32 };
  time = record { 0 = u64_at bytes 40 };
  ended = slice_index bytes 48 == 1;
}

-- whether they keep it
abbrev pub keeps : (lengths : List ℕ) → List ℕ → Bool
keeps lengths bytes =
    bytes_eq (codes "XCTL") (take 4 (drop 1 bytes)) && (within 1 (2 ^ 64 - 2) (u64_at bytes 5) && (is_field 8 (session_at bytes) && (within 0 1 (slice_index bytes 21) && (nat_lt (u16_at bytes 22) (length lengths)
    && (has_spot lengths (u16_at bytes 22) (u64_at bytes 24) && (nat_le 1 (u64_at bytes 32) && (nat_le 1 (u64_at bytes 40) && within 0 1 (slice_index bytes 48))))))))
