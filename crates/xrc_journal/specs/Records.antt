-- One record of a journal: its spelling behind a gate, and what stands at a spot by the rules on one record.
use Rattle.std.specs.Prelude.{ℕ, ◌+◌, ◌-◌, ◌^◌, ◌==◌, ◌&&◌, List, [], ◌∷◌, ◌++◌, length, take, drop, slice_index, Bool, Option, Some, None, Result, Ok, Err, nat_lt, nat_le, if◌then◌else◌}
use Rattle.crash_plant.specs.declared.layout.TheConstants.{FRONT, HEADER, SWITCH}
use Rattle.xrc_journal.specs.declared.layout.TheConstants.{MOST_BODY}
use Rattle.std.specs.Int.{w8, w16, w32, w64, to_be_bytes}
use Rattle.tod_stamp.specs.Fields.{◌>>=◌, Left, Bad, number_at, within}
use Rattle.crash_plant.specs.declared.spot.Spot.{Spot}
use Rattle.xrc_journal.specs.Items.{Item, Form, body_spelling}
use Rattle.xrc_journal.specs.Reading.{Items, items_at}

-- ---- the spelling

-- what stands between a gate and a body: kind, number, time and the body's length
abbrev pub record_header_spelling : (kind number time len : ℕ) → List ℕ
record_header_spelling kind number time len = kind ∷ to_be_bytes w64 number ++ to_be_bytes w64 time ++ to_be_bytes w32 len

-- what stands behind a gate
abbrev pub gated_record_spelling : (kind number time : ℕ) → (body : List ℕ) → List ℕ
gated_record_spelling kind number time body = record_header_spelling kind number time (length body) ++ body

-- A group has the kind 1, and a switch to another data set the kind 2.
abbrev pub group_spelling : (number time : ℕ) → List Item → List ℕ
group_spelling number time items = gated_record_spelling 1 number time (body_spelling items)

abbrev pub switch_spelling : (number time set : ℕ) → List ℕ
switch_spelling number time set = gated_record_spelling 2 number time (to_be_bytes w16 set)

-- ---- the header

-- the most bytes of a body
abbrev pub most_body : ℕ
most_body = MOST_BODY

-- the data set after one: one more, or 0 after the last
abbrev pub next_set : (sets set : ℕ) → ℕ
next_set sets set = if set + 1 == sets then 0 else set + 1

-- A group's body isn't longer than the most, and with room for a switch after it lies in the data set. A switch's has 2 bytes.
abbrev pub is_body_length : (size : ℕ) → Spot → (kind len : ℕ) → Bool
is_body_length size at kind len = if kind == 1 then nat_le len most_body && nat_le (at.place + FRONT + len + SWITCH) size else len == 2

-- kind, time and body length of a record
pub record RecordHead : Type 0 where
  pub kind : ℕ
  pub time : ℕ
  pub len : ℕ

-- The header of a record in a data set of so many bytes. The number is the expected one and isn't the last of all, and the
-- time isn't below that of the record before.
unfoldable pub record_head_at : (size : ℕ) → Spot → (last : ℕ) → Left → Result (RecordHead × Left) Bad
record_head_at size at last left = do
  kind ← number_at w8 (within 1 2) left
  number ← number_at w64 (λ n. n == at.number && nat_lt n (2 ^ 64 - 1)) kind.1
  time ← number_at w64 (nat_le last) number.1
  len ← number_at w32 (is_body_length size at kind.0) time.1
  Ok (record { kind = kind.0; time = time.0; len = len.0 }, len.1)

-- ---- a record

-- What stands at a spot: no record where the gate isn't 1; a group, or a switch, and the spot after it; or the first bad place
-- and the items before it.
pub data Found : Type 0 where
  End : Found
  Group : (time : ℕ) → (items : List Item) → (after : Spot) → Found
  Switch : (time : ℕ) → (after : Spot) → Found
  Damaged : (place : ℕ) → (items : List Item) → Found

-- the spot after a group, and after a switch
abbrev pub spot_after : Spot → (len : ℕ) → Spot
spot_after at len = record { set = at.set; place = at.place + FRONT + len; number = at.number + 1 }

abbrev pub spot_in : (set : ℕ) → Spot → Spot
spot_in set at = record { set = set; place = 0; number = at.number + 1 }

-- so many bytes from a place on
abbrev pub stretch : (from count : ℕ) → List ℕ → List ℕ
stretch from count bytes = take count (drop from bytes)

abbrev pub group_or : Spot → RecordHead → Items → Option ℕ → Found
group_or at head items None = Group head.time items.good (spot_after at head.len)
group_or at head items (Some place) = Damaged place items.good

-- A switch to another set than the next is bad at its gate.
abbrev pub switch_or : Spot → RecordHead → Result (ℕ × Left) Bad → Found
switch_or at head (Ok set) = Switch head.time (spot_in set.0 at)
switch_or at head (Err bad) = Damaged at.place []

abbrev pub group_of : Form → (journal : List ℕ) → Spot → RecordHead → Found
group_of form journal at head =
    let items = items_at form (at.place + FRONT) (stretch (at.place + FRONT) head.len journal) in
    group_or at head items items.bad

abbrev pub switch_of : (sets : ℕ) → (journal : List ℕ) → Spot → RecordHead → Found
switch_of sets journal at head = switch_or at head (number_at w16 (λ n. n == next_set sets at.set) (record { place = at.place + FRONT; bytes = stretch (at.place + FRONT) 2 journal }))

-- A bad header is bad at the gate.
abbrev pub record_or : Form → (sets : ℕ) → (journal : List ℕ) → Spot → Result (RecordHead × Left) Bad → Found
record_or form sets journal at (Ok head) = if head.0.kind == 1 then group_of form journal at head.0 else switch_of sets journal at head.0
record_or form sets journal at (Err bad) = Damaged at.place []

-- what stands at a spot of this data set, one of so many, where `last` is the time of the record before
unfoldable pub walk_one : Form → (sets : ℕ) → (journal : List ℕ) → (at : Spot) → (last : ℕ) → Found
walk_one form sets journal at last =
    if slice_index journal at.place == 1
    then record_or form sets journal at (record_head_at (length journal) at last (record { place = at.place + 1; bytes = stretch (at.place + 1) HEADER journal }))
    else End
