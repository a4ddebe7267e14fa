-- Up to which limit groups are formed, and which of them are logged.
use Rattle.std.specs.Prelude.{ℕ, ◌==◌, ◌&&◌, ◌||◌, not, nat_lt, if◌then◌else◌, List, [], ◌∷◌, Bool, true, false}
use Rattle.std.specs.List.{list_any}
use Rattle.pair_table.specs.declared.row.PairRow.{PairRow}
use Rattle.pending_queue.specs.Groups.{FormedGroup}
use Rattle.group_state.specs.Machine.{Call}
use Rattle.group_state.specs.Machine.Call.{Join, NextWanted, Copied, Raise, Break, Form, Carry, Drop, Resume, Forget}
use Rattle.group_state.specs.Runs.{Answer}
use Rattle.record_rows.specs.GroupRows.{is_shown_done}
use Rattle.pair_table.specs.States.{is_settled}

-- A row that is pending or copying becomes duplex with a group.
abbrev pub matures : FormedGroup → PairRow → Bool
matures group r = not (is_settled r.state) && is_shown_done group r

abbrev pub are_none : {A : Type 0} → List A → Bool
are_none [] = true
are_none (x ∷ xs) = false

-- A group is logged where its cut is above the time that is meant; at that time where it has an entry or a break, or makes a pair duplex.
abbrev pub is_to_log : FormedGroup → (time : ℕ) → List PairRow → Bool
is_to_log group time rows =
    if group.cut.0 == time then not (are_none group.entries && are_none group.breaks) || list_any (matures group) rows else nat_lt time group.cut.0

-- ---- forms

abbrev pub takes_limit : (limit : ℕ) → Call → Bool
takes_limit limit (Join b) = true
takes_limit limit (NextWanted k) = true
takes_limit limit (Copied k v x at slot) = true
takes_limit limit (Raise k upto) = true
takes_limit limit (Break k upto cause) = true
takes_limit limit (Form given) = given.0 == limit
takes_limit limit (Carry k v plan) = true
takes_limit limit (Drop k v all) = true
takes_limit limit (Resume k v) = true
takes_limit limit (Forget k v) = true

-- where a call is a form, its limit is this one
abbrev pub is_at_limit : (limit : ℕ) → Answer → Bool
is_at_limit limit answer = takes_limit limit answer.call
