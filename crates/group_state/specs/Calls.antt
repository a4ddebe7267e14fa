-- Who makes a call on the shared state, and whether its controller still reports after it.
use Rattle.std.specs.Prelude.{ℕ, ◌==◌, Bool, true, false}
use Rattle.group_state.specs.Machine.{Call}
use Rattle.group_state.specs.Machine.Call.{Join, NextWanted, Copied, Raise, Break, Form, Carry, Drop, Resume, Forget}

-- a call of controller k's reader
abbrev pub is_by_reader : (control : ℕ) → Call → Bool
is_by_reader k (Join b) = b.control == k
is_by_reader k (NextWanted j) = j == k
is_by_reader k (Copied j v x at slot) = j == k
is_by_reader k (Raise j upto) = j == k
is_by_reader k (Break j upto cause) = j == k
is_by_reader k (Form limit) = false
is_by_reader k (Carry j v plan) = false
is_by_reader k (Drop j v all) = false
is_by_reader k (Resume j v) = false
is_by_reader k (Forget j v) = false

abbrev pub is_by_mover : Call → Bool
is_by_mover (Join b) = false
is_by_mover (NextWanted k) = false
is_by_mover (Copied k v x at slot) = false
is_by_mover (Raise k upto) = false
is_by_mover (Break k upto cause) = false
is_by_mover (Form limit) = true
is_by_mover (Carry k v plan) = false
is_by_mover (Drop k v all) = true
is_by_mover (Resume k v) = false
is_by_mover (Forget k v) = false

-- Between two tables the mover makes the other calls on the state itself.
abbrev pub is_by_seat : Call → Bool
is_by_seat (Carry k v plan) = false
is_by_seat (Resume k v) = false
is_by_seat (Forget k v) = false
is_by_seat call = true

-- whether a controller still reports after a call of its reader
abbrev pub reporting_after : Call → (reporting : Bool) → Bool
reporting_after (Join b) reporting = reporting
reporting_after (NextWanted k) reporting = reporting
reporting_after (Copied k v x at slot) reporting = reporting
reporting_after (Raise k upto) reporting = reporting
reporting_after (Break k upto cause) reporting = false
reporting_after (Form limit) reporting = reporting
reporting_after (Carry k v plan) reporting = reporting
reporting_after (Drop k v all) reporting = reporting
reporting_after (Resume k v) reporting = reporting
reporting_after (Forget k v) reporting = reporting
