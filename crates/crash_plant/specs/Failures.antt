-- Calls that fail by plan.
use Rattle.std.specs.Prelude.{ℕ, zero, suc, Bool, true, false, cond, ◌&&◌, nat_eq, nat_le, List, [], ◌∷◌}
use Rattle.std.specs.Prelude.{Option, Some, None}
use Rattle.crash_plant.specs.declared.device.Device.{Device}
use Rattle.crash_plant.specs.declared.device.Device.TheVariants.{Control, State, Journal, Volume}
use Rattle.crash_plant.specs.declared.fail.Fail.{Fail}
use Rattle.crash_plant.specs.declared.fail_plan.Planned.{Planned}

abbrev pub is_zero : Option ℕ → Bool
is_zero None = false
is_zero (Some zero) = true
is_zero (Some (suc n)) = false

abbrev pub one_fewer : Option ℕ → Option ℕ
one_fewer None = None
one_fewer (Some zero) = None
one_fewer (Some (suc n)) = Some n

-- whether a call that is made when so many bytes are said is the one that fails
abbrev pub fails_now : ℕ → Planned → Bool
fails_now said p = nat_le p.said said && is_zero p.left

-- whether every later call fails too
abbrev pub is_stopping : ℕ → Planned → Bool
is_stopping said p = fails_now said p && p.stop

-- A failure after that call: the call counts once so many bytes are said as it names.
abbrev pub after_call : ℕ → Planned → Planned
after_call said p = record { said = p.said; left = cond (nat_le p.said said) (one_fewer p.left) p.left; stop = p.stop }

-- the same device, or the console both times
abbrev pub is_same : Option Device → Option Device → Bool
is_same None None = true
is_same None (Some d) = false
is_same (Some d) None = false
is_same (Some Control) (Some Control) = true
is_same (Some State) (Some State) = true
is_same (Some (Journal i)) (Some (Journal j)) = nat_eq i j
is_same (Some (Volume v)) (Some (Volume w)) = nat_eq v w
is_same (Some d) (Some e) = false

-- the failures of a list that are planned for a device or the console
abbrev pub planned_at : Option Device → List Fail → List Planned
planned_at at [] = []
planned_at at (fail ∷ fails) = cond (is_same fail.at at) (record { said = fail.said; left = Some fail.call; stop = fail.stop } ∷ planned_at at fails) (planned_at at fails)
