-- The machine's cut, the least of its limit and all live floors, is a legal cut, and the greatest one up to the limit.
use Rattle.std.specs.Prelude.{ℕ, ◌<◌, ◌≤◌, List, [], IsTrue}
use Rattle.cut_core.specs.Events.{Event, floor, is_live, last_cut}
use Rattle.cut_core.specs.Events.Event.{Form}
use Rattle.cut_core.specs.LegalHistories.{are_legal, is_legal_next, least_floor}

-- no floor of a live controller is below the last cut
abbrev pub FloorsAreAbove : Type 0
FloorsAreAbove = (controls : ℕ) (past : List Event) (k : ℕ) → IsTrue (are_legal controls [] past) → k < controls → IsTrue (is_live k past) → last_cut past ≤ floor k past

abbrev pub LeastIsLegal : Type 0
LeastIsLegal = (controls limit : ℕ) (past : List Event) → IsTrue (are_legal controls [] past) → last_cut past ≤ limit → IsTrue (is_legal_next controls past (Form (least_floor controls limit past)))

abbrev pub LeastIsGreatest : Type 0
LeastIsGreatest = (controls limit cut : ℕ) (past : List Event) → cut ≤ limit → IsTrue (is_legal_next controls past (Form cut)) → cut ≤ least_floor controls limit past
