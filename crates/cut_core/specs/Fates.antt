-- Each carried entry of a controller is formed once, dropped, or still waits, and order is kept.
use Rattle.std.specs.Prelude.{◌≡◌, ℕ, ◌==◌, ◌&&◌, not, List, [], ◌∷◌, ◌++◌, filter, Bool, IsTrue}
use Rattle.cut_core.specs.Events.{Event}
use Rattle.cut_core.specs.Events.Event.{Form}
use Rattle.cut_core.specs.Groups.{CarriedEntry, carried_by, waiting_in, group}
use Rattle.cut_core.specs.LegalHistories.{are_legal}
use Rattle.cut_core.specs.Cuts.{is_dropped_in}

abbrev pub is_of_control : (control : ℕ) → CarriedEntry → Bool
is_of_control k e = e.control == k

-- the group that an event gives after those before
abbrev pub group_by : List Event → Event → List CarriedEntry
group_by past (Form cut) = group past cut
group_by past e = []

-- the controller's part of the groups that the later forms give, one after another
abbrev pub formed_in : (control : ℕ) → (before later : List Event) → List CarriedEntry
formed_in k before [] = []
formed_in k before (event ∷ later) = filter (is_of_control k) (group_by before event) ++ formed_in k (before ++ event ∷ []) later

-- its entries that the later part carries, without those that a drop takes out before a form does
abbrev pub kept_in : (control : ℕ) → (before later : List Event) → List CarriedEntry
kept_in k before [] = []
kept_in k before (event ∷ later) = filter (λ e. is_of_control k e && not (is_dropped_in later e)) (carried_by before event) ++ kept_in k (before ++ event ∷ []) later

-- In every legal history a controller's part of the groups, and after it what waits, are its carried entries without the dropped
-- ones, in order, each once.
abbrev pub EachOnce : Type 0
EachOnce = (controls k : ℕ) (past : List Event) → IsTrue (are_legal controls [] past) → formed_in k [] past ++ filter (is_of_control k) (waiting_in [] past) ≡ kept_in k [] past
