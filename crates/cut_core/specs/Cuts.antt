-- The theorem on cuts, over histories alone.
use Rattle.std.specs.Prelude.{◌≡◌, ℕ, ◌&&◌, ◌||◌, not, List, [], ◌∷◌, ◌++◌, filter, Bool, true, false, nat_lt, nat_le, IsTrue}
use Rattle.std.specs.List.{list_all}
use Rattle.xrc_edge.specs.Order.{in_order}
use Rattle.cut_core.specs.Events.{Event, last_cut}
use Rattle.cut_core.specs.LegalHistories.{are_legal}
use Rattle.cut_core.specs.Events.Event.{Join, Form}
use Rattle.cut_core.specs.Groups.{CarriedEntry, is_copy, carried_by, forms, drops, group, comes_before}

-- ---- no later write

-- an event joins no write with a stamp up to the cut
abbrev pub joins_above : (cut : ℕ) → Event → Bool
joins_above c (Join b) = list_all (λ w. nat_lt c w.stamp.0) b.writes
joins_above c e = true

-- In every legal history no join after a form has a write with a stamp at most the form's cut.
abbrev pub NoLateWrite : Type 0
NoLateWrite = (controls : ℕ) (before later : List Event) (cut : ℕ) →
    IsTrue (are_legal controls [] (before ++ Form cut ∷ later)) → IsTrue (list_all (joins_above cut) later)

-- ---- groups are complete

-- whether a later drop takes the entry out, before a form takes it
abbrev pub is_dropped_in : List Event → CarriedEntry → Bool
is_dropped_in [] e = false
is_dropped_in (event ∷ later) e = drops e event || (not (forms e event) && is_dropped_in later e)

-- the carried writes, joined anywhere, that weren't dropped
abbrev pub kept_writes : (before later : List Event) → List CarriedEntry
kept_writes before [] = []
kept_writes before (event ∷ later) =
    filter (λ e. not (is_copy e) && not (is_dropped_in later e)) (carried_by before event) ++ kept_writes (before ++ event ∷ []) later

-- The writes of a form's group are exactly all carried writes that are joined anywhere in the history, weren't dropped, and
-- have a stamp above the cut before and at most this one.
abbrev pub GroupsAreComplete : Type 0
GroupsAreComplete = (controls : ℕ) (before later : List Event) (cut : ℕ) → IsTrue (are_legal controls [] (before ++ Form cut ∷ later)) →
    filter (λ e. not (is_copy e)) (group before cut)
    ≡ in_order comes_before (filter (λ e. nat_lt (last_cut before) e.stamp && nat_le e.stamp cut) (kept_writes [] (before ++ Form cut ∷ later)))

-- A copied track of a form's group has a stamp from the cut before to this one.
abbrev pub CopiesAreBetween : Type 0
CopiesAreBetween = (controls : ℕ) (before later : List Event) (cut : ℕ) → IsTrue (are_legal controls [] (before ++ Form cut ∷ later)) →
    IsTrue (list_all (λ e. nat_le (last_cut before) e.stamp && nat_le e.stamp cut) (filter is_copy (group before cut)))
