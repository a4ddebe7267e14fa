-- Carried entries, and the groups that the forms of a history give.
use Rattle.std.specs.Prelude.{ℕ, ◌==◌, ◌&&◌, ◌||◌, not, List, [], ◌∷◌, ◌++◌, map, filter, Bool, false, Option, Some, None, is_none, nat_lt, nat_le}
use Rattle.std.specs.List.{list_all}
use Rattle.ckd_track.specs.declared.write.Kind.{Kind}
use Rattle.ckd_track.specs.declared.write.Write.{Write}
use Rattle.xrc_edge.specs.Order.{in_order}
use Rattle.cut_core.specs.Events.{Event}
use Rattle.cut_core.specs.Events.Event.{Join, Copied, Form, Drop}
use Rattle.cut_core.specs.Shares.{names_volume, share}

-- A carried entry: a joined write with what it does to its track, or a copied track, whose content the history doesn't hold.
pub record CarriedEntry : Type 0 where
  pub control : ℕ
  pub volume : ℕ
  pub track : ℕ
  pub stamp : ℕ
  pub kind : Option Kind

abbrev pub carried_entry : (control : ℕ) → Write → CarriedEntry
carried_entry k w = record { control = k; volume = w.volume; track = w.track; stamp = w.stamp.0; kind = Some w.kind }

abbrev pub copied_entry : (control volume track stamp : ℕ) → CarriedEntry
copied_entry k v x stamp = record { control = k; volume = v; track = x; stamp = stamp; kind = None }

abbrev pub is_copy : CarriedEntry → Bool
is_copy e = is_none e.kind

-- Of a joined batch those writes are carried whose volume is carried and whose track isn't wanted. A copied track is carried.
abbrev pub is_write_carried : List Event → (control : ℕ) → Write → Bool
is_write_carried past k w = let s = share k w.volume w.track past in s.is_carried && not s.is_wanted

abbrev pub carried_by : List Event → Event → List CarriedEntry
carried_by past (Join b) = map (carried_entry b.control) (filter (is_write_carried past b.control) b.writes)
carried_by past (Copied k v x s) = copied_entry k v x s ∷ []
carried_by past e = []

-- A form takes an entry with a stamp up to its cut, and a drop takes out those of its volume.
abbrev pub forms : CarriedEntry → Event → Bool
forms e (Form cut) = nat_le e.stamp cut
forms e other = false

abbrev pub drops : CarriedEntry → Event → Bool
drops e (Drop k v all) = names_volume k v e.control e.volume
drops e other = false

-- no later event has formed or dropped it
abbrev pub still_waits : List Event → CarriedEntry → Bool
still_waits later e = list_all (λ event. not (forms e event) && not (drops e event)) later

-- the carried entries that wait, in the order of the history: those of `later`, after the events before
abbrev pub waiting_in : (before later : List Event) → List CarriedEntry
waiting_in before [] = []
waiting_in before (e ∷ later) = filter (still_waits later) (carried_by before e) ++ waiting_in (before ++ e ∷ []) later

-- whether an entry stands before another by stamp and controller; entries of one stamp and controller stand by position
abbrev pub comes_before : CarriedEntry → CarriedEntry → Bool
comes_before a b = nat_lt a.stamp b.stamp || (a.stamp == b.stamp && nat_lt a.control b.control)

-- The group of a form after these events: the carried entries that no drop took out and no earlier form took, with a stamp
-- at most the cut, ordered by stamp, controller and position.
abbrev pub group : List Event → (cut : ℕ) → List CarriedEntry
group past cut = in_order comes_before (filter (λ e. nat_le e.stamp cut) (waiting_in [] past))
