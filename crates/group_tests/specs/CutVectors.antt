-- What worked histories name.
use Rattle.std.specs.Prelude.{ℕ, List, [], ◌∷◌}
use Rattle.ckd_track.specs.declared.write.Kind.TheVariants.{Whole}
use Rattle.ckd_track.specs.declared.write.Write.{Write}
use Rattle.cut_core.specs.Events.{Event}
use Rattle.cut_core.specs.Events.Event.{Join, Carry, Raise}
use Rattle.cut_core.specs.Groups.{CarriedEntry, carried_entry}

-- a write on volume 0 that empties the track
abbrev pub whole_on : (track stamp : ℕ) → Write
whole_on track stamp = record { volume = 0; track = track; stamp = record { 0 = stamp }; kind = Whole [] }

abbrev pub join : (control : ℕ) → List Write → (upto : ℕ) → Event
join control writes upto = Join (record { control = control; writes = writes; upto = record { 0 = upto } })

-- the carried entry of such a write
abbrev pub written_entry : (control track stamp : ℕ) → CarriedEntry
written_entry k track stamp = carried_entry k (whole_on track stamp)

-- Two controllers, of which the first carries its volume 0 and has writes of 10 and 20; the second has reported up to 15.
abbrev pub two_controls_past : List Event
two_controls_past = Carry 0 0 [] ∷ join 0 (whole_on 0 0x10 ∷ []) 0x1F ∷ join 0 (whole_on 1 0x20 ∷ []) 0x40 ∷ Raise 1 0x15 ∷ []

-- Two controllers whose writes have one stamp; those of the second join first.
abbrev pub equal_stamps : List Event
equal_stamps = Carry 0 0 [] ∷ Carry 1 0 [] ∷ join 1 (whole_on 5 0x10 ∷ whole_on 4 0x10 ∷ []) 0x10 ∷ join 0 (whole_on 7 0x10 ∷ []) 0x10 ∷ []
