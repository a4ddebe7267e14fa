-- What the map of a dropped volume holds, said of the history alone.
use Rattle.std.specs.Prelude.{◌≡◌, ℕ, ◌==◌, ◌&&◌, ◌||◌, not, List, [], ◌∷◌, ◌++◌, Bool, false, IsTrue}
use Rattle.std.specs.List.{list_any}
use Rattle.cut_core.specs.Events.{Event}
use Rattle.cut_core.specs.Events.Event.{Join, Drop, Carry, Resume, Forget}
use Rattle.cut_core.specs.Shares.{names_volume, share}
use Rattle.cut_core.specs.Groups.{waiting_in}
use Rattle.cut_core.specs.LegalHistories.{are_legal}
use Rattle.cut_core.specs.Waiting.{waits_on}

-- an event by which a dropped volume is carried again or forgotten
abbrev pub ends_drop : (k v : ℕ) → Event → Bool
ends_drop k v (Carry j u tracks) = names_volume j u k v
ends_drop k v (Resume j u) = names_volume j u k v
ends_drop k v (Forget j u) = names_volume j u k v
ends_drop k v e = false

abbrev pub drops_all : (k v : ℕ) → Event → Bool
drops_all k v (Drop j u all) = names_volume j u k v && all
drops_all k v e = false

abbrev pub joins_on : (k v x : ℕ) → Event → Bool
joins_on k v x (Join b) = b.control == k && list_any (λ w. w.volume == v && w.track == x) b.writes
joins_on k v x e = false

-- A carried volume is dropped, and neither carried nor forgotten since. Its map holds every track where a drop said `all`, else
-- exactly the tracks of its entries that waited when it was dropped, and of its writes joined since.
abbrev pub MapsHold : Type 0
MapsHold = (controls k v x : ℕ) (before since : List Event) (all : Bool) → IsTrue (are_legal controls [] (before ++ Drop k v all ∷ since))
    → IsTrue (share k v x before).is_carried → IsTrue (not (list_any (ends_drop k v) since))
    → (share k v x (before ++ Drop k v all ∷ since)).is_mapped
    ≡ (list_any (drops_all k v) (Drop k v all ∷ since) || (list_any (waits_on k v x) (waiting_in [] before) || list_any (joins_on k v x) since))
