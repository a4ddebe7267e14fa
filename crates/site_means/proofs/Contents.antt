-- The content of tracks, changed by the items of a walk.
use Rattle.std.proofs.Common.{◌≡◌, List, [], ◌∷◌, ◌++◌, sym, ap, ◌∙◌, append_assoc, append-nil}
use Rattle.std.specs.List.{flat_map}
use Rattle.xrc_journal.specs.Items.{Item}
use Rattle.xrc_journal.specs.Walks.{Logged}

pub items_last : (groups : List Logged) (g : Logged) → flat_map (λ (k : Logged). k.items) (groups ++ g ∷ []) ≡ flat_map (λ (k : Logged). k.items) groups ++ g.items
items_last [] g = append-nil g.items
items_last (h ∷ groups) g = ap (λ (l : List Item). h.items ++ l) (items_last groups g) ∙ sym (append_assoc h.items (flat_map (λ (k : Logged). k.items) groups) g.items)
