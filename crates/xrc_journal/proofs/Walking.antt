-- Walks: there is one from a spot, and it depends on no byte behind the gate that ends it.
use Rattle.std.proofs.Common.{◌≡◌, ◌≢◌, ℕ, ◌≤◌, List, [], ◌∷◌, length, take, slice_index, refl, sym, ap, subst, ◌∙◌, arith}
use Rattle.crash_plant.specs.declared.spot.Spot.{Spot}
use Rattle.xrc_journal.specs.Items.{Item, Form}
use Rattle.xrc_journal.specs.Records.{walk_one}
use Rattle.xrc_journal.specs.Records.Found.{End, Group}
use Rattle.xrc_journal.specs.Walks.{Logged, Walks}
use Rattle.xrc_journal.specs.Laws.{WalksAreOne}
use Rattle.xrc_journal.proofs.RecordsRead.{group_found, found_group, found_again, shut_is_end}

-- no walk goes back
pub walk_forth : (form : Form) (sets : ℕ) (b : List ℕ) (from to : Spot) (last time : ℕ) (groups : List Logged) → Walks form sets b from last groups to time → from.place ≤ to.place
walk_forth form sets b from to last time [] w = omega (arith, ap (λ (s : Spot). s.place) w.1)
walk_forth form sets b from to last time (g ∷ groups) w =
    let f = group_found form sets b from last g.time g.items w.0 w.1 in
    omega (arith, ap (λ (s : Spot). s.place) f.after_is, walk_forth form sets b w.0 to g.time time groups w.2)

-- the first group of a walk in bytes that are the same up to its end
first_again : (form : Form) (sets m : ℕ) (b c : List ℕ) (from after : Spot) (last : ℕ) (g : Logged) → take m c ≡ take m b → length c ≡ length b → after.place ≤ m → walk_one form sets b from last ≡ Group g.time g.items after
    → walk_one form sets c from last ≡ Group g.time g.items after
first_again form sets m b c from after last g same size le is =
    found_group form sets c from last g.time g.items after (found_again form m b c from last g.time g.items after same size le (group_found form sets b from last g.time g.items after is))

-- A walk depends on no byte behind the gate that ends it, nor on that byte where it isn't 1.
pub walks_end : (form : Form) (sets : ℕ) (b c : List ℕ) (from to : Spot) (last time : ℕ) (groups : List Logged) → take to.place c ≡ take to.place b → length c ≡ length b → slice_index c to.place ≢ 1
    → Walks form sets b from last groups to time → Walks form sets c from last groups to time
walks_end form sets b c from to last time [] same size shut w = (shut_is_end form sets c from last (λ gate. shut (ap (λ (s : Spot). slice_index c s.place) w.1 ∙ gate)), w.1, w.2)
walks_end form sets b c from to last time (g ∷ groups) same size shut w =
    let le = walk_forth form sets b w.0 to g.time time groups w.2 in
    (w.0, first_again form sets to.place b c from w.0 last g same size le w.1, walks_end form sets b c w.0 to g.time time groups same size shut w.2)

-- two ways in which a group was found
record SameGroup (g h : Logged) (a z : Spot) : Type 0 where
  group : g ≡ h
  after : a ≡ z

same_group : (g h : Logged) (a z : Spot) → Group g.time g.items a ≡ Group h.time h.items z → SameGroup g h a z
same_group g h a z e =
    let parts : (g.time ≡ h.time) × (g.items ≡ h.items) × (a ≡ z) = (cc, cc, cc) in
    record { group = λ i. record { time = parts.0 i; items = parts.1 i }; after = parts.2 }

end_is_none : (time : ℕ) (items : List Item) (after : Spot) → End ≡ Group time items after → ⊥
end_is_none time items after e = cc

pub walks_one : WalksAreOne
walks_one form sets image from last [] [] to end time later v w = (refl, v.1 ∙ sym w.1, v.2 ∙ sym w.2)
walks_one form sets image from last [] (h ∷ two) to end time later v w = absurd (end_is_none h.time h.items w.0 (sym v.0 ∙ w.1))
walks_one form sets image from last (g ∷ one) [] to end time later v w = absurd (end_is_none g.time g.items v.0 (sym w.0 ∙ v.1))
walks_one form sets image from last (g ∷ one) (h ∷ two) to end time later v w =
    let same = same_group g h v.0 w.0 (sym v.1 ∙ w.1) in
    let moved : Walks form sets image v.0 g.time two end later = moved_walk same in
    let rest = walks_one form sets image v.0 g.time one two to end time later v.2 moved in
    ((λ i. same.group i ∷ rest.0 i), rest.1, rest.2)
  where
    moved_walk : SameGroup g h v.0 w.0 → Walks form sets image v.0 g.time two end later
    moved_walk same = subst (λ (p : Spot × Logged). Walks form sets image p.0 p.1.time two end later) {x = (w.0, h)} {y = (v.0, g)} (let at = sym same.after in let first = sym same.group in λ i. (at i, first i)) w.2
