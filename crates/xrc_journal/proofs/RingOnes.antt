-- There is one walk through data sets from a place, and without a switch it is that over one data set.
use Rattle.std.proofs.Common.{◌≡◌, ℕ, List, [], ◌∷◌, map, refl, sym, ap, subst, ◌∙◌}
use Rattle.crash_plant.specs.declared.spot.Spot.{Spot}
use Rattle.xrc_journal.specs.Items.{Form, Item}
use Rattle.xrc_journal.specs.Records.{walk_one}
use Rattle.xrc_journal.specs.Records.Found.{End, Group, Switch}
use Rattle.xrc_journal.specs.Walks.{Logged, Walks}
use Rattle.xrc_journal.specs.RingWalks.{LeadsTo, WalkPlace, WalkRecord, WalksThrough, found_there, walk_after, walk_at}
use Rattle.xrc_journal.specs.RingWalks.WalkRecord.{OfGroup, OfSwitch}
use Rattle.xrc_journal.specs.RingLaws.{WalksAreWithin, WalksThroughAreOne}
use Rattle.xrc_journal.proofs.RecordsRead.{group_found}

-- ---- what was found is one

end_is_no_group : (time : ℕ) (items : List Item) (after : Spot) → End ≡ Group time items after → ⊥
end_is_no_group time items after e = cc

end_is_no_switch : (time : ℕ) (after : Spot) → End ≡ Switch time after → ⊥
end_is_no_switch time after e = cc

group_is_no_switch : (t time : ℕ) (items : List Item) (a after : Spot) → Group time items after ≡ Switch t a → ⊥
group_is_no_switch t time items a after e = cc

-- two ways in which a group was found
record OneGroup (g h : Logged) (a z : Spot) : Type 0 where
  group : g ≡ h
  after : a ≡ z

one_group : (g h : Logged) (a z : Spot) → Group g.time g.items a ≡ Group h.time h.items z → OneGroup g h a z
one_group g h a z e =
    let parts : (g.time ≡ h.time) × (g.items ≡ h.items) × (a ≡ z) = (cc, cc, cc) in
    record { group = λ i. record { time = parts.0 i; items = parts.1 i }; after = parts.2 }

one_switch : (t u : ℕ) (a z : Spot) → Switch t a ≡ Switch u z → (t ≡ u) × (a ≡ z)
one_switch t u a z e = (cc, cc)

-- ---- one walk

module _ (form : Form) (sets : ℕ) (images : ℕ → List ℕ) where
  end_here : (from to : WalkPlace) → to ≡ from → found_there form sets images to ≡ End → found_there form sets images from ≡ End
  end_here from to leads ends = sym (ap (λ (p : WalkPlace). found_there form sets images p) leads) ∙ ends

  group_moved : (from there : WalkPlace) (g h : Logged) (a z : Spot) (records : List WalkRecord) → OneGroup g h a z → LeadsTo form sets images (walk_after (OfGroup h) z from) records there → LeadsTo form sets images (walk_after (OfGroup g) a from) records there
  group_moved from there g h a z records same leads =
      subst (λ (p : Spot × Logged). LeadsTo form sets images (walk_after (OfGroup p.1) p.0 from) records there) {x = (z, h)} {y = (a, g)} (let at = sym same.after in let first = sym same.group in λ i. (at i, first i)) leads

  switch_moved : (from there : WalkPlace) (t u : ℕ) (a z : Spot) (records : List WalkRecord) → t ≡ u → a ≡ z → LeadsTo form sets images (walk_after (OfSwitch u) z from) records there → LeadsTo form sets images (walk_after (OfSwitch t) a from) records there
  switch_moved from there t u a z records time after leads =
      subst (λ (p : Spot × ℕ). LeadsTo form sets images (walk_after (OfSwitch p.1) p.0 from) records there) {x = (z, u)} {y = (a, t)} (let at = sym after in let then = sym time in λ i. (at i, then i)) leads

  one_walk : (from to there : WalkPlace) (one two : List WalkRecord) → LeadsTo form sets images from one to → found_there form sets images to ≡ End → LeadsTo form sets images from two there → found_there form sets images there ≡ End
      → (one ≡ two) × (to ≡ there)
  one_walk from to there [] [] v e w f = (refl, v ∙ sym w)
  one_walk from to there [] (OfGroup h ∷ two) v e w f = absurd (end_is_no_group h.time h.items w.0 (sym (end_here from to v e) ∙ w.1))
  one_walk from to there [] (OfSwitch u ∷ two) v e w f = absurd (end_is_no_switch u w.0 (sym (end_here from to v e) ∙ w.1))
  one_walk from to there (OfGroup g ∷ one) [] v e w f = absurd (end_is_no_group g.time g.items v.0 (sym (end_here from there w f) ∙ v.1))
  one_walk from to there (OfSwitch t ∷ one) [] v e w f = absurd (end_is_no_switch t v.0 (sym (end_here from there w f) ∙ v.1))
  one_walk from to there (OfGroup g ∷ one) (OfSwitch u ∷ two) v e w f = absurd (group_is_no_switch u g.time g.items w.0 v.0 (sym v.1 ∙ w.1))
  one_walk from to there (OfSwitch t ∷ one) (OfGroup h ∷ two) v e w f = absurd (group_is_no_switch t h.time h.items v.0 w.0 (sym w.1 ∙ v.1))
  one_walk from to there (OfGroup g ∷ one) (OfGroup h ∷ two) v e w f =
      let same = one_group g h v.0 w.0 (sym v.1 ∙ w.1) in
      let rest = one_walk (walk_after (OfGroup g) v.0 from) to there one two v.2 e (group_moved from there g h v.0 w.0 two same w.2) f in
      ((λ i. OfGroup (same.group i) ∷ rest.0 i), rest.1)
  one_walk from to there (OfSwitch t ∷ one) (OfSwitch u ∷ two) v e w f =
      let same = one_switch t u v.0 w.0 (sym v.1 ∙ w.1) in
      let rest = one_walk (walk_after (OfSwitch t) v.0 from) to there one two v.3 e (switch_moved from there t u v.0 w.0 two same.0 same.1 w.3) f in
      ((λ i. OfSwitch (same.0 i) ∷ rest.0 i), rest.1)

pub walks_through_one : WalksThroughAreOne
walks_through_one form sets images from one two to there v w = one_walk form sets images from to there one two v.leads v.ends w.leads w.ends

-- ---- without a switch

module _ (form : Form) (sets : ℕ) (images : ℕ → List ℕ) (entered : List ℕ) where
  set_after : (from after : Spot) (last : ℕ) (g : Logged) → walk_one form sets (images from.set) from last ≡ Group g.time g.items after → after.set ≡ from.set
  set_after from after last g is = sym (ap (λ (s : Spot). s.set) (group_found form sets (images from.set) from last g.time g.items after is).after_is)

  through_within : (from to : Spot) (last time : ℕ) (groups : List Logged) → Walks form sets (images from.set) from last groups to time → WalksThrough form sets images (walk_at entered from last) (map OfGroup groups) (walk_at entered to time)
  through_within from to last time [] w = record {
    leads = (let at = w.1 in let then = w.2 in λ i. walk_at entered (at i) (then i));
    ends = (let at = w.1 in let then = w.2 in λ i. walk_one form sets (images (at i).set) (at i) (then i)) ∙ w.0;
  }
  through_within from to last time (g ∷ groups) w =
      let set = set_after from w.0 last g w.1 in
      let rest = through_within w.0 to g.time time groups (subst (λ (n : ℕ). Walks form sets (images n) w.0 g.time groups to time) (sym set) w.2) in
      record { leads = (w.0, w.1, rest.leads); ends = rest.ends }

  within_through : (from to : Spot) (last time : ℕ) (groups : List Logged) → LeadsTo form sets images (walk_at entered from last) (map OfGroup groups) (walk_at entered to time) → walk_one form sets (images to.set) to time ≡ End → Walks form sets (images from.set) from last groups to time
  within_through from to last time [] leads ends =
      let at : to ≡ from = ap (λ (p : WalkPlace). p.at) leads in
      let then : time ≡ last = ap (λ (p : WalkPlace). p.last) leads in
      ((let a = sym at in let t = sym then in λ i. walk_one form sets (images (a i).set) (a i) (t i)) ∙ ends, at, then)
  within_through from to last time (g ∷ groups) leads ends =
      let set = set_after from leads.0 last g leads.1 in
      (leads.0, leads.1, subst (λ (n : ℕ). Walks form sets (images n) leads.0 g.time groups to time) set (within_through leads.0 to g.time time groups leads.2 ends))

pub walks_within : WalksAreWithin
walks_within form sets images entered from to last time groups = (through_within form sets images entered from to last time groups, λ walks. within_through form sets images entered from to last time groups walks.leads walks.ends)
