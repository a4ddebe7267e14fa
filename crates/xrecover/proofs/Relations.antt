-- What may differ, from step to step.
use Rattle.std.proofs.Common.{◌≡◌, ◌≤◌, ◌==◌, ◌&&◌, ◌||◌, Bool, true, false, not, nat_lt, inl, inr, ◌∷◌, ℕ, List, [], refl, sym, ◌∙◌, ap, ◌+◌, ◌*◌, subst, arith}
use Rattle.std.proofs.lemmas.Bool.{and_parts, eqb-true, leb-true}
use Rattle.ckd_track.specs.declared.rec.Rec.{Rec}
use Rattle.ckd_track.specs.SlotPlaces.{slot_end}
use Rattle.crash_plant.specs.Bytes.{Torn}
use Rattle.crash_plant.specs.Moments.{PlantState}
use Rattle.crash_plant.specs.declared.device.Device.{Device}
use Rattle.crash_plant.specs.declared.device.Device.TheVariants.{Control, State, Journal, Volume}
use Rattle.xrc_journal.specs.Items.{Item, Earlier, earlier_after, form_of, is_item, is_within, is_drawn, are_items_after}
use Rattle.xrc_journal.specs.Items.Item.{Image, Delta, Pair, Gone}
use Rattle.xrc_journal.specs.Contents.{HasItem}
use Rattle.xrc_journal.proofs.ItemsAgain.{image_rules}
use Rattle.applier.proofs.InSlots.{has_split}
use Rattle.applier.specs.Slots.{DiffersInSlots}
use Rattle.applier.proofs.Ranges.{torn_apart}
use Rattle.pair_table.specs.declared.row.PairRow.{PairRow}
use Rattle.xrecover.specs.Works.{OfOneVolume}
use Rattle.xrecover.specs.RedoneVolumes.{Recovers, Redoes}

module _ (v : ℕ) where
  pub redoes_here : (items : List Item) (b : List ℕ) → Redoes v items b b
  redoes_here items b = record { size = refl; others = λ from to front up apart. refl }

  pub redoes_same : (items : List Item) (b c : List ℕ) → c ≡ b → Redoes v items b c
  redoes_same items b c same = subst (λ (l : List ℕ). Redoes v items b l) (sym same) (redoes_here items b)

  pub redoes_then : (items : List Item) (a b c : List ℕ) → Redoes v items a b → Redoes v items b c → Redoes v items a c
  redoes_then items a b c d e = record { size = e.size ∙ d.size; others = λ from to front up apart. e.others from to front up apart ∙ d.others from to front up apart }

  -- slots of fewer items
  pub differs_redoes : (items more : List Item) (b c : List ℕ) → ((x : ℕ) → HasItem v x items → HasItem v x more) → DiffersInSlots v items b c → Redoes v more b c
  differs_redoes items more b c wider d = record { size = d.size; others = λ from to front up apart. d.others from to up (λ x has. apart x (wider x has)) }

  pub redoes_more : (items more : List Item) (b c : List ℕ) → ((x : ℕ) → HasItem v x items → HasItem v x more) → Redoes v items b c → Redoes v more b c
  redoes_more items more b c wider d = record { size = d.size; others = λ from to front up apart. d.others from to front up (λ x has. apart x (wider x has)) }

  -- a label's bytes
  pub label_redoes : (b c : List ℕ) → Torn 0 14 b c → Redoes v [] b c
  label_redoes b c torn = record { size = torn.size; others = λ from to front up apart. torn_apart 0 14 from to b c torn up (inr front) }

-- on one volume
pub one_then : (v : ℕ) (step : List ℕ → List ℕ → Type 0) (one two : List ℕ → List ℕ → Type 0) → ((x y z : List ℕ) → one x y → two y z → step x z) → (d : Device) (x y z : List ℕ) → OfOneVolume v one d x y → OfOneVolume v two d y z → OfOneVolume v step d x z
one_then v step one two then Control x y z p q = q ∙ p
one_then v step one two then State x y z p q = q ∙ p
one_then v step one two then (Journal j) x y z p q = q ∙ p
one_then v step one two then (Volume w) x y z p q = (λ e. then x y z (p.0 e) (q.0 e), λ differs. q.1 differs ∙ p.1 differs)

pub one_more : (v : ℕ) (one step : List ℕ → List ℕ → Type 0) → ((x y : List ℕ) → one x y → step x y) → (d : Device) (x y : List ℕ) → OfOneVolume v one d x y → OfOneVolume v step d x y
one_more v one step wider Control x y p = p
one_more v one step wider State x y p = p
one_more v one step wider (Journal j) x y p = p
one_more v one step wider (Volume w) x y p = (λ e. wider x y (p.0 e), p.1)

pub recovers_same : (rows : List PairRow) (items : List Item) (d : Device) (x y : List ℕ) → y ≡ x → Recovers rows items d x y
recovers_same rows items Control x y e = e
recovers_same rows items State x y e = e
recovers_same rows items (Journal j) x y e = e
recovers_same rows items (Volume w) x y e = (λ has. redoes_same w items x y e, λ none. e)

-- ---- items lie in the volumes

module _ (plant : PlantState) (device x : ℕ) where
  image_within : (earlier : Earlier) (of y : ℕ) (recs : List Rec) → is_item (form_of plant) earlier (Image of y recs) ≡ true → (of == device && y == x) ≡ true → slot_end x ≤ plant.lengths (Volume device)
  image_within earlier of y recs keeps mine =
      let here = and_parts (of == device) (y == x) mine in
      let rules = image_rules (form_of plant) earlier of y recs keeps in
      let slot = and_parts (nat_lt of plant.volumes && is_within (plant.lengths (Volume of)) y) (not (is_drawn earlier.drawn of y)) rules.drawable in
      let room = leb-true (512 + y * 57344 + 57344) (plant.lengths (Volume of)) (and_parts (nat_lt of plant.volumes) (is_within (plant.lengths (Volume of)) y) slot.0).1 in
      omega (arith, room, eqb-true y x here.1, ap (λ (n : ℕ). plant.lengths (Volume n)) (eqb-true of device here.0))

  alone : (b : Bool) → (b || false) ≡ true → b ≡ true
  alone true e = e
  alone false e = e

  one_within : (earlier : Earlier) (i : Item) → is_item (form_of plant) earlier i ≡ true → HasItem device x (i ∷ []) → slot_end x ≤ plant.lengths (Volume device)
  one_within earlier (Image of y recs) keeps has = image_within earlier of y recs keeps (alone (of == device && y == x) has)
  one_within earlier (Delta of y kind) keeps has = absurd cc
  one_within earlier (Pair version row) keeps has = absurd cc
  one_within earlier (Gone of) keeps has = absurd cc

  pub items_within : (earlier : Earlier) (items : List Item) → are_items_after (form_of plant) earlier items ≡ true → HasItem device x items → slot_end x ≤ plant.lengths (Volume device)
  items_within earlier [] keep has = absurd cc
  items_within earlier (i ∷ items) keep has =
      let parts = and_parts (is_item (form_of plant) earlier i) (are_items_after (form_of plant) (earlier_after i earlier) items) keep in
      elim (has_split device x i items has) [
        | inl here ↦ one_within earlier i parts.0 here
        | inr more ↦ items_within (earlier_after i earlier) items parts.1 more
      ]
