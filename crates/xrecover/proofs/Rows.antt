-- Rows one after another.
use Rattle.std.proofs.Common.{◌≡◌, ◌≤◌, ◌<◌, ◌&&◌, ◌||◌, inl, inr, ℕ, zero, suc, Bool, true, false, cond, List, [], ◌∷◌, length, drop, Option, Some, None, Bor, is_some, nat_lt, refl, sym, ◌∙◌, ap, subst, arith}
use Rattle.std.specs.Prelude.{find, slice_get}
use Rattle.std.specs.Option.{option_copied}
use Rattle.std.specs.List.{list_any}
use Rattle.std.proofs.lemmas.Bool.{cases_eq, and_parts, and_from, eq-eqb, ltb-true, ltb-false}
use Rattle.crash_plant.specs.declared.device.Device.{Device}
use Rattle.crash_plant.specs.declared.device.Device.TheVariants.{Control, State, Journal, Volume}
use Rattle.crash_plant.specs.Moments.{PlantState}
use Rattle.pair_table.specs.declared.row.PairRow.{PairRow}
use Rattle.pair_table.specs.Tables.{are_below, is_of}
use Rattle.volume_label.specs.Labels.{volume_need}
use Rattle.xrc_journal.specs.Items.{Item}
use Rattle.xrecover.specs.Pairs.{HasDuplex, first_small, is_duplex_of, is_small}
use Rattle.pair_table.specs.States.{is_duplex}
use Rattle.xrecover.specs.Works.{OfOneVolume}
use Rattle.xrecover.specs.RedoneVolumes.{Recovers, Redoes}
use Rattle.xrecover.proofs.Relations.{redoes_then}

pub below_at : (volumes : ℕ) (rows : List PairRow) (i : ℕ) (r : PairRow) → are_below volumes rows ≡ true → slice_get rows i ≡ Some r → r.device < volumes
below_at volumes [] i r below is = absurd cc
below_at volumes (q ∷ rows) zero r below is =
    let same : q ≡ r = cc in
    let parts = and_parts (nat_lt q.device volumes) (are_below volumes rows) below in
    subst (λ (k : PairRow). k.device < volumes) same (ltb-true q.device volumes parts.0)
below_at volumes (q ∷ rows) (suc i) r below is = below_at volumes rows i r (and_parts (nat_lt q.device volumes) (are_below volumes rows) below).1 is

none_small : (plant : PlantState) (rows : List PairRow) (i : ℕ) (r : PairRow) → first_small plant rows ≡ None → slice_get rows i ≡ Some r → is_small plant r ≡ false
none_small plant [] i r none is = absurd cc
none_small plant (q ∷ rows) i r none is = by_first (is_small plant q) refl none i is (λ k none is. none_small plant rows k r none is)
  where
    by_first : (small : Bool) → is_small plant q ≡ small → cond small (Some q) (find (is_small plant) rows) ≡ None → (i : ℕ) → slice_get (q ∷ rows) i ≡ Some r → ((k : ℕ) → first_small plant rows ≡ None → slice_get rows k ≡ Some r → is_small plant r ≡ false) → is_small plant r ≡ false
    by_first true e none i is more = absurd cc
    by_first false e none zero is more = let same : q ≡ r = cc in ap (is_small plant) (sym same) ∙ e
    by_first false e none (suc i) is more = more i none is

pub long_at : (plant : PlantState) (rows : List PairRow) (i : ℕ) (r : PairRow) → first_small plant rows ≡ None → slice_get rows i ≡ Some r → is_duplex r.state ≡ true → volume_need r.cylinders ≤ plant.lengths (Volume r.device)
long_at plant rows i r none is duplex = ltb-false (plant.lengths (Volume r.device)) (volume_need r.cylinders) (sym (ap (λ (b : Bool). b && nat_lt (plant.lengths (Volume r.device)) (volume_need r.cylinders)) duplex) ∙ none_small plant rows i r none is)

pub duplex_at : (rows : List PairRow) (i : ℕ) (r : PairRow) → slice_get rows i ≡ Some r → is_duplex r.state ≡ true → HasDuplex rows r.device
duplex_at [] i r is duplex = absurd cc
duplex_at (q ∷ rows) zero r is duplex =
    let same : q ≡ r = cc in
    let here : is_duplex_of r.device q ≡ true = ap (is_duplex_of r.device) same ∙ and_from (is_of r.device r) (is_duplex r.state) (eq-eqb r.device r.device refl) duplex in
    ap (λ (b : Bool). b || list_any (is_duplex_of r.device) rows) here
duplex_at (q ∷ rows) (suc i) r is duplex = either (is_duplex_of r.device q) (list_any (is_duplex_of r.device) rows) (duplex_at rows i r is duplex)
  where
    either : (a b : Bool) → b ≡ true → (a || b) ≡ true
    either true b e = refl
    either false b e = e

pub recovers_one : (rows : List PairRow) (items : List Item) (v : ℕ) → HasDuplex rows v → (d : Device) (x y z : List ℕ) → Recovers rows items d x y → OfOneVolume v (Redoes v items) d y z → Recovers rows items d x z
recovers_one rows items v has Control x y z p q = q ∙ p
recovers_one rows items v has State x y z p q = q ∙ p
recovers_one rows items v has (Journal j) x y z p q = q ∙ p
recovers_one rows items v has (Volume w) x y z p q = (
  λ duplex. elim (cases_eq w v) [
    | inl is ↦ redoes_then w items x y z (p.0 duplex) (subst (λ (k : ℕ). Redoes k items y z) (sym is) (q.0 is))
    | inr differs ↦ subst (λ (l : List ℕ). Redoes w items x l) (sym (q.1 differs)) (p.0 duplex)
  ],
  λ none. q.1 (λ is. none (subst (λ (k : ℕ). HasDuplex rows k) (sym is) has)) ∙ p.1 none,
)

-- ---- the first that is too small

pub small_here : (plant : PlantState) (rows : List PairRow) (i : ℕ) (r : PairRow) → slice_get rows i ≡ Some r → is_small plant r ≡ true → first_small plant (drop i rows) ≡ Some r
small_here plant [] i r is small = absurd cc
small_here plant (q ∷ rows) zero r is small =
    let same : q ≡ r = cc in
    let here : is_small plant q ≡ true = ap (is_small plant) same ∙ small in
    ap (λ (b : Bool). cond b (Some q) (find (is_small plant) rows)) here ∙ ap Some same
small_here plant (q ∷ rows) (suc i) r is small = small_here plant rows i r is small

pub small_next : (plant : PlantState) (rows : List PairRow) (i : ℕ) (r : PairRow) → slice_get rows i ≡ Some r → is_small plant r ≡ false → first_small plant (drop i rows) ≡ first_small plant (drop (suc i) rows)
small_next plant [] i r is large = absurd cc
small_next plant (q ∷ rows) zero r is large =
    let same : q ≡ r = cc in
    let here : is_small plant q ≡ false = ap (is_small plant) same ∙ large in
    ap (λ (b : Bool). cond b (Some q) (find (is_small plant) rows)) here
small_next plant (q ∷ rows) (suc i) r is large = small_next plant rows i r is large

-- A row stands at each place below their number.
none_there : (rows : List PairRow) (i : ℕ) → i < length rows → (let none : Option PairRow = None in none ≡ slice_get rows i) → ⊥
none_there [] i lt is = absurd (omega (arith, lt))
none_there (q ∷ rows) zero lt is = absurd cc
none_there (q ∷ rows) (suc i) lt is = none_there rows i (omega (arith, lt)) is

pub some_there : (rows : List PairRow) (i : ℕ) (o : Option (Bor PairRow)) → i < length rows → option_copied o ≡ slice_get rows i → is_some o ≡ true
some_there rows i None lt is = absurd (none_there rows i lt is)
some_there rows i (Some x) lt is = refl
