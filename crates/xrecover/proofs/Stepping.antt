-- A duplex pair finished after others: what its call needs, and what stands afterwards.
use Rattle.std.proofs.Common.{inl, inr, refl, ap, ◌∙◌, ◌≡◌, ◌≤◌, ◌<◌, ◌+◌, ◌++◌, ◌∷◌, ℕ, Bool, true, false, cond, List, [], take, None, Some, sym, subst, arith}
use Rattle.std.specs.Prelude.{slice_get}
use Rattle.std.proofs.lemmas.Bool.{cases_Bool}
use Rattle.crash_plant.specs.declared.device.Device.{Device}
use Rattle.site_means.specs.Answers.{IsStore}
use Rattle.xrecover.specs.Labels.{TreatsLabels}
use Rattle.xrecover.specs.RedoneVolumes.{Redoes}
use Rattle.xrecover.proofs.Fails.{no_volume}
use Rattle.xrecover.proofs.Labels.{treats_pair}
use Rattle.crash_plant.specs.declared.device.Device.TheVariants.{Volume}
use Rattle.crash_plant.specs.Moments.{PlantState}
use Rattle.pair_table.specs.declared.row.PairRow.{PairRow}
use Rattle.pair_table.specs.Tables.{AreRowsSound, are_below}
use Rattle.xrecover.specs.declared.labelling.Labelling.{Labelling}
use Rattle.xrecover.specs.FinishedPairs.{FinishesVolume}
use Rattle.xrecover.specs.Pairs.{first_small}
use Rattle.pair_table.specs.States.{is_duplex}
use Rattle.xrecover.proofs.Going.{Going, apart_before, going_duplex, going_left, going_other, take_more}
use Rattle.xrecover.proofs.Rows.{below_at, long_at}

module _ (tells : Type 0) (labelling : Labelling) (left : ℕ → Bool) (rows : List PairRow) (i : ℕ) (failed : List ℕ) (old cur : PlantState) (going : Going tells labelling left [] (take i rows) failed old cur) (r : PairRow) (is : slice_get rows i ≡ Some r) where
  -- ---- what the call needs

  pub pair_there : are_below old.volumes rows ≡ true → r.device < cur.volumes
  pair_there below = omega (arith, below_at old.volumes rows i r below is, going.works.site.volumes)

  pub pair_long : first_small old rows ≡ None → is_duplex r.state ≡ true → 14 ≤ cur.lengths (Volume r.device)
  pair_long none duplex = omega (arith, long_at old rows i r none is duplex, going.works.site.lengths (Volume r.device))

  -- ---- what stands afterwards

  pub pair_going : (flag : Bool) (new : PlantState) → AreRowsSound rows → is_duplex r.state ≡ true → left r.device ≡ false → FinishesVolume tells labelling r flag cur new → Going tells labelling left [] (take (i + 1) rows) (failed ++ cond flag (r.device ∷ []) []) old new
  pair_going flag new keeps duplex fit f =
      subst (λ (l : List PairRow). Going tells labelling left [] l (failed ++ cond flag (r.device ∷ []) []) old new) (sym (take_more rows i r is))
      (going_duplex tells labelling left [] (take i rows) r failed flag old cur new going duplex fit (apart_before rows i r keeps.apart is) f.works (λ v differ. f.counts (Volume v) (λ same. differ cc)) f.fails f.redone)

  -- A volume that is left alone has failed.
  pub left_going : is_duplex r.state ≡ true → left r.device ≡ true → Going tells labelling left [] (take (i + 1) rows) (failed ++ r.device ∷ []) old cur
  left_going duplex alone = subst (λ (l : List PairRow). Going tells labelling left [] l (failed ++ r.device ∷ []) old cur) (sym (take_more rows i r is)) (going_left tells labelling left [] (take i rows) r failed old cur duplex alone going)

  -- The one or the other, as the flag of its job says.
  module _ (alone flag : Bool) (new : PlantState) (keeps : AreRowsSound rows) (duplex : is_duplex r.state ≡ true) (is_alone : left r.device ≡ alone) (stayed : alone ≡ true → (flag ≡ true) × (new ≡ cur)) (finished : alone ≡ false → FinishesVolume tells labelling r flag cur new) where
    pub turn_going : Going tells labelling left [] (take (i + 1) rows) (failed ++ cond flag (r.device ∷ []) []) old new
    turn_going = elim (cases_Bool alone) [
      | inl so ↦
          let same = stayed so in
          subst (λ (p : PlantState). Going tells labelling left [] (take (i + 1) rows) (failed ++ cond flag (r.device ∷ []) []) old p) (sym same.1)
          (subst (λ (h : Bool). Going tells labelling left [] (take (i + 1) rows) (failed ++ cond h (r.device ∷ []) []) old cur) (sym same.0) (left_going duplex (is_alone ∙ so)))
      | inr fit ↦ pair_going flag new keeps duplex (is_alone ∙ fit) (finished fit)
    ]

    pub turn_treats : (told : tells) → TreatsLabels labelling rows [] old cur → TreatsLabels labelling rows [] old new
    turn_treats told before = elim (cases_Bool alone) [
      | inl so ↦ subst (λ (p : PlantState). TreatsLabels labelling rows [] old p) (sym (stayed so).1) before
      | inr fit ↦
          let f = finished fit in
          treats_pair tells told labelling rows i r [] [] (Redoes r.device []) old cur new keeps.apart is (apart_before rows i r keeps.apart is) going.works f.works (λ v differ. f.counts (Volume v) (λ same. differ cc)) refl before (f.treats told)
    ]

    pub turn_counts : (d : Device) → IsStore d → new.faults d ≡ cur.faults d
    turn_counts d here = elim (cases_Bool alone) [
      | inl so ↦ ap (λ (p : PlantState). p.faults d) (stayed so).1
      | inr fit ↦ (finished fit).counts d (no_volume d r.device here)
    ]

  -- A pair that isn't duplex was left.
  pub other_going : is_duplex r.state ≡ false → Going tells labelling left [] (take (i + 1) rows) failed old cur
  other_going other = subst (λ (l : List PairRow). Going tells labelling left [] l failed old cur) (sym (take_more rows i r is)) (going_other tells labelling left [] (take i rows) r failed old cur other going)
