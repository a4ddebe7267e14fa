-- After each kind of event the floors stand for the longer history.
use Rattle.std.proofs.Common.{inl, inr, ◌≡◌, ℕ, ◌<◌, Bool, true, false, nat_eq, List, [], ◌∷◌, ◌++◌, length, set, map, refl, sym, ap, subst, ◌∙◌, arith}
use Rattle.std.specs.Prelude.{IsTrue, Some, option_map, slice_get}
use Rattle.std.proofs.lemmas.Bool.{cases_Bool, eqb-true, eqb-false, eq-eqb}
use Rattle.std.proofs.lemmas.List.{get_or-set_same, get_or-set_other, length-set}
use Rattle.std.proofs.lemmas.Option.{slice_get_within, slice_get-get_or, slice_get-map, get_or_from_slice_get}
use Rattle.ckd_track.specs.declared.write.Batch.{Batch}
use Rattle.cut_core.specs.Events.{Event, reported_upto, is_break_of, is_form_at, cut_after, last_cut}
use Rattle.cut_core.specs.Events.Event.{Join, Break, Raise, Form}
use Rattle.cut_core.specs.LegalHistories.{is_legal_next, are_legal}
use Rattle.cut_core.specs.declared.told.Told.{Told}
use Rattle.cut_core.specs.Floors.{FloorsState, StandsAfter, reported_after_form, told_after}
use Rattle.cut_core.proofs.Legality.{Tells, legal_snoc}
use Rattle.cut_core.proofs.Ends.{cut_snoc}
use Rattle.cut_core.proofs.Kept.{legal_kept}
use Rattle.cut_core.proofs.Steps.{as_told, told_kept, told_next, told_formed}

-- what is owed of each event: the controllers, the last cut, and each controller's floor and phase
pub stands_next : (f g : FloorsState) (past : List Event) (x : Event) → StandsAfter f past → is_legal_next f.controls past x ≡ true → g.controls ≡ f.controls → g.last.0 ≡ cut_after (last_cut past) x
    → ((k : ℕ) → k < f.controls → slice_get g.told k ≡ Some (told_after k (past ++ x ∷ []))) → StandsAfter g (past ++ x ∷ [])
stands_next f g past x s next controls last told =
    record {
      legal = subst (λ n. IsTrue (are_legal n [] (past ++ x ∷ []))) (sym controls) (legal_snoc f.controls [] past x s.legal next);
      told = λ k lt. told k (subst (λ n. k < n) controls lt);
      last = last ∙ sym (cut_snoc past x);
    }

-- an event by which one controller reports up to a time, and breaks or doesn't
pub record TellsBy (x : Event) (j u : ℕ) (b : Bool) : Type 0 where
  pub form : (t : ℕ) → is_form_at t x ≡ false
  pub cut : (c : ℕ) → cut_after c x ≡ c
  pub break : is_break_of j x ≡ b
  pub told : reported_upto j x ≡ u
  pub other_break : (k : ℕ) → nat_eq j k ≡ false → is_break_of k x ≡ false
  pub other_told : (k : ℕ) → nat_eq j k ≡ false → reported_upto k x ≡ 0

itself : (j : ℕ) → nat_eq j j ≡ true
itself j = eq-eqb j j refl

pub join_reports : (b : Batch) → TellsBy (Join b) b.control b.upto.0 false
join_reports b = record {
  form = λ t. refl;
  cut = λ c. refl;
  break = refl;
  told = rw (itself b.control) refl;
  other_break = λ k e. refl;
  other_told = λ k e. rw e refl;
}

pub raise_reports : (j u : ℕ) → TellsBy (Raise j u) j u false
raise_reports j u = record {
  form = λ t. refl;
  cut = λ c. refl;
  break = refl;
  told = rw (itself j) refl;
  other_break = λ k e. refl;
  other_told = λ k e. rw e refl;
}

pub break_reports : (j u : ℕ) → TellsBy (Break j u) j u true
break_reports j u = record {
  form = λ t. refl;
  cut = λ c. refl;
  break = itself j;
  told = rw (itself j) refl;
  other_break = λ k e. e;
  other_told = λ k e. rw e refl;
}

-- what stands in a list after one item is set
set_same : (items : List Told) (j : ℕ) (t : Told) → j < length items → slice_get (set items j t) j ≡ Some t
set_same items j t lt = slice_get-get_or (set items j t) j t (omega (arith, lt, length-set items j t)) ∙ ap Some (get_or-set_same items j t t lt)

set_other : (items : List Told) (j k : ℕ) (t u : Told) → (k ≡ j → ⊥) → slice_get items k ≡ Some u → slice_get (set items j t) k ≡ Some u
set_other items j k t u differs e =
    slice_get-get_or (set items j t) k u (omega (arith, slice_get_within items k u e, length-set items j t))
    ∙ ap Some (get_or-set_other items j k t u differs ∙ get_or_from_slice_get items k u u e)

-- Floors that take over what a controller reports stand for the longer history.
pub stands_told : (f g : FloorsState) (past : List Event) (x : Event) (j u : ℕ) (b : Bool) → TellsBy x j u b → StandsAfter f past → is_legal_next f.controls past x ≡ true
    → Tells f.controls j u past → g.controls ≡ f.controls → g.last ≡ f.last → g.told ≡ set f.told j (as_told u false b) → StandsAfter g (past ++ x ∷ [])
stands_told f g past x j u b by s next says controls last told =
    stands_next f g past x s next controls (ap (λ c. c.0) last ∙ s.last ∙ sym (by.cut (last_cut past)))
    (λ k below. rw told (elim (cases_Bool (nat_eq j k)) [
      | inl same ↦ subst (λ i. slice_get (set f.told j (as_told u false b)) i ≡ Some (told_after i (past ++ x ∷ []))) (eqb-true j k same)
          (set_same f.told j (as_told u false b) (slice_get_within f.told j (told_after j past) (s.told j says.control)) ∙ ap Some (told_next j u b past x by.form by.break by.told says.up says.unbroken))
      | inr differs ↦ set_other f.told j k (as_told u false b) (told_after k past) (λ e. eqb-false j k differs (sym e)) (s.told k below)
          ∙ ap Some (sym (told_kept k past x by.form (by.other_break k differs) (by.other_told k differs)))
    ]))

-- The floors stand as they are after an event by which no controller reports.
pub stands_quiet : (f : FloorsState) (past : List Event) (x : Event) → StandsAfter f past → is_legal_next f.controls past x ≡ true → ((t : ℕ) → is_form_at t x ≡ false) → ((c : ℕ) → cut_after c x ≡ c)
    → ((k : ℕ) → is_break_of k x ≡ false) → ((k : ℕ) → reported_upto k x ≡ 0) → StandsAfter f (past ++ x ∷ [])
stands_quiet f past x s next form cut break untold =
    stands_next f f past x s next refl (s.last ∙ sym (cut (last_cut past))) (λ k below. s.told k below ∙ ap Some (sym (told_kept k past x form (break k) (untold k))))

-- Floors that take a form stand for the longer history.
pub stands_formed : (f g : FloorsState) (past : List Event) (c : ℕ) → StandsAfter f past → is_legal_next f.controls past (Form c) ≡ true
    → g.controls ≡ f.controls → g.last.0 ≡ c → g.told ≡ map (reported_after_form c) f.told → StandsAfter g (past ++ Form c ∷ [])
stands_formed f g past c s next controls last told =
    stands_next f g past (Form c) s next controls last
    (λ k below. rw told (slice_get-map (reported_after_form c) f.told k ∙ ap (option_map (reported_after_form c)) (s.told k below)
    ∙ ap Some (sym (told_formed k c past ((legal_kept f.controls past s.legal).breaks k)))))
