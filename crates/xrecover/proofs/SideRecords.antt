-- Items applied to volumes side by side, one record after another.
use Rattle.std.proofs.Common.{◌≡◌, ℕ, Bool, true, false, inl, inr, List, sym, ◌∙◌, subst}
use Rattle.std.proofs.lemmas.Bool.{cases_Bool}
use Rattle.crash_plant.specs.declared.device.Device.{Device}
use Rattle.crash_plant.specs.declared.device.Device.TheVariants.{Control, State, Journal, Volume}
use Rattle.crash_plant.specs.Moments.{PlantState}
use Rattle.xrc_journal.specs.Contents.{HasItem}
use Rattle.xrc_journal.specs.Items.{Item}
use Rattle.xrc_journal.specs.Jobs.{FailsByCount}
use Rattle.applier.specs.Slots.{DiffersInSlots}
use Rattle.applier.proofs.InSlots.{differs_here}
use Rattle.site_means.specs.Answers.{ReadsAll}
use Rattle.site_means.proofs.ReadAll.{reads_none}
use Rattle.xrecover.specs.SideVolumes.{AppliesSides, OfVolumes}
use Rattle.xrecover.specs.Works.{Nothing}
use Rattle.xrecover.proofs.Fails.{counted_same, counted_then}
use Rattle.xrecover.proofs.Works.{works_more, works_reads, works_trans}

differs_more : (v : ℕ) (items more : List Item) (b c : List ℕ) → ((x : ℕ) → HasItem v x items → HasItem v x more) → DiffersInSlots v items b c → DiffersInSlots v more b c
differs_more v items more b c wider d = record { size = d.size; others = λ from to up apart. d.others from to up (λ x has. apart x (wider x has)) }

differs_both : (v : ℕ) (items : List Item) (a b c : List ℕ) → DiffersInSlots v items a b → DiffersInSlots v items b c → DiffersInSlots v items a c
differs_both v items a b c x y = record { size = y.size ∙ x.size; others = λ from to up apart. y.others from to up apart ∙ x.others from to up apart }

module _ (items : List Item) (was : ℕ → Bool) where
  here : (d : Device) (l : List ℕ) → OfVolumes was (λ v b c. DiffersInSlots v items b c) d l l
  here Control l = λ i. l
  here State l = λ i. l
  here (Journal j) l = λ i. l
  here (Volume v) l = (λ live. differs_here v items l, λ left i. l)

  same : (d : Device) (x y : List ℕ) → y ≡ x → OfVolumes was (λ v b c. DiffersInSlots v items b c) d x y
  same d x y e = subst (λ (l : List ℕ). OfVolumes was (λ v b c. DiffersInSlots v items b c) d x l) (sym e) (here d x)

  after_same : (d : Device) (x y z : List ℕ) → OfVolumes was (λ v b c. DiffersInSlots v items b c) d x y → z ≡ y → OfVolumes was (λ v b c. DiffersInSlots v items b c) d x z
  after_same d x y z p e = subst (λ (l : List ℕ). OfVolumes was (λ v b c. DiffersInSlots v items b c) d x l) (sym e) p

  -- no record yet
  pub sides_none : (tells : Type 0) (a : PlantState) → AppliesSides tells items was was a a
  sides_none tells a = record {
    works = works_more tells Nothing (OfVolumes was (λ v b c. DiffersInSlots v items b c)) a a (λ told d x y e. same d x y e) (works_reads tells a a (reads_none tells a));
    kept = λ v left. left;
    still = λ v left i. a.faults (Volume v);
    count = λ v live. subst (λ (b : Bool). FailsByCount b (a.faults (Volume v)) (a.faults (Volume v))) (sym live) (counted_same (a.faults (Volume v)) (a.faults (Volume v)) (λ i. a.faults (Volume v)));
  }

  -- What isn't left alone wasn't before.
  pub still_live : (tells : Type 0) (is : ℕ → Bool) (a b : PlantState) → AppliesSides tells items was is a b → (v : ℕ) → is v ≡ false → was v ≡ false
  still_live tells is a b first v fit = elim (cases_Bool (was v)) [
    | inl left ↦ let now = first.kept v left in absurd (cc (now, fit))
    | inr live ↦ live
  ]

  module _ (tells : Type 0) (is : ℕ → Bool) (a b c : PlantState) (first : AppliesSides tells items was is a b) where
    -- a record that is read after them
    pub sides_read : ReadsAll tells b c → AppliesSides tells items was is a c
    sides_read r = record {
      works = works_trans tells (OfVolumes was (λ v b c. DiffersInSlots v items b c)) Nothing (OfVolumes was (λ v b c. DiffersInSlots v items b c)) a b c (λ d x y z p e. after_same d x y z p e) (λ d x y p. p) first.works (works_reads tells b c r);
      kept = first.kept;
      still = λ v left. r.only.others_faults (Volume v) (λ is. is) ∙ first.still v left;
      count = λ v live. subst (λ (n : ℕ). FailsByCount (is v) (a.faults (Volume v)) n) (sym (r.only.others_faults (Volume v) (λ is. is))) (first.count v live);
    }

    -- and its items applied
    module _ (its : List Item) (now : ℕ → Bool) (then : AppliesSides tells its is now b c) (wider : tells → (v x : ℕ) → HasItem v x its → HasItem v x items) where
      more : tells → (d : Device) (x y : List ℕ) → OfVolumes is (λ v b c. DiffersInSlots v its b c) d x y → OfVolumes is (λ v b c. DiffersInSlots v items b c) d x y
      more told Control x y p = p
      more told State x y p = p
      more told (Journal j) x y p = p
      more told (Volume v) x y p = (λ live. differs_more v its items x y (wider told v) (p.0 live), p.1)

      both : (d : Device) (x y z : List ℕ) → OfVolumes was (λ v b c. DiffersInSlots v items b c) d x y → OfVolumes is (λ v b c. DiffersInSlots v items b c) d y z → OfVolumes was (λ v b c. DiffersInSlots v items b c) d x z
      both Control x y z p q = q ∙ p
      both State x y z p q = q ∙ p
      both (Journal j) x y z p q = q ∙ p
      both (Volume v) x y z p q = (
        λ live. elim (cases_Bool (is v)) [
          | inl left ↦ subst (λ (l : List ℕ). DiffersInSlots v items x l) (sym (q.1 left)) (p.0 live)
          | inr fit ↦ differs_both v items x y z (p.0 live) (q.0 fit)
        ],
        λ left. q.1 (first.kept v left) ∙ p.1 left,
      )

      pub sides_then : AppliesSides tells items was now a c
      sides_then = record {
        works = works_trans tells (OfVolumes was (λ v b c. DiffersInSlots v items b c)) (OfVolumes is (λ v b c. DiffersInSlots v items b c)) (OfVolumes was (λ v b c. DiffersInSlots v items b c)) a b c both (λ d x y p. p) first.works
            (works_more tells (OfVolumes is (λ v b c. DiffersInSlots v its b c)) (OfVolumes is (λ v b c. DiffersInSlots v items b c)) b c more then.works);
        kept = λ v left. then.kept v (first.kept v left);
        still = λ v left. then.still v (first.kept v left) ∙ first.still v left;
        count = λ v live. elim (cases_Bool (is v)) [
          | inl left ↦
              subst (λ (b : Bool). FailsByCount b (a.faults (Volume v)) (c.faults (Volume v))) (sym (then.kept v left))
              (subst (λ (n : ℕ). FailsByCount true (a.faults (Volume v)) n) (sym (then.still v left)) (subst (λ (h : Bool). FailsByCount h (a.faults (Volume v)) (b.faults (Volume v))) left (first.count v live)))
          | inr fit ↦ counted_then (now v) (a.faults (Volume v)) (b.faults (Volume v)) (c.faults (Volume v)) ((first.count v live).same fit) (then.count v fit)
        ];
      }
