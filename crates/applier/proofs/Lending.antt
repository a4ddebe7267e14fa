-- Volumes lent to jobs one after another.
use Rattle.std.proofs.Common.{◌≡◌, ◌≢◌, inl, inr, ℕ, ◌+◌, ◌<◌, ◌≤◌, List, length, get_or, set, refl, sym, ◌∙◌, ap, subst, arith, Option, Some, None, IsSome, IsSomeAnd, length-set, get_or-set_same, get_or-set_other, IfSome, Bool, false}
use Rattle.std.proofs.lemmas.Bool.{cases_eq, cases_lt}
use Rattle.std.proofs.lemmas.List.{get_or_default, set-get_or}
use Rattle.std.specs.Prelude.{All}
use Rattle.crash_plant.specs.declared.device.Device.{Device}
use Rattle.crash_plant.specs.declared.device.Device.TheVariants.{Volume}
use Rattle.crash_plant.specs.Moments.{Standing, PlantState}
use Rattle.crash_plant.specs.Calls.{IsThere, NoneLent, LeavesAllBut, Lends}
use Rattle.xrc_journal.specs.declared.job.VolumeJob.{VolumeJob}
use Rattle.crash_plant.proofs.Steps.{kept_here}
use Rattle.applier.specs.Disks.{OnDisks, AreApart, IsLentTo}
use Rattle.applier.specs.Loans.{LendsWhere, WorkedOn, HoldsVolume, AreOut}
use Rattle.applier.proofs.Others.{leaves_here, leaves_then}
use Rattle.applier.proofs.LentVolumes.{out_of, out_then}

-- Nothing holds of no disk.
pub on_none : {D : Type 0} (holds : D → D → Type 0) (old new : Option D) → old ≡ None → new ≡ None → OnDisks holds old new
on_none holds old new was is = subst (λ (o : Option _). OnDisks holds old o) (sym is) (subst (λ (o : Option _). OnDisks holds o None) (sym was) tt)

-- More holds of the disks where it follows from what holds.
pub on_more : {D : Type 0} (holds more : D → D → Type 0) (old new : Option D) → ((x y : D) → holds x y → more x y) → OnDisks holds old new → OnDisks more old new
on_more holds more (Some x) (Some y) follows fact = follows x y fact
on_more holds more None None follows fact = tt
on_more holds more (Some x) None follows fact = fact
on_more holds more None (Some y) follows fact = fact

-- No work was done.
pub worked_here : (own : Type 0) (a : Standing) → WorkedOn own a a
worked_here own a = record { past = λ told. kept_here a; length_is = refl; faults = omega arith }

-- A disk that holds a volume holds it still once another volume is lent or taken back.
pub holds_then : (tells own : Type 0) {D : Type 0} (state : D → Standing) (v w : ℕ) (a b c : PlantState) (was is : Option D) → w ≢ v → LeavesAllBut tells v b c → OnDisks (HoldsVolume tells own state a b w) was is → OnDisks (HoldsVolume tells own state a c w) was is
holds_then tells own state v w a b c (Some x) (Some y) differ rest fact = record { tells_own = fact.tells_own; out = out_then tells v w a b c (state x) differ fact.out rest; worked = fact.worked }
holds_then tells own state v w a b c None None differ rest fact = tt
holds_then tells own state v w a b c (Some x) None differ rest fact = fact
holds_then tells own state v w a b c None (Some y) differ rest fact = fact

module _ {D : Type 0} where
  -- What holds of an item of a list in which one was replaced.
  pub at_set : (P : VolumeJob D → Type 0) (jobs : List (VolumeJob D)) (i k : ℕ) (y d : VolumeJob D) → i < length jobs → (k ≡ i → P y) → (k ≢ i → P (get_or jobs k d)) → P (get_or (set jobs i y) k d)
  at_set P jobs i k y d less here other = elim (cases_eq k i) [
    | inl is ↦ subst (λ (n : ℕ). P (get_or (set jobs i y) n d)) (sym is) (subst (λ (j : VolumeJob D). P j) (sym (get_or-set_same jobs i y d less)) (here is))
    | inr differ ↦ subst (λ (j : VolumeJob D). P j) (sym (get_or-set_other jobs i k y d differ)) (other differ)
  ]

  -- Two jobs of a list have two volumes.
  pub other_volume : (jobs : List (VolumeJob D)) (i k : ℕ) (d : VolumeJob D) → AreApart jobs → i < length jobs → k < length jobs → k ≢ i → (get_or jobs k d).device ≢ (get_or jobs i d).device
  other_volume jobs i k d apart i_less k_less differ same = elim (cases_lt i k) [
    | inl before ↦ apart i k d before k_less (sym same)
    | inr after ↦ apart k i d (omega (arith, after, differ)) i_less same
  ]

  -- An item without a disk is none that has one.
  no_disk : (jobs : List (VolumeJob D)) (i : ℕ) (d : VolumeJob D) → i < length jobs → (get_or jobs i d).disk ≡ None → (job : VolumeJob D) → IsSome job.disk → job ≡ get_or jobs i job → ⊥
  no_disk jobs i d less idle job some is =
      let none : job.disk ≡ None = ap (λ (j : VolumeJob D). j.disk) (is ∙ get_or_default jobs i job d less) ∙ idle in
      cc (some, none)

  -- The volume of a job without a disk isn't that of a job with one.
  not_lent : (jobs : List (VolumeJob D)) (i : ℕ) (d : VolumeJob D) → AreApart jobs → i < length jobs → (get_or jobs i d).disk ≡ None → ¬ IsLentTo jobs (Volume (get_or jobs i d).device)
  not_lent jobs i d apart less idle lent = elim (cases_eq lent.1.0 i) [
    | inl is ↦ no_disk jobs i d less idle lent.0 lent.2 (lent.1.1.1 ∙ ap (λ (n : ℕ). get_or jobs n lent.0) is)
    | inr differ ↦ other_volume jobs i lent.1.0 lent.0 apart less lent.1.1.0 differ (ap (λ (j : VolumeJob D). j.device) (sym lent.1.1.1) ∙ sym (cc lent.3) ∙ ap (λ (j : VolumeJob D). j.device) (get_or_default jobs i d lent.0 less))
  ]

  -- It can be lent.
  pub is_home : (tells own : Type 0) (state : D → Standing) (a b : PlantState) (jobs : List (VolumeJob D)) (i : ℕ) (d : VolumeJob D) → AreOut tells own state a b jobs jobs → i < length jobs → (get_or jobs i d).device < a.volumes → (get_or jobs i d).disk ≡ None
      → IsThere b (Volume (get_or jobs i d).device)
  is_home tells own state a b jobs i d out less there idle =
      (omega (arith, there, out.others.site.volumes), (out.others.loans (get_or jobs i d).device (not_lent jobs i d out.apart less idle)).is_lent ∙ out.home (get_or jobs i d).device there)

  -- No volume is lent yet.
  pub none_out : (tells own : Type 0) (state : D → Standing) (a : PlantState) (jobs : List (VolumeJob D)) → NoneLent a → AreApart jobs → All (λ job. job.disk ≡ None) jobs → AreOut tells own state a a jobs jobs
  none_out tells own state a jobs home apart idle = record {
    home = home;
    apart = apart;
    same = refl;
    devices = λ i d less. refl;
    disks = λ i d less. on_none _ _ _ (idle i d less) (idle i d less);
    others = leaves_here tells (IsLentTo jobs) a;
  }

  -- One volume more is lent.
  module _ (tells own : Type 0) (state : D → Standing) (a b c : PlantState) (jobs : List (VolumeJob D)) (i : ℕ) (y : VolumeJob D) (less : i < length jobs) (same : y.device ≡ (get_or jobs i y).device) (idle : (get_or jobs i y).disk ≡ None)
      (there : y.device < b.volumes) (told_own : tells → own) (lends : IsSomeAnd y.disk (λ disk. Lends tells y.device b c (state disk))) (out : AreOut tells own state a b jobs jobs) where
    device_at : (k : ℕ) (d : VolumeJob D) → (get_or (set jobs i y) k d).device ≡ (get_or jobs k d).device
    device_at k d = at_set (λ job. job.device ≡ (get_or jobs k d).device) jobs i k y d less
        (λ is. same ∙ ap (λ (j : VolumeJob D). j.device) (get_or_default jobs i y d less) ∙ ap (λ (n : ℕ). (get_or jobs n d).device) (sym is)) (λ differ. refl)

    -- The volume wasn't that of a job with a disk.
    was_home : ¬ IsLentTo jobs (Volume y.device)
    was_home lent = not_lent jobs i y out.apart less idle (subst (λ (v : ℕ). IsLentTo jobs (Volume v)) same lent)

    rest : LeavesAllBut tells y.device b c
    rest = go y.disk lends
      where
        go : (o : Option D) → IsSomeAnd o (λ disk. Lends tells y.device b c (state disk)) → LeavesAllBut tells y.device b c
        go (Some disk) l = l.rest
        go None l = absurd l

    has_disk : IsSome y.disk
    has_disk = go y.disk lends
      where
        go : (o : Option D) → IsSomeAnd o (λ disk. Lends tells y.device b c (state disk)) → IsSome o
        go (Some disk) l = refl
        go None l = absurd l

    holds_here : OnDisks (HoldsVolume tells own state a c y.device) y.disk y.disk
    holds_here = go y.disk lends
      where
        go : (o : Option D) → IsSomeAnd o (λ disk. Lends tells y.device b c (state disk)) → OnDisks (HoldsVolume tells own state a c y.device) o o
        go (Some disk) l = record { tells_own = told_own; out = out_of tells (IsLentTo jobs) y.device a b c (state disk) out.others was_home there l; worked = worked_here own (state disk) }
        go None l = absurd l

    wider : (d : Device) → IsLentTo jobs d → IsLentTo (set jobs i y) d
    wider d lent = elim (cases_eq lent.1.0 i) [
      | inl is ↦ absurd (no_disk jobs i y less idle lent.0 lent.2 (lent.1.1.1 ∙ ap (λ (n : ℕ). get_or jobs n lent.0) is))
      | inr differ ↦ (lent.0, (lent.1.0, (omega (arith, lent.1.1.0, length-set jobs i y), lent.1.1.1 ∙ sym (get_or-set_other jobs i lent.1.0 y lent.0 differ))), lent.2, lent.3)
    ]

    here : IsLentTo (set jobs i y) (Volume y.device)
    here = (y, (i, (omega (arith, less, length-set jobs i y), sym (get_or-set_same jobs i y y less))), has_disk, refl)

    pub out_more : AreOut tells own state a c (set jobs i y) (set jobs i y)
    out_more = record {
      home = out.home;
      apart = λ m n d before n_less same_device. out.apart m n d before (omega (arith, n_less, length-set jobs i y)) (sym (device_at m d) ∙ same_device ∙ device_at n d);
      same = refl;
      devices = λ k d k_less. refl;
      disks = λ k d k_less. at_set (λ job. OnDisks (HoldsVolume tells own state a c job.device) job.disk job.disk) jobs i k y d less (λ is. holds_here) (λ differ.
          let in_jobs : k < length jobs = omega (arith, k_less, length-set jobs i y) in
          let apart : (get_or jobs k d).device ≢ y.device = λ one. other_volume jobs i k d out.apart less in_jobs differ (one ∙ same ∙ ap (λ (j : VolumeJob D). j.device) (get_or_default jobs i y d less)) in
          holds_then tells own state y.device (get_or jobs k d).device a b c _ _ apart rest (out.disks k d in_jobs));
      others = leaves_then tells (IsLentTo jobs) (IsLentTo (set jobs i y)) y.device a b c wider here out.others rest;
    }

  -- The next job has its volume, or nothing was done.
  pub out_next : {P : Type 0} (plants : P → PlantState) (tells own : Type 0) (state : D → Standing) (a : PlantState) (b c : P) (jobs : List (VolumeJob D)) (i : ℕ) (d y : VolumeJob D) → i < length jobs → (get_or jobs i d).device < a.volumes → (get_or jobs i d).disk ≡ None
      → y.device ≡ (get_or jobs i d).device → (IsSome y.disk → tells → own) → (y.disk ≡ None → (c ≡ b) × (y ≡ get_or jobs i d)) → IfSome y.disk (λ disk. Lends tells (get_or jobs i d).device (plants b) (plants c) (state disk))
      → AreOut tells own state a (plants b) jobs jobs → AreOut tells own state a (plants c) (set jobs i y) (set jobs i y)
  out_next plants tells own state a b c jobs i d y less there idle same told_own nothing lends out = go y.disk refl lends
    where
      same_y : get_or jobs i d ≡ get_or jobs i y
      same_y = get_or_default jobs i d y less

      go : (o : Option D) → y.disk ≡ o → IfSome o (λ disk. Lends tells (get_or jobs i d).device (plants b) (plants c) (state disk)) → AreOut tells own state a (plants c) (set jobs i y) (set jobs i y)
      go (Some disk) is l = out_more tells own state a (plants b) (plants c) jobs i y less (same ∙ ap (λ (j : VolumeJob D). j.device) same_y) (ap (λ (j : VolumeJob D). j.disk) (sym same_y) ∙ idle)
          (omega (arith, there, same, out.others.site.volumes)) (told_own (subst (λ (o : Option D). IsSome o) (sym is) refl))
          (subst (λ (o : Option D). IsSomeAnd o (λ e. Lends tells y.device (plants b) (plants c) (state e))) (sym is) (subst (λ (v : ℕ). Lends tells v (plants b) (plants c) (state disk)) (sym same) l)) out
      go None is l =
          let none = nothing is in
          let kept : set jobs i y ≡ jobs = ap (λ (j : VolumeJob D). set jobs i j) none.1 ∙ set-get_or jobs i d in
          subst (λ (js : List (VolumeJob D)). AreOut tells own state a (plants c) js js) (sym kept) (subst (λ (p : _). AreOut tells own state a (plants p) jobs jobs) (sym none.0) out)

-- Each job up to an index was asked, and the others are as they were.
pub record LendsSoFar {D : Type 0} (n : ℕ) (wanted : List Bool) (old new : List (VolumeJob D)) : Type 0 where
  pub done : (k : ℕ) (d : VolumeJob D) → k < n → k < length old → LendsWhere (get_or wanted k false) (get_or old k d) (get_or new k d)
  pub rest : (k : ℕ) (d : VolumeJob D) → n ≤ k → get_or new k d ≡ get_or old k d

-- One job more was asked.
pub so_far_next : {D : Type 0} (n : ℕ) (wanted : List Bool) (old jobs : List (VolumeJob D)) (d y : VolumeJob D) → n < length old → length jobs ≡ length old → LendsWhere (get_or wanted n false) (get_or jobs n d) y → LendsSoFar n wanted old jobs → LendsSoFar (n + 1) wanted old (set jobs n y)
so_far_next n wanted old jobs d y less size lends x = record {
  done = λ k e early k_less. at_set (λ job. LendsWhere (get_or wanted k false) (get_or old k e) job) jobs n k y e (omega (arith, less, size))
      (λ is. subst (λ (m : ℕ). LendsWhere (get_or wanted m false) (get_or old m e) y) (sym is)
      (subst (λ (j : VolumeJob _). LendsWhere (get_or wanted n false) j y) (get_or_default jobs n d e (omega (arith, less, size)) ∙ x.rest n e (omega arith)) lends))
      (λ differ. x.done k e (omega (arith, early, differ)) k_less);
  rest = λ k e from. get_or-set_other jobs n k y e (λ same. absurd (omega (arith, same, from))) ∙ x.rest k e (omega (arith, from));
}
