-- How volumes that were lent came through the lent time.
use Rattle.std.proofs.Common.{◌≡◌, inl, inr, ℕ, ◌<◌, List, length, get_or, refl, sym, ◌∙◌, ap, subst, arith, set, length-set, Option, Some, None, IsSome}
use Rattle.std.proofs.lemmas.List.{get_or_default}
use Rattle.crash_plant.specs.declared.device.Device.{Device}
use Rattle.crash_plant.specs.declared.device.Device.TheVariants.{Volume}
use Rattle.crash_plant.specs.Moments.{Standing, PlantState, on, Follows, Same}
use Rattle.crash_plant.proofs.Steps.{kept_trans}
use Rattle.xrc_journal.specs.declared.job.VolumeJob.{VolumeJob}
use Rattle.applier.specs.Disks.{OnDisks, IsLentTo}
use Rattle.applier.specs.Loans.{WorkedOn, AreWorkedOn, HoldsVolume, AreOut, LeavesBut}
use Rattle.applier.specs.Returns.{IsBack, AreBack, AreRead, OnlyReads}
use Rattle.applier.proofs.LentVolumes.{back_follows}
use Rattle.applier.proofs.Lending.{at_set, worked_here}
use Rattle.applier.proofs.Giving.{lent_cases}

-- Two rows of calls on a disk are one.
pub worked_trans : (own : Type 0) (a b c : Standing) → WorkedOn own a b → WorkedOn own b c → WorkedOn own a c
worked_trans own a b c x y = record { past = λ told. kept_trans a b c (x.past told) (y.past told); length_is = y.length_is ∙ x.length_is; faults = omega (arith, x.faults, y.faults) }

-- More devices are left out.
leaves_more : (tells : Type 0) (among more : Device → Type 0) (a b : PlantState) → ((d : Device) → among d → more d) → LeavesBut tells among a b → LeavesBut tells more a b
leaves_more tells among more a b wider x = record {
  site = x.site;
  loans = λ v other. x.loans v (λ is. other (wider (Volume v) is));
  goes_on = x.goes_on;
  heard = x.heard;
  said = x.said;
  kept = λ told d other. x.kept told d (λ is. other (wider d is));
  silent = x.silent;
  others = λ told d other. x.others told d (λ is. other (wider d is));
  others_faults = λ d other. x.others_faults d (λ is. other (wider d is));
  console_faults = x.console_faults;
}

-- Volumes that are out stay out while calls are made on the disks.
module _ {D : Type 0} (tells own : Type 0) (state : D → Standing) (start b : PlantState) (lent old new : List (VolumeJob D)) (x : AreOut tells own state start b lent old) (w : AreWorkedOn own state old new) where
  on_both : (v : ℕ) (o p q : Option D) → OnDisks (HoldsVolume tells own state start b v) o p → OnDisks (λ was is. WorkedOn own (state was) (state is)) p q → OnDisks (HoldsVolume tells own state start b v) o q
  on_both v (Some l) (Some m) (Some n) f g = record { tells_own = f.tells_own; out = f.out; worked = worked_trans own (state l) (state m) (state n) f.worked g }
  on_both v None None None f g = tt
  on_both v None (Some m) q f g = absurd f
  on_both v (Some l) None q f g = absurd f
  on_both v (Some l) (Some m) None f g = absurd g
  on_both v None None (Some n) f g = absurd g

  has_still : (p q : Option D) → OnDisks (λ was is. WorkedOn own (state was) (state is)) p q → IsSome p → IsSome q
  has_still (Some m) (Some n) g some = refl
  has_still (Some m) None g some = absurd g
  has_still None q g some = absurd (cc some)

  wider : (d : Device) → IsLentTo old d → IsLentTo new d
  wider d among =
      let j = among.0 in
      let i = among.1.0 in
      let less = among.1.1.0 in
      let in_new : i < length new = omega (arith, less, w.same) in (
        get_or new i j,
        (i, (in_new, get_or_default new i j (get_or new i j) in_new)),
        has_still (get_or old i j).disk (get_or new i j).disk (w.disks i j less) (subst (λ (k : VolumeJob D). IsSome k.disk) among.1.1.1 among.2),
        among.3 ∙ ap (λ (k : VolumeJob D). Volume k.device) among.1.1.1 ∙ sym (ap Volume (w.devices i j less)),
      )

  pub worked_on : AreOut tells own state start b lent new
  worked_on = record {
    home = x.home;
    apart = λ i j d before less same. x.apart i j d before (omega (arith, less, w.same)) (sym (w.devices i d (omega (arith, before, less, w.same))) ∙ same ∙ w.devices j d (omega (arith, less, w.same)));
    same = x.same ∙ sym w.same;
    devices = λ i d less. x.devices i d (omega (arith, less, w.same)) ∙ sym (w.devices i d (omega (arith, less, w.same)));
    disks = λ i d less. subst (λ (v : ℕ). OnDisks (HoldsVolume tells own state start b v) (get_or lent i d).disk (get_or new i d).disk) (sym (w.devices i d (omega (arith, less, w.same))))
        (on_both (get_or old i d).device (get_or lent i d).disk (get_or old i d).disk (get_or new i d).disk (x.disks i d (omega (arith, less, w.same))) (w.disks i d (omega (arith, less, w.same))));
    others = leaves_more tells (IsLentTo old) (IsLentTo new) start b wider x.others;
  }

-- No call was made on the disks of jobs.
pub worked_none : (own : Type 0) {D : Type 0} (state : D → Standing) (jobs : List (VolumeJob D)) → AreWorkedOn own state jobs jobs
worked_none own state jobs = record {
  same = refl;
  devices = λ i d less. refl;
  disks = λ i d less. same_disk (get_or jobs i d).disk;
}
  where
    same_disk : (o : Option _) → OnDisks (λ was is. WorkedOn own (state was) (state is)) o o
    same_disk (Some x) = worked_here own (state x)
    same_disk None = tt

-- Calls were made on the disk of one job more.
pub worked_next : (own : Type 0) {D : Type 0} (state : D → Standing) (old jobs : List (VolumeJob D)) (i : ℕ) (d y : VolumeJob D) → i < length jobs → y.device ≡ (get_or jobs i d).device → OnDisks (λ was is. WorkedOn own (state was) (state is)) (get_or jobs i d).disk y.disk
    → AreWorkedOn own state old jobs → AreWorkedOn own state old (set jobs i y)
worked_next own state old jobs i d y less same disk x = record {
  same = length-set jobs i y ∙ x.same;
  devices = λ k e k_less. at_set (λ j. j.device ≡ (get_or old k e).device) jobs i k y e less
      (λ is. same ∙ ap (λ (j : VolumeJob _). j.device) (get_or_default jobs i d e less) ∙ ap (λ (n : ℕ). (get_or jobs n e).device) (sym is) ∙ x.devices k e k_less)
      (λ differ. x.devices k e k_less);
  disks = λ k e k_less. at_set (λ j. OnDisks (λ was is. WorkedOn own (state was) (state is)) (get_or old k e).disk j.disk) jobs i k y e less
      (λ is. both (get_or old k e).disk (get_or jobs k e).disk y.disk (x.disks k e k_less)
      (subst (λ (j : VolumeJob _). OnDisks (λ was is. WorkedOn own (state was) (state is)) j.disk y.disk) (get_or_default jobs i d e less ∙ ap (λ (n : ℕ). get_or jobs n e) (sym is)) disk))
      (λ differ. x.disks k e k_less);
}
  where
    both : (o p q : Option _) → OnDisks (λ was is. WorkedOn own (state was) (state is)) o p → OnDisks (λ was is. WorkedOn own (state was) (state is)) p q → OnDisks (λ was is. WorkedOn own (state was) (state is)) o q
    both (Some l) (Some m) (Some n) f g = worked_trans own (state l) (state m) (state n) f g
    both None None None f g = tt
    both None (Some m) q f g = absurd f
    both (Some l) None q f g = absurd f
    both (Some l) (Some m) None f g = absurd g
    both None None (Some n) f g = absurd g

module _ {D : Type 0} (tells own : Type 0) (state : D → Standing) (start b c : PlantState) (lent given : List (VolumeJob D)) (x : AreOut tells own state start b lent given) (y : AreBack tells state start c lent given) where
  -- What follows of a volume from what is known of its disk holds of each device that was lent.
  pub of_lent : (P : Device → Type 0) (holds : ℕ → D → D → Type 0) → ((i : ℕ) (d : VolumeJob D) → i < length given → own → OnDisks (holds (get_or given i d).device) (get_or lent i d).disk (get_or given i d).disk)
      → ((v : ℕ) (was is : D) → IsBack tells start c v (state was) (state is) → (own → holds v was is) → (tells → own) → P (Volume v)) → (d : Device) → IsLentTo given d → P d
  of_lent P holds known follows d among = subst (λ (e : Device). P e) (sym among.3) (go among.0 among.1.0 among.1.1.0 among.1.1.1 among.2)
    where
      by_disk : (v : ℕ) (o p : Option D) → IsSome p → OnDisks (HoldsVolume tells own state start b v) o p → OnDisks (λ was is. IsBack tells start c v (state was) (state is)) o p → (own → OnDisks (holds v) o p) → P (Volume v)
      by_disk v (Some was) (Some is) some out back known = follows v was is back known out.tells_own
      by_disk v None (Some is) some out back known = absurd out
      by_disk v (Some was) None some out back known = absurd out
      by_disk v None None some out back known = absurd (cc some)

      go : (job : VolumeJob D) (i : ℕ) → i < length given → job ≡ get_or given i job → IsSome job.disk → P (Volume job.device)
      go job i less at some = subst (λ (j : VolumeJob D). P (Volume j.device)) (sym at)
          (by_disk (get_or given i job).device (get_or lent i job).disk (get_or given i job).disk (subst (λ (j : VolumeJob D). IsSome j.disk) at some) (x.disks i job less) (y.disks i job less) (known i job less))

  -- By the step by which each disk came to stand so, its volume came there too, whatever stood on the others.
  module _ (told : tells) (step : Device → List ℕ → List ℕ → Type 0) (same : (d : Device) (l : List ℕ) → step d l l)
      (came : (i : ℕ) (d : VolumeJob D) → i < length given → own → OnDisks (λ was is. Follows (step (Volume (get_or given i d).device)) (state was) (state is)) (get_or lent i d).disk (get_or given i d).disk) where
    pub lent_follows : (d : Device) → IsLentTo given d → Follows (step d) (on start d) (on c d)
    lent_follows = of_lent (λ d. Follows (step d) (on start d) (on c d)) (λ v was is. Follows (step (Volume v)) (state was) (state is)) came
        (λ v was is back known told_own. back_follows tells v start c (state was) (state is) (step (Volume v)) told back (same (Volume v)) (known (told_own told)))

  -- Disks that were only read leave all devices as they were.
  pub only_reads : AreRead own state lent given → OnlyReads tells start c
  only_reads read = record {
    bytes = λ told d. elim (lent_cases given d) [
      | inl among ↦ of_lent (λ e. c.bytes e ≡ start.bytes e) (λ v was is. (state is).bytes ≡ (state was).bytes) (λ i j less told_own. read.bytes told_own i j less)
          (λ v was is back known told_own. back.bytes told ∙ known (told_own told) ∙ back.from.bytes told) d among
      | inr none ↦ (y.works.others told d none).bytes
    ];
    moments = λ told d. elim (lent_cases given d) [
      | inl among ↦ lent_follows told (λ e. Same) (λ e l. refl) (λ i j less told_own. read.moments told_own i j less) d among
      | inr none ↦ (y.works.others told d none).images
    ];
  }
