-- Jobs whose volumes were worked on side by side: calls were made on their disks.
use Rattle.std.proofs.Common.{◌≡◌, ℕ, ◌<◌, Bool, true, false, List, length, get_or, refl, sym, subst, Option, Some, None}
use Rattle.crash_plant.specs.Moments.{Standing, SamePast}
use Rattle.xrc_journal.specs.declared.job.VolumeJob.{VolumeJob}
use Rattle.xrc_journal.specs.Items.{Item}
use Rattle.xrc_journal.specs.Jobs.{FailsByCount, OnVolume}
use Rattle.applier.specs.Disks.{OnDisks}
use Rattle.applier.specs.Loans.{WorkedOn, AreWorkedOn}
use Rattle.applier.specs.Sides.{AppliesToJob, SyncsJob, SyncsVolume}
use Rattle.applier.proofs.Lending.{worked_here}

module _ {D : Type 0} (state : D → Standing) (own : Type 0) where
  applied_disk : (failed : Bool) (was is : Option D) → (own → OnVolume state SamePast was is) → OnVolume state (λ a b. b.length_is ≡ a.length_is) was is → OnVolume state (λ a b. FailsByCount failed a.faults b.faults) was is
      → OnDisks (λ a b. WorkedOn own (state a) (state b)) was is
  applied_disk failed (Some a) (Some b) past length_is cause = record { past = past; length_is = length_is; faults = cause.later }
  applied_disk failed None None past length_is cause = tt
  applied_disk failed None (Some b) past length_is cause = absurd cause
  applied_disk failed (Some a) None past length_is cause = absurd cause

  synced_disk : (failed : Bool) (was is : Option D) → OnVolume state (SyncsVolume own failed) was is → OnDisks (λ a b. WorkedOn own (state a) (state b)) was is
  synced_disk failed (Some a) (Some b) synced = record { past = synced.past; length_is = synced.length_is; faults = synced.cause.later }
  synced_disk failed None None synced = tt
  synced_disk failed None (Some b) synced = absurd synced
  synced_disk failed (Some a) None synced = absurd synced

  same_disk : (o : Option D) → OnDisks (λ a b. WorkedOn own (state a) (state b)) o o
  same_disk (Some a) = worked_here own (state a)
  same_disk None = tt

  -- A job that failed before is as it was.
  job_disk : (old new : VolumeJob D) → (old.failed ≡ true → new ≡ old) → (old.failed ≡ false → OnDisks (λ a b. WorkedOn own (state a) (state b)) old.disk new.disk) → OnDisks (λ a b. WorkedOn own (state a) (state b)) old.disk new.disk
  job_disk old new alone worked = by_flag old.failed refl
    where
      by_flag : (b : Bool) → old.failed ≡ b → OnDisks (λ a b. WorkedOn own (state a) (state b)) old.disk new.disk
      by_flag true is = subst (λ (j : VolumeJob D). OnDisks (λ a b. WorkedOn own (state a) (state b)) old.disk j.disk) (sym (alone is)) (same_disk old.disk)
      by_flag false is = worked is

  -- A body was applied to the volumes.
  pub applied_worked : (items : List Item) (old new : List (VolumeJob D)) → length new ≡ length old → ((i : ℕ) (d : VolumeJob D) → i < length old → AppliesToJob state own items (get_or old i d) (get_or new i d)) → AreWorkedOn own state old new
  applied_worked items old new same each = record {
    same = same;
    devices = λ i d less. (each i d less).device;
    disks = λ i d less. let x = each i d less in
        job_disk (get_or old i d) (get_or new i d) x.left_alone (λ good. applied_disk (get_or new i d).failed (get_or old i d).disk (get_or new i d).disk x.past x.length_is (x.cause good));
  }

  -- The volumes were synced.
  pub synced_worked : (old new : List (VolumeJob D)) → length new ≡ length old → ((i : ℕ) (d : VolumeJob D) → i < length old → SyncsJob state own (get_or old i d) (get_or new i d)) → AreWorkedOn own state old new
  synced_worked old new same each = record {
    same = same;
    devices = λ i d less. (each i d less).device;
    disks = λ i d less. let x = each i d less in
        job_disk (get_or old i d) (get_or new i d) x.left_alone (λ good. synced_disk (get_or new i d).failed (get_or old i d).disk (get_or new i d).disk (x.synced good));
  }
