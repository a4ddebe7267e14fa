-- The cylinders of a volume, copied one after another.
use Rattle.std.proofs.Common.{◌≡◌, ◌≢◌, ◌≤◌, ◌<◌, ◌+◌, ◌*◌, ℕ, List, Option, refl, sym, ◌∙◌, ap, subst}
use Rattle.ckd_track.specs.declared.rec.Rec.{Rec}
use Rattle.ckd_track.specs.SlotPlaces.{slot_place, slot_track}
use Rattle.crash_plant.specs.declared.device.Device.{Device}
use Rattle.crash_plant.specs.declared.device.Device.TheVariants.{Volume}
use Rattle.crash_plant.specs.Moments.{PlantState, on, Follows, IsDurable, Same}
use Rattle.crash_plant.specs.Calls.{WorksOn}
use Rattle.copy_progress.specs.Copies.{done}
use Rattle.copy_progress.specs.Slots.{Clears, NotesNext}
use Rattle.volume_copy.specs.declared.copy_job.CopyJob.{CopyJob}
use Rattle.volume_copy.specs.Copying.{WorksOnCopy}
use Rattle.volume_copy.specs.Targets.{CopiesTo, IsCopyOf, HasCylindersDone, WritesTargetSlots, progress_after}
use Rattle.volume_copy.proofs.Copying.{copy_here, copy_trans, copy_wider, on_target, read_step, then_target}
use Rattle.volume_copy.proofs.Progress.{next_counts}
use Rattle.volume_copy.proofs.Targets.{copies_cleared, copies_here, copies_noted, copies_then, copies_torn}

-- how a target comes from one image to another, by what reads gave of the source
abbrev pub StepOf : CopyJob → PlantState → List ℕ → List ℕ → Type 0
StepOf job plant = CopiesTo job.claim (slot_track (plant.bytes (Volume job.source)))

-- The source is the same.
pub step_same : (tells : Type 0) (told : tells) (job : CopyJob) (step : List ℕ → List ℕ → Type 0) (a b : PlantState) (x y : List ℕ) → WorksOnCopy tells job.source job.target step a b → StepOf job b x y → StepOf job a x y
step_same tells told job step a b x y works s = subst (λ (l : List ℕ). CopiesTo job.claim (slot_track l) x y) (works.source_bytes told) s

module _ (tells : Type 0) (job : CopyJob) (apart : job.source ≢ job.target) where
  pub volume_here : (a : PlantState) → WorksOnCopy tells job.source job.target (StepOf job a) a a
  volume_here a = copy_here tells job.source job.target apart (StepOf job a) a (λ x. copies_here (slot_track (a.bytes (Volume job.source))) job.claim x x refl)

  -- calls that came before others
  pub volume_then : (a b c : PlantState) → WorksOnCopy tells job.source job.target (StepOf job a) a b → WorksOnCopy tells job.source job.target (StepOf job b) b c → WorksOnCopy tells job.source job.target (StepOf job a) a c
  volume_then a b c x y = copy_trans tells job.source job.target apart (StepOf job a) (StepOf job b) (StepOf job a) a b c
      (λ told p q here s. s)
      (λ told p q r here there s t. copies_then content job.claim p q r s (step_same tells told job (StepOf job a) a b q r x t))
      (λ told s t. copies_then content job.claim _ _ _ s (step_same tells told job (StepOf job a) a b _ _ x t)) x y
    where
      content : ℕ → Option (List Rec)
      content = slot_track (a.bytes (Volume job.source))

  -- The tracks of a cylinder are copied.
  module _ (k : ℕ) (within : 15 * (k + 1) ≤ job.claim.tracks) (a b : PlantState) (durable : tells → IsDurable (on a (Volume job.target))) (stands : tells → HasCylindersDone job.claim (a.bytes (Volume job.target)) k) where
    abbrev t : Device
    t = Volume job.target

    at : (told : tells) (x : List ℕ) → a.images a.clock t x → done job.claim x ≡ 15 * k
    at told x here = ap (done job.claim) (durable told x here) ∙ (stands told).done_is

    module _ (tracks : WorksOnCopy tells job.source job.target (WritesTargetSlots (slot_track (a.bytes (Volume job.source))) (slot_place (15 * k)) 860160) a b) where
      pub cylinder_tracks : WorksOnCopy tells job.source job.target (StepOf job a) a b
      cylinder_tracks = copy_wider tells job.source job.target apart (WritesTargetSlots (slot_track (a.bytes (Volume job.source))) (slot_place (15 * k)) 860160) (StepOf job a) a b
          (λ told x y here w. copies_torn (slot_track (a.bytes (Volume job.source))) job.claim k within x y (at told x here) w.torn w.rests)
          (λ told w. copies_torn (slot_track (a.bytes (Volume job.source))) job.claim k within (a.bytes t) (b.bytes t) (stands told).done_is w.torn w.rests) tracks

      -- Then that is noted.
      module _ (c : PlantState) (all : tells → (x : ℕ) → 15 * k ≤ x → x < 15 * (k + 1) → IsCopyOf (slot_track (a.bytes (Volume job.source)) x) (b.bytes t) x) (image : tells → c.images c.clock t (c.bytes t))
          (only : WorksOn tells (λ d. d ≡ t) b c) (moments : tells → Follows (NotesNext (progress_after job.claim k) (b.bytes t)) (on b t) (on c t)) where
        abbrev content : ℕ → Option (List Rec)
        content = slot_track (a.bytes (Volume job.source))

        noted : (told : tells) (x y z : List ℕ) → x ≡ a.bytes t → WritesTargetSlots content (slot_place (15 * k)) 860160 x y → NotesNext (progress_after job.claim k) (b.bytes t) y z → StepOf job a x z
        noted told x y z is writes notes =
            let first = subst (λ (l : List ℕ). WritesTargetSlots content (slot_place (15 * k)) 860160 l y) is writes in
            let all_written = tracks.target_bytes told in
            subst (λ (l : List ℕ). StepOf job a l z) (sym is)
            (copies_noted content job.claim k within (progress_after job.claim k) (next_counts job.claim k) refl (a.bytes t) (b.bytes t) (stands told).done_is all_written.torn all_written.rests (all told) y z
            (copies_torn content job.claim k within (a.bytes t) y (stands told).done_is first.torn first.rests) notes)

        pub cylinder_noted : WorksOnCopy tells job.source job.target (StepOf job a) a c
        cylinder_noted = then_target tells job.source job.target apart (WritesTargetSlots content (slot_place (15 * k)) 860160) (NotesNext (progress_after job.claim k) (b.bytes t)) (StepOf job a) a b c durable image
            (λ told x y here w. copies_torn content job.claim k within x y (at told x here) w.torn w.rests)
            (λ told x y z here w notes. noted told x y z (durable told x here) w notes)
            tracks only moments

  -- ---- the beginning

  -- the target is synced, and its progress is read
  pub begin_same : (a b : PlantState) → WorksOn tells (λ d. d ≡ Volume job.target) a b → (tells → b.bytes (Volume job.target) ≡ a.bytes (Volume job.target)) → (tells → Follows Same (on a (Volume job.target)) (on b (Volume job.target))) → WorksOnCopy tells job.source job.target (StepOf job a) a b
  begin_same a b only bytes moments = on_target tells job.source job.target apart (StepOf job a) a b only (λ told. copies_here (slot_track (a.bytes (Volume job.source))) job.claim _ _ (bytes told))
      (λ told s from to z left. let start = moments told s from to z left in (start.0, start.1, copies_here (slot_track (a.bytes (Volume job.source))) job.claim start.0 z start.2))

  -- where nothing is done the gates are closed
  pub begin_cleared : (a b : PlantState) → (tells → IsDurable (on a (Volume job.target))) → (tells → done job.claim (a.bytes (Volume job.target)) ≡ 0) → (tells → b.images b.clock (Volume job.target) (b.bytes (Volume job.target))) → WorksOn tells (λ d. d ≡ Volume job.target) a b → (tells → Follows Clears (on a (Volume job.target)) (on b (Volume job.target)))
      → WorksOnCopy tells job.source job.target (StepOf job a) a b
  begin_cleared a b durable none image only moments =
      let t = Volume job.target in
      let step : tells → (x y : List ℕ) → a.images a.clock t x → Clears x y → StepOf job a x y = λ told x y here clears. copies_cleared (slot_track (a.bytes (Volume job.source))) job.claim x y (ap (done job.claim) (durable told x here) ∙ none told) clears in
      on_target tells job.source job.target apart (StepOf job a) a b only
      (λ told. copies_cleared (slot_track (a.bytes (Volume job.source))) job.claim (a.bytes t) (b.bytes t) (none told) (read_step Clears a b t ((only.elapses told).kept t).later (durable told) (moments told) (image told)))
      (λ told s from to z left. let start = moments told s from to z left in (start.0, start.1, step told start.0 z start.1 start.2))

-- ---- cylinder after cylinder

-- So many cylinders are done.
pub record CylindersSoFar (tells : Type 0) (job : CopyJob) (cylinder : ℕ) (a b : PlantState) : Type 0 where
  pub works : WorksOnCopy tells job.source job.target (StepOf job a) a b
  pub durable : tells → IsDurable (on b (Volume job.target))
  pub stands : tells → HasCylindersDone job.claim (b.bytes (Volume job.target)) cylinder
  pub counts : (d : Device) → b.faults d ≡ a.faults d
