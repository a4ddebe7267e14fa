-- The tracks of a cylinder, copied one after another.
use Rattle.std.proofs.Common.{◌≡◌, ◌≢◌, inl, inr, ◌≤◌, ◌<◌, ◌+◌, ◌-◌, ◌*◌, ℕ, List, Option, refl, ◌∙◌, subst, arith}
use Rattle.std.proofs.lemmas.Bool.{cases_lt}
use Rattle.ckd_track.specs.SlotPlaces.{slot_place, slot_track}
use Rattle.crash_plant.specs.declared.device.Device.{Device}
use Rattle.crash_plant.specs.declared.device.Device.TheVariants.{Volume}
use Rattle.ckd_track.specs.declared.rec.Rec.{Rec}
use Rattle.crash_plant.specs.Bytes.{Torn}
use Rattle.crash_plant.specs.Moments.{PlantState}
use Rattle.crash_plant.proofs.Patches.{torn_more}
use Rattle.volume_copy.specs.declared.copy_job.CopyJob.{CopyJob}
use Rattle.volume_copy.specs.Copying.{WorksOnCopy}
use Rattle.volume_copy.specs.Targets.{IsCopyOf, WritesTargetSlots}
use Rattle.volume_copy.proofs.Copying.{copy_here, copy_trans, copy_wider}
use Rattle.volume_copy.proofs.Targets.{copy_beside, torn_next, writes_same}

-- what reads give of the slots of the source
abbrev pub source_tracks : CopyJob → PlantState → ℕ → Option (List Rec)
source_tracks job plant = slot_track (plant.bytes (Volume job.source))

-- The tracks from one on up to another are copied, and nothing else of the target differs.
pub record TracksSoFar (tells : Type 0) (job : CopyJob) (first track : ℕ) (a b : PlantState) : Type 0 where
  pub works : WorksOnCopy tells job.source job.target (WritesTargetSlots (source_tracks job a) (slot_place first) ((track - first) * 57344)) a b
  pub copied : tells → (x : ℕ) → first ≤ x → x < track → IsCopyOf (slot_track (a.bytes (Volume job.source)) x) (b.bytes (Volume job.target)) x
  pub counts : (d : Device) → b.faults d ≡ a.faults d
  pub lower : first ≤ track

module _ (tells : Type 0) (job : CopyJob) (apart : job.source ≢ job.target) (first : ℕ) where
  pub tracks_none : (a : PlantState) → TracksSoFar tells job first first a a
  tracks_none a = record {
    works = copy_here tells job.source job.target apart (WritesTargetSlots (source_tracks job a) (slot_place first) ((first - first) * 57344)) a (λ x. writes_same (source_tracks job a) (slot_place first) ((first - first) * 57344) x x refl);
    copied = λ told x low high. absurd (omega (arith, low, high));
    counts = λ d. refl;
    lower = omega arith;
  }

  module _ (track : ℕ) (a b c : PlantState) (so_far : TracksSoFar tells job first track a b) (step : WorksOnCopy tells job.source job.target (WritesTargetSlots (source_tracks job b) (slot_place track) 57344) b c) where
    -- The source is as at first.
    by_first : tells → (y z : List ℕ) → WritesTargetSlots (source_tracks job b) (slot_place track) 57344 y z → WritesTargetSlots (source_tracks job a) (slot_place track) 57344 y z
    by_first told y z w = subst (λ (l : List ℕ). WritesTargetSlots (slot_track l) (slot_place track) 57344 y z) (so_far.works.source_bytes told) w

    more : (x y z : List ℕ) → WritesTargetSlots (source_tracks job a) (slot_place first) ((track - first) * 57344) x y → WritesTargetSlots (source_tracks job a) (slot_place track) 57344 y z → WritesTargetSlots (source_tracks job a) (slot_place first) ((track + 1 - first) * 57344) x z
    more x y z one two =
        let low = so_far.lower in
        let at : track ≡ first + (track - first) = omega (arith, low) in
        let size : (track - first + 1) * 57344 ≡ (track + 1 - first) * 57344 = omega (arith, low) in
        record { torn = subst (λ (n : ℕ). Torn (slot_place first) n x z) size (torn_next first (track - first) track x y z at one.torn two.torn); rests = λ n. two.rests n ∙ one.rests n }

    wider : (x y : List ℕ) → WritesTargetSlots (source_tracks job a) (slot_place first) ((track - first) * 57344) x y → WritesTargetSlots (source_tracks job a) (slot_place first) ((track + 1 - first) * 57344) x y
    wider x y one = more x y y one (writes_same (source_tracks job a) (slot_place track) 57344 y y refl)

    pub tracks_works : WorksOnCopy tells job.source job.target (WritesTargetSlots (source_tracks job a) (slot_place first) ((track + 1 - first) * 57344)) a c
    tracks_works = copy_trans tells job.source job.target apart (WritesTargetSlots (source_tracks job a) (slot_place first) ((track - first) * 57344)) (WritesTargetSlots (source_tracks job b) (slot_place track) 57344) (WritesTargetSlots (source_tracks job a) (slot_place first) ((track + 1 - first) * 57344)) a b c
        (λ told x y here one. wider x y one) (λ told x y z here there one two. more x y z one (by_first told y z two))
        (λ told one two. more (a.bytes (Volume job.target)) (b.bytes (Volume job.target)) (c.bytes (Volume job.target)) one (by_first told (b.bytes (Volume job.target)) (c.bytes (Volume job.target)) two)) so_far.works step

    pub tracks_next : (tells → IsCopyOf (slot_track (b.bytes (Volume job.source)) track) (c.bytes (Volume job.target)) track) → ((d : Device) → c.faults d ≡ b.faults d) → TracksSoFar tells job first (track + 1) a c
    tracks_next copied counts = record {
      works = tracks_works;
      copied = λ told x low high. elim (cases_lt x track) [
        | inl before ↦ copy_beside (slot_track (a.bytes (Volume job.source)) x) x track 1 (b.bytes (Volume job.target)) (c.bytes (Volume job.target)) (step.target_bytes told).torn (inl before) (so_far.copied told x low before)
        | inr from ↦
            let is : track ≡ x = omega (arith, from, high) in
            subst (λ (y : ℕ). IsCopyOf (slot_track (a.bytes (Volume job.source)) y) (c.bytes (Volume job.target)) y) is
            (subst (λ (l : List ℕ). IsCopyOf (slot_track l track) (c.bytes (Volume job.target)) track) (so_far.works.source_bytes told) (copied told))
      ];
      counts = λ d. counts d ∙ so_far.counts d;
      lower = omega (arith, so_far.lower);
    }

  -- so many tracks are within so many more
  pub tracks_within : (n m : ℕ) (a b : PlantState) → n ≤ m → WorksOnCopy tells job.source job.target (WritesTargetSlots (source_tracks job a) (slot_place first) (n * 57344)) a b → WorksOnCopy tells job.source job.target (WritesTargetSlots (source_tracks job a) (slot_place first) (m * 57344)) a b
  tracks_within n m a b le works = copy_wider tells job.source job.target apart (WritesTargetSlots (source_tracks job a) (slot_place first) (n * 57344)) (WritesTargetSlots (source_tracks job a) (slot_place first) (m * 57344)) a b
      (λ told x y here one. wide x y one) (λ told one. wide (a.bytes (Volume job.target)) (b.bytes (Volume job.target)) one) works
    where
      wide : (x y : List ℕ) → WritesTargetSlots (source_tracks job a) (slot_place first) (n * 57344) x y → WritesTargetSlots (source_tracks job a) (slot_place first) (m * 57344) x y
      wide x y one =
          let size : n * 57344 + (m - n) * 57344 ≡ m * 57344 = omega (arith, le) in
          record { torn = subst (λ (k : ℕ). Torn (slot_place first) k x y) size (torn_more (slot_place first) (n * 57344) ((m - n) * 57344) x y one.torn); rests = one.rests }
