-- The jobs of entries, and what is said of each job before and after a call.
use Rattle.std.specs.Prelude.{◌≡◌, ◌≤◌, ℕ, ◌==◌, ◌&&◌, List, Bool, true, false, Option, Some, None, IsSomeAnd, find, count_by, IfSome, IsTrue}
use Rattle.std.specs.List.{AllZip, list_any}
use Rattle.ckd_track.specs.SlotPlaces.{slot_end}
use Rattle.crash_plant.specs.Moments.{Standing}
use Rattle.xrc_journal.specs.declared.job.VolumeJob.{VolumeJob}
use Rattle.xrc_journal.specs.Jobs.{OnVolume}
use Rattle.pair_table.specs.declared.row.PairRow.{PairRow}
use Rattle.pending_queue.specs.Entries.{WaitingEntry}
use Rattle.image_former.specs.Entries.{entry_device, is_entry_on, HasEntry}

abbrev pub is_job_of : {D : Type 0} → (device : ℕ) → VolumeJob D → Bool
is_job_of device job = job.device == device

abbrev pub is_failed_of : {D : Type 0} → (device : ℕ) → VolumeJob D → Bool
is_failed_of device job = job.device == device && job.failed

-- A job of the device has failed.
abbrev pub HasFailed : {D : Type 0} → (device : ℕ) → List (VolumeJob D) → Type 0
HasFailed device jobs = IsTrue (list_any (is_failed_of device) jobs)

-- The entry has a row, whose device has exactly one job.
abbrev pub HasOneJob : {D : Type 0} → List PairRow → List (VolumeJob D) → WaitingEntry → Type 0
HasOneJob rows jobs entry = IsSomeAnd (entry_device rows entry) (λ device. count_by (is_job_of device) jobs ≡ 1)

-- The slots of the tracks of the device's entries lie in the volume, which is lent where there is one.
abbrev pub HoldsSlots : {D : Type 0} (state : D → Standing) → List PairRow → (device : ℕ) → List WaitingEntry → Option D → Type 0
HoldsSlots state rows device entries (Some disk) = (x : ℕ) → HasEntry rows device x entries → slot_end x ≤ (state disk).length_is
HoldsSlots state rows device entries None = (x : ℕ) → ¬ HasEntry rows device x entries

-- The same, where the job hasn't failed.
abbrev pub HasSlotsOf : {D : Type 0} (state : D → Standing) → List PairRow → List WaitingEntry → VolumeJob D → Type 0
HasSlotsOf state rows entries job = job.failed ≡ false → HoldsSlots state rows job.device entries job.disk

-- Each job's volume stays lent, and this holds of it before and after.
abbrev pub OnVolumes : {D : Type 0} (state : D → Standing) → (Standing → Standing → Type 0) → List (VolumeJob D) → List (VolumeJob D) → Type 0
OnVolumes state holds olds news = AllZip (λ old new. OnVolume state holds old.disk new.disk) olds news

-- No entry is on the device.
abbrev pub HasNoEntry : List PairRow → List WaitingEntry → (device : ℕ) → Type 0
HasNoEntry rows entries device = (x : ℕ) → ¬ HasEntry rows device x entries

-- The first entry on each track of the device replaces it as a whole, if there is one.
abbrev pub BeginsWhole : List PairRow → List WaitingEntry → (device : ℕ) → Type 0
BeginsWhole rows entries device = (x : ℕ) → IfSome (find (is_entry_on rows device x) entries) (λ entry. entry.head.whole ≡ true)
