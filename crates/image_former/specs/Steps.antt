-- What the steps of a call do, one after another.
use Rattle.std.specs.Prelude.{◌≡◌, ◌≤◌, ◌*◌, ℕ, ◌==◌, ◌&&◌, not, List, [], length, drop, Bool, true, false, Option, Some, None, Result, unwrap_or}
use Rattle.std.specs.List.{All, list_any, list_all}
use Rattle.xrc_edge.specs.Causes.{HasCause}
use Rattle.xrc_edge.specs.declared.outcome.Failed.{Failed}
use Rattle.crash_plant.specs.Moments.{Standing, SamePast, Follows, Same}
use Rattle.ckd_track.specs.declared.rec.Rec.{Rec}
use Rattle.ckd_track.specs.declared.write.Kind.{Kind}
use Rattle.ckd_track.specs.SlotPlaces.{slot_end, slot_track}
use Rattle.xrc_journal.specs.declared.job.VolumeJob.{VolumeJob}
use Rattle.xrc_journal.specs.Items.{Item, body_spelling}
use Rattle.xrc_journal.specs.Contents.{content_through, is_of_track}
use Rattle.xrc_journal.specs.Jobs.{FailsByCount, OnVolume}
use Rattle.pair_table.specs.declared.row.PairRow.{PairRow}
use Rattle.pending_queue.specs.declared.head.EntryHead.{EntryHead}
use Rattle.pending_queue.specs.Entries.{WaitingEntry}
use Rattle.image_former.specs.Entries.{is_entry_on, HasEntry}
use Rattle.image_former.specs.Changes.{AreSpelled, changed_where, changed_through}
use Rattle.image_former.specs.Jobs.{is_failed_of, HasOneJob, HasSlotsOf, BeginsWhole, HasNoEntry}
use Rattle.image_former.specs.Forms.{is_image}

-- ---- entries of one track

-- whether two heads name one track of one volume
abbrev pub same_track : EntryHead → EntryHead → Bool
same_track head other = head.control == other.control && head.volume == other.volume && head.track == other.track

abbrev pub is_beside : EntryHead → WaitingEntry → Bool
is_beside head entry = same_track head entry.head

-- What the entry at a place and those after it on its track leave of the track was done to it.
abbrev pub DoesEntries : EntryHead → (place : ℕ) → List WaitingEntry → (old : Option (List Rec)) → (new : List Rec) → Type 0
DoesEntries head place entries old new = (kinds : List Kind) → AreSpelled entries kinds → Some new ≡ changed_where (is_beside head) (drop place entries) (drop place kinds) old

-- The records are those of the track, where the entry of this head doesn't replace it.
abbrev pub StartsFromTrack : EntryHead → (old : Option (List Rec)) → (recs : List Rec) → Type 0
StartsFromTrack head old recs = head.whole ≡ false → recs ≡ unwrap_or old []

-- ---- a volume that is read

-- A call on a volume that only reads it.
pub record Reads {D : Type 0} (state : D → Standing) (tells : Type 0) (old new : D) (result : Result (Unit {0}) Failed) : Type 0 where
  pub length_is : (state new).length_is ≡ (state old).length_is
  pub bytes : tells → (state new).bytes ≡ (state old).bytes
  pub past : tells → SamePast (state old) (state new)
  pub moments : tells → Follows Same (state old) (state new)
  pub cause : HasCause (state old).faults (state new).faults result

-- The slot of a track lies in the volume, which is lent.
abbrev pub HoldsSlot : {D : Type 0} (state : D → Standing) → (track : ℕ) → Option D → Type 0
HoldsSlot state track (Some disk) = slot_end track ≤ (state disk).length_is
HoldsSlot state track None = ⊥

-- This holds of the bytes of the volume, where it is lent.
abbrev pub OfBytes : {D : Type 0} (state : D → Standing) → (List ℕ → Type 0) → Option D → Type 0
OfBytes state holds (Some disk) = holds (state disk).bytes
OfBytes state holds None = Unit {0}

-- What calls that only read leave of a standing.
pub record OnlyReadsDisk (tells : Type 0) (failed : Bool) (old new : Standing) : Type 0 where
  pub length_is : new.length_is ≡ old.length_is
  pub bytes : tells → new.bytes ≡ old.bytes
  pub past : tells → SamePast old new
  pub moments : tells → Follows Same old new
  pub cause : FailsByCount failed old.faults new.faults

-- What such calls leave of a job. One that had failed is left alone.
pub record Goes {D : Type 0} (state : D → Standing) (tells : Type 0) (old new : VolumeJob D) : Type 0 where
  pub device : new.device ≡ old.device
  pub alone : old.failed ≡ true → new ≡ old
  pub reads : old.failed ≡ false → OnVolume state (OnlyReadsDisk tells new.failed) old.disk new.disk

-- The same for a job with these entries.
pub record GoesBy {D : Type 0} (state : D → Standing) (tells : Type 0) (rows : List PairRow) (entries : List WaitingEntry) (old new : VolumeJob D) : Type 0 where
  pub goes : Goes state tells old new
  pub not_read : BeginsWhole rows entries old.device → (new.disk ≡ old.disk) × (new.failed ≡ old.failed)
  pub not_called : HasNoEntry rows entries old.device → new ≡ old

-- ---- bodies that are formed

abbrev pub is_job_live : {D : Type 0} → VolumeJob D → Bool
is_job_live job = not job.failed

-- what every round of a call needs of the jobs
pub record AreReady {D : Type 0} (state : D → Standing) (rows : List PairRow) (entries : List WaitingEntry) (jobs : List (VolumeJob D)) : Type 0 where
  pub one_job : All (HasOneJob rows jobs) entries
  pub slots : All (HasSlotsOf state rows entries) jobs

-- The items stand for the first entries of a group, and those after them on their tracks.
abbrev pub StandForTracks : List PairRow → (entries done : List WaitingEntry) → (device : ℕ) → List Item → (volume : List ℕ) → Type 0
StandForTracks rows entries done device items volume = (x : ℕ) (kinds : List Kind) → HasEntry rows device x done → AreSpelled entries kinds
    → content_through device x items (slot_track volume x) ≡ changed_through rows device x entries kinds (slot_track volume x)

abbrev pub StandOnJob : {D : Type 0} (state : D → Standing) → List PairRow → (entries done : List WaitingEntry) → List Item → VolumeJob D → Type 0
StandOnJob state rows entries done items job = job.failed ≡ false → OfBytes state (StandForTracks rows entries done job.device items) job.disk

pub record AreFormed {D : Type 0} (state : D → Standing) (tells : Type 0) (rows : List PairRow) (entries done : List WaitingEntry) (jobs : List (VolumeJob D)) (items : List Item) : Type 0 where
  pub images : list_all is_image items ≡ true
  pub tracks : (device x : ℕ) → list_any (is_of_track device x) items ≡ (list_any (is_entry_on rows device x) done && not (list_any (is_failed_of device) jobs))
  pub content : tells → All (StandOnJob state rows entries done items) jobs
  pub short : length (body_spelling items) ≤ 56669 * length done
