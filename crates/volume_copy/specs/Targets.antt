-- What a target holds of a volume that is copied to it, and how it comes from one image to another meanwhile.
use Rattle.std.specs.Prelude.{◌≡◌, ◌≤◌, ◌+◌, ◌*◌, ℕ, List, length, take, drop, slice_range, Bool, true, false, Option, Some, None}
use Rattle.xrc_edge.specs.declared.limits.TheConstants.{TRACKS_OF_CYLINDER}
use Rattle.ckd_track.specs.declared.layout.TheConstants.{FIRST_SLOT}
use Rattle.ckd_track.specs.declared.rec.Rec.{Rec}
use Rattle.ckd_track.specs.Images.{image}
use Rattle.ckd_track.specs.SlotPlaces.{slot_end, slot_place}
use Rattle.crash_plant.specs.Bytes.{Torn}
use Rattle.copy_progress.specs.declared.claim.Claim.{Claim}
use Rattle.copy_progress.specs.declared.progress.Progress.{Progress}
use Rattle.copy_progress.specs.Copies.{IsCopiedSoFar, done}
use Rattle.copy_progress.specs.Slots.{IsNextNumber, chosen_progress, progress_place}

-- A slot of a source holds this track, or none.
abbrev pub IsHeld : Option (List Rec) → (held : Bool) → List Rec → Type 0
IsHeld slot true recs = slot ≡ Some recs
IsHeld slot false recs = slot ≡ None

-- The slot of a track on a target begins with the image of this track. Nothing is said where there is no track.
abbrev pub IsCopyOf : Option (List Rec) → (target : List ℕ) → (track : ℕ) → Type 0
IsCopyOf (Some recs) target x = take (length (image recs)) (slice_range target (slot_place x) (slot_end x)) ≡ image recs
IsCopyOf None target x = Unit {0}

-- Each track below what is done is the copy of its content.
abbrev pub AreCopied : Claim → (content : ℕ → Option (List Rec)) → (target : List ℕ) → Type 0
AreCopied claim content target = IsCopiedSoFar (λ t x. IsCopyOf (content x) t x) claim target

-- how many bytes of a target's slot are written where the source's slot holds this
abbrev pub written_length : Option (List Rec) → ℕ
written_length None = 0
written_length (Some recs) = length (image recs)

-- Behind the image of its content each slot stays. A slot whose content is no track stays whole.
abbrev pub KeepsRests : (content : ℕ → Option (List Rec)) → (b c : List ℕ) → Type 0
KeepsRests content b c = (x : ℕ) → slice_range c (slot_place x + written_length (content x)) (slot_end x) ≡ slice_range b (slot_place x + written_length (content x)) (slot_end x)

-- Only bytes of a range differ, and of each slot only those of the image of its content.
pub record WritesTargetSlots (content : ℕ → Option (List Rec)) (place n : ℕ) (b c : List ℕ) : Type 0 where
  pub torn : Torn place n b c
  pub rests : KeepsRests content b c

-- the bytes of a progress, with its gate
abbrev pub progress_length : ℕ
progress_length = 43

-- Outside of the two slots of a progress, the bytes before the first track are the same.
pub record SameFront (b c : List ℕ) : Type 0 where
  pub label : take (progress_place false) c ≡ take (progress_place false) b
  pub between : slice_range c (progress_place false + progress_length) (progress_place true) ≡ slice_range b (progress_place false + progress_length) (progress_place true)
  pub behind : slice_range c (progress_place true + progress_length) FIRST_SLOT ≡ slice_range b (progress_place true + progress_length) FIRST_SLOT

-- More is done, or as much. All that is done is copied, if all was that was done before. No slot of a track that was done changes, nor one from a
-- cylinder after what is done on, nor what stands after the tracks. Of a slot that changes no byte behind its content's image does.
pub record CopiesTo (claim : Claim) (content : ℕ → Option (List Rec)) (b c : List ℕ) : Type 0 where
  pub size : length c ≡ length b
  pub front : SameFront b c
  pub more : done claim b ≤ done claim c
  pub copied : AreCopied claim content b → AreCopied claim content c
  pub before : slice_range c FIRST_SLOT (slot_place (done claim b)) ≡ slice_range b FIRST_SLOT (slot_place (done claim b))
  pub later : drop (slot_place (done claim c + TRACKS_OF_CYLINDER)) c ≡ drop (slot_place (done claim c + TRACKS_OF_CYLINDER)) b
  pub behind : drop (slot_place claim.tracks) c ≡ drop (slot_place claim.tracks) b
  pub rests : KeepsRests content b c

-- So many cylinders are done, and the number of the next progress is one more.
pub record HasCylindersDone (claim : Claim) (target : List ℕ) (cylinders : ℕ) : Type 0 where
  pub done_is : done claim target ≡ TRACKS_OF_CYLINDER * cylinders
  pub next : IsNextNumber (chosen_progress target) (cylinders + 1)

-- the progress that tells that one more cylinder is done
abbrev pub progress_after : Claim → (cylinder : ℕ) → Progress
progress_after claim k = record {
  number = k + 1;
  session = claim.session;
  time = claim.time;
  primary = claim.primary;
  tracks = claim.tracks;
  next = TRACKS_OF_CYLINDER * (k + 1);
}
