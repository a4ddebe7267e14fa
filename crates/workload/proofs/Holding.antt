-- The tracks that slots hold, and the rows whose volumes hold theirs.
use Rattle.std.proofs.Common.{◌≡◌, ◌≢◌, ◌≤◌, ◌<◌, ◌+◌, ◌-◌, ◌∷◌, [], ℕ, zero, suc, true, List, Some, Result, Err, length, drop, slice_index_or, sym, ◌∙◌, ap, subst, arith, append-nil, length-take, length-drop}
use Rattle.std.specs.Prelude.{slice_get, slice_range, unwrap_or, nat_lt}
use Rattle.std.specs.List.{All}
use Rattle.std.proofs.lemmas.Bool.{ltb-true}
use Rattle.ckd_track.specs.declared.fault.ImageError.{ImageError}
use Rattle.ckd_track.specs.declared.fault.ImageError.TheVariants.{NoMemory}
use Rattle.ckd_track.specs.declared.rec.Rec.{Rec}
use Rattle.ckd_track.specs.Images.{image_at}
use Rattle.ckd_track.specs.SlotPlaces.{slot_end, slot_place, slot_track, track_read}
use Rattle.ckd_track.proofs.ImageLaws.{both_true}
use Rattle.ckd_track.proofs.SlotTracks.{after_is, image_same}
use Rattle.crash_plant.specs.declared.device.Device.{Device}
use Rattle.crash_plant.specs.declared.device.Device.TheVariants.{Volume}
use Rattle.crash_plant.specs.Calls.{IsThere}
use Rattle.crash_plant.specs.Moments.{PlantState}
use Rattle.pair_table.specs.declared.row.PairRow.{PairRow}
use Rattle.pair_table.specs.Tables.{are_below}
use Rattle.site_means.specs.declared.means.Means.{Means}
use Rattle.site_means.specs.declared.site_error.SiteError.{SiteError}
use Rattle.site_means.specs.declared.site_error.SiteError.TheVariants.{Damaged, NoSession}
use Rattle.site_means.specs.Answers.{AnswersMeaning, Mean}
use Rattle.site_means.specs.Meaning.{Meaning}
use Rattle.site_means.specs.Meaning.Meaning.{DamagedAt, NoMark}
use Rattle.workload.specs.Summaries.{HaveTracks, LeavesAsItWas}

-- ---- slots

-- The bytes of a slot tell its track.
slot_is : (x : ℕ) (volume : List ℕ) → slot_end x ≤ length volume → slot_track volume x ≡ track_read (image_at (slice_range volume (slot_place x) (slot_end x)))
slot_is x volume fits =
    let p = slot_place x in
    let q = slot_end x in
    let t = slice_range volume p q in
    let long : 56670 ≤ length t = omega (arith, fits, length-take (q - p) (drop p volume), length-drop p volume) in
    ap (λ (l : List ℕ). track_read (image_at l)) (after_is p q volume) ∙ image_same t (drop (q - p) (drop p volume)) [] long ∙ ap (λ (l : List ℕ). track_read (image_at l)) (append-nil t)

pub slot_was_read : (x place : ℕ) (volume bytes : List ℕ) → slot_end x ≤ length volume → place ≡ slot_place x → bytes ≡ slice_range volume place (place + 57344) → slot_track volume x ≡ track_read (image_at bytes)
slot_was_read x place volume bytes fits at are =
    let end : place + 57344 ≡ slot_end x = omega (arith, at) in
    slot_is x volume fits
    ∙ ap (λ (l : List ℕ). track_read (image_at l)) (ap (λ (p : ℕ). slice_range volume p (slot_end x)) (sym at) ∙ ap (λ (q : ℕ). slice_range volume place q) (sym end) ∙ sym are)

-- Bytes of which an image is refused tell no track.
pub none_is_read : (bytes : List ℕ) (e : ImageError) → e ≢ NoMemory → (e ≢ NoMemory → image_at bytes ≡ Err e) → unwrap_or (track_read (image_at bytes)) [] ≡ []
none_is_read bytes e other err = ap (λ (r : Result (List Rec × List ℕ) ImageError). unwrap_or (track_read r) []) (err other)

-- ---- rows

found_at : (rows : List PairRow) (k : ℕ) (row : PairRow) → slice_get rows k ≡ Some row → (k < length rows) × (slice_index_or rows k row ≡ row)
found_at [] k row is = absurd cc
found_at (r ∷ rows) zero row is = let same : r ≡ row = cc in (omega arith, same)
found_at (r ∷ rows) (suc k) row is = let found = found_at rows k row is in (omega (arith, found.0), found.1)

pub holds_at : (P : PairRow → Type 0) (rows : List PairRow) (k : ℕ) (row : PairRow) → All P rows → slice_get rows k ≡ Some row → P row
holds_at P rows k row all is = let found = found_at rows k row is in subst P found.1 (all k row found.0)

pub below_at : (volumes : ℕ) (rows : List PairRow) (k : ℕ) (row : PairRow) → are_below volumes rows ≡ true → slice_get rows k ≡ Some row → row.device < volumes
below_at volumes [] k row below is = absurd cc
below_at volumes (r ∷ rows) zero row below is = let same : r ≡ row = cc in subst (λ (s : PairRow). s.device < volumes) same (ltb-true r.device volumes (both_true (nat_lt r.device volumes) (are_below volumes rows) below).0)
below_at volumes (r ∷ rows) (suc k) row below is = below_at volumes rows k row (both_true (nat_lt r.device volumes) (are_below volumes rows) below).1 is

-- ---- plants that are left as they were

module _ (a b : PlantState) (left : LeavesAsItWas a b) where
  pub there_still : (v : ℕ) → IsThere a (Volume v) → IsThere b (Volume v)
  there_still v there = (omega (arith, there.0, left.devices.site.volumes), (left.devices.loans v).is_lent ∙ there.1)

  pub have_still : (rows : List PairRow) → HaveTracks a rows → HaveTracks b rows
  have_still rows held = record {
    home = λ v lt. (left.devices.loans v).is_lent ∙ held.home v (omega (arith, lt, left.devices.site.volumes));
    below = ap (λ (n : ℕ). are_below n rows) left.devices.site.volumes ∙ held.below;
    each = λ k d lt duplex. omega (arith, held.each k d lt duplex, left.devices.site.lengths (Volume (slice_index_or rows k d).device));
  }

-- ---- meanings

pub same_means : (m : Meaning) (a b : Means) → Mean m a → Mean m b → a ≡ b
same_means m a b x y = let p = x.1 in let q = y.1 in cc

module _ (m : Meaning) (means : Means) (e : SiteError) (meant : Mean m means) (says : AnswersMeaning {X = Means} (λ x. Mean m x) m (Err e)) where
  said : (f : SiteError) → e ≡ f → AnswersMeaning {X = Means} (λ x. Mean m x) m (Err f)
  said f is = subst (λ (g : SiteError). AnswersMeaning {X = Means} (λ x. Mean m x) m (Err g)) is says

  -- What means something has a session, and isn't damaged.
  pub has_session : e ≡ NoSession → ⊥
  has_session is = let none : m ≡ NoMark = said NoSession is in let some = meant.1 in cc

  pub is_whole : (d : Device) (place : ℕ) → e ≡ Damaged d place → ⊥
  is_whole d place is = let bad : m ≡ DamagedAt d place = said (Damaged d place) is in let good = meant.1 in cc
