-- Tracks that grow at their end.
use Rattle.std.proofs.Common.{◌≡◌, ℕ, suc, ◌+◌, ◌-◌, ◌<◌, ◌≤◌, Bool, true, false, ◌&&◌, nat_le, List, [], ◌∷◌, ◌++◌, refl, length, get_or, arith}
use Rattle.std.proofs.lemmas.Bool.{leb-true, le-leb}
use Rattle.std.proofs.lemmas.List.Sums.{sum_by_push}
use Rattle.tod_stamp.specs.Fields.{within}
use Rattle.ckd_track.specs.declared.rec.Rec.{Rec}
use Rattle.ckd_track.specs.Tracks.{record_size, track_size, capacity, rises_above, IsTrack, last_number}
use Rattle.ckd_track.proofs.ImageLaws.{both_true}

pub and_true : (a b : Bool) → a ≡ true → b ≡ true → (a && b) ≡ true
and_true true b e f = f
and_true false b e f = absurd cc

-- the last item of a list has the last number
pub last_item : (low : ℕ) (recs : List Rec) (none : Rec) → 0 < length recs → (get_or recs (length recs - 1) none).number ≡ last_number low recs
last_item low [] none some = absurd (omega (arith, some))
last_item low (rec ∷ []) none some = refl
last_item low (rec ∷ next ∷ recs) none some =
    let later : length (rec ∷ next ∷ recs) - 1 ≡ suc (length (next ∷ recs) - 1) = omega arith in
    rw later (last_item rec.number (next ∷ recs) none (omega arith))

-- what one more record must keep
pub record MayFollow (low : ℕ) (recs : List Rec) (rec : Rec) : Type 0 where
  pub above : last_number low recs < rec.number
  pub number : rec.number ≤ 255
  pub key : length rec.key ≤ 255

first_may : (low : ℕ) (rec : Rec) → low < rec.number → rec.number ≤ 255 → length rec.key ≤ 255 → (within (low + 1) 255 rec.number && nat_le (length rec.key) 255) ≡ true
first_may low rec above number key =
    and_true (within (low + 1) 255 rec.number) (nat_le (length rec.key) 255)
    (and_true (nat_le (low + 1) rec.number) (nat_le rec.number 255) (le-leb (low + 1) rec.number (omega (arith, above))) (le-leb rec.number 255 number))
    (le-leb (length rec.key) 255 key)

first_is : (low : ℕ) (rec : Rec) → (within (low + 1) 255 rec.number && nat_le (length rec.key) 255) ≡ true → (low < rec.number) × (rec.number ≤ 255) × (length rec.key ≤ 255)
first_is low rec e =
    let parts = both_true (within (low + 1) 255 rec.number) (nat_le (length rec.key) 255) e in
    let number = both_true (nat_le (low + 1) rec.number) (nat_le rec.number 255) parts.0 in
    (omega (arith, leb-true (low + 1) rec.number number.0), leb-true rec.number 255 number.1, leb-true (length rec.key) 255 parts.1)

-- Numbers go on rising where the record may follow,
pub rises_on : (low : ℕ) (recs : List Rec) (rec : Rec) → rises_above low recs ≡ true → MayFollow low recs rec → rises_above low (recs ++ rec ∷ []) ≡ true
rises_on low [] rec rises may = and_true (within (low + 1) 255 rec.number && nat_le (length rec.key) 255) true (first_may low rec may.above may.number may.key) refl
rises_on low (first ∷ recs) rec rises may =
    let parts = both_true (within (low + 1) 255 first.number && nat_le (length first.key) 255) (rises_above first.number recs) rises in
    and_true (within (low + 1) 255 first.number && nat_le (length first.key) 255) (rises_above first.number (recs ++ rec ∷ [])) parts.0
    (rises_on first.number recs rec parts.1 (record { above = may.above; number = may.number; key = may.key }))

-- and only there.
pub follows : (low : ℕ) (recs : List Rec) (rec : Rec) → rises_above low (recs ++ rec ∷ []) ≡ true → MayFollow low recs rec
follows low [] rec rises =
    let parts = both_true (within (low + 1) 255 rec.number && nat_le (length rec.key) 255) true rises in
    let is = first_is low rec parts.0 in
    record { above = is.0; number = is.1; key = is.2 }
follows low (first ∷ recs) rec rises =
    let parts = both_true (within (low + 1) 255 first.number && nat_le (length first.key) 255) (rises_above first.number (recs ++ rec ∷ [])) rises in
    let may = follows first.number recs rec parts.1 in
    record { above = may.above; number = may.number; key = may.key }

-- A track stays one where a record may follow and has room,
pub track_on : (recs : List Rec) (rec : Rec) → IsTrack recs → MayFollow 0 recs rec → record_size rec + track_size recs ≤ capacity → IsTrack (recs ++ rec ∷ [])
track_on recs rec is may room =
    let parts = both_true (rises_above 0 recs) (nat_le (track_size recs) capacity) is in
    and_true (rises_above 0 (recs ++ rec ∷ [])) (nat_le (track_size (recs ++ rec ∷ [])) capacity) (rises_on 0 recs rec parts.0 may)
    (le-leb (track_size (recs ++ rec ∷ [])) capacity (omega (arith, sum_by_push record_size recs rec, room)))

-- and only there.
pub record Follows (recs : List Rec) (rec : Rec) : Type 0 where
  pub may : MayFollow 0 recs rec
  pub room : record_size rec + track_size recs ≤ capacity

pub track_follows : (recs : List Rec) (rec : Rec) → IsTrack (recs ++ rec ∷ []) → Follows recs rec
track_follows recs rec is =
    let parts = both_true (rises_above 0 (recs ++ rec ∷ [])) (nat_le (track_size (recs ++ rec ∷ [])) capacity) is in
    record {
      may = follows 0 recs rec parts.0;
      room = omega (arith, sum_by_push record_size recs rec, leb-true (track_size (recs ++ rec ∷ [])) capacity parts.1);
    }
