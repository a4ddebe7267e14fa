-- The laws of a track's bytes.
use Rattle.std.proofs.Common.{◌≡◌, ℕ, zero, suc, ◌+◌, ◌-◌, ◌<◌, ◌≤◌, Bool, true, false, cond, nat_le, ◌&&◌, List, [], ◌∷◌, ◌++◌, length, take, drop, Result, Ok, Err, refl, sym, ap, subst, ◌∙◌, append_assoc, inl, inr, arith, length-append, max}
use Rattle.std.specs.Prelude.{not, ◌⊎◌, slice_index}
use Rattle.std.specs.List.{flat_map}
use Rattle.std.proofs.lemmas.Bool.{le-leb, leb-true}
use Rattle.std.proofs.lemmas.List.{append-nil, drop_at}
use Rattle.std.proofs.lemmas.List.Sums.{sum_by-append}
use Rattle.std.proofs.lemmas.Slice.Eq.{bytes_eq-Decides}
use Rattle.tod_stamp.specs.Fields.{◌>>=◌, IsBytes, within}
use Rattle.tod_stamp.proofs.FieldLaws.{IsBytes-drop, bind_ok, guard_ok}
use Rattle.ckd_track.specs.declared.rec.Rec.{Rec}
use Rattle.ckd_track.specs.Tracks.{record_size, track_size, capacity, rises_above, is_track, IsTrack, last_number}
use Rattle.ckd_track.specs.Images.{record_spelling}
use Rattle.ckd_track.proofs.ImageLaws.{both_true, count_of}
use Rattle.ckd_track.proofs.TrackLaws.{and_true, track_follows}
use Rattle.ckd_image.specs.declared.layout.TheConstants.{FRONT_LENGTH}
use Rattle.ckd_image.specs.declared.fault.TrackFault.{TrackFault}
use Rattle.ckd_image.specs.declared.fault.TrackFault.TheVariants.{HomeAddress, RecordZero, TooLong}
use Rattle.ckd_image.specs.ImageTracks.{begins_with, count_place, counted_at, counted_record, end_mark, home_address, image_track, record_zero, records_to_end, device_track_at, track_front}
use Rattle.ckd_image.specs.Laws.{ImageTracksAreSpelled, ImageTracksReadBack}
use Rattle.ckd_image.proofs.Fronts.{begins_again, begins_is, chosen, not_false}
use Rattle.ckd_image.proofs.CountedReads.{MayBeRead, counted_again, counted_taken}

-- ---- what is read was spelled so

-- after those before the place, these records and the end mark stand in front of what is left
pub record ToEnd (track : ℕ) (before : List Rec) (bytes : List ℕ) (recs : List Rec) : Type 0 where
  pub more : List Rec
  pub rest : List ℕ
  pub recs_are : recs ≡ before ++ more
  pub parts : bytes ≡ flat_map (counted_record track) more ++ (end_mark ++ rest)
  pub are_track : IsTrack recs

same_recs : (a b : List Rec) → (let x : Result (List Rec) TrackFault = Ok a in let y : Result (List Rec) TrackFault = Ok b in x ≡ y) → a ≡ b
same_recs a b e = cc

no_recs : (fault : TrackFault) (recs : List Rec) → (let x : Result (List Rec) TrackFault = Err fault in let y : Result (List Rec) TrackFault = Ok recs in x ≡ y) → ⊥
no_recs fault recs e = cc

pub to_end : (turns track place : ℕ) (before : List Rec) (bytes : List ℕ) (recs : List Rec) → IsBytes bytes → IsTrack before → records_to_end turns track place before bytes ≡ Ok recs → ToEnd track before bytes recs
unfolding records_to_end
to_end zero track place before bytes recs fits is e = absurd cc
to_end (suc turns) track place before bytes recs fits is e =
    let next : Rec × List ℕ → Result (List Rec) TrackFault = λ first. cond (is_track (before ++ first.0 ∷ []))
    (records_to_end turns track (place + length (counted_record track first.0)) (before ++ first.0 ∷ []) first.1) (Err (TooLong place)) in
    let read = counted_at track place (last_number 0 before) bytes in
    elim (chosen (begins_with end_mark bytes) (Ok before) (read >>= next) (Ok recs) e) [
      | inl end ↦
          let same = same_recs before recs end.1 in
          record {
            more = [];
            rest = drop 8 bytes;
            recs_are = sym same ∙ sym (append-nil before);
            parts = begins_is end_mark bytes end.0;
            are_track = subst (λ (r : List Rec). IsTrack r) same is;
          }
      | inr later ↦
          let first = bind_ok read next recs later.1 in
          let rec = first.0.0 in
          let taken = counted_taken track place (last_number 0 before) bytes rec first.0.1 fits first.1 in
          elim (chosen (is_track (before ++ rec ∷ [])) (records_to_end turns track (place + length (counted_record track rec)) (before ++ rec ∷ []) first.0.1) (Err (TooLong place)) (Ok recs) first.2) [
            | inr other ↦ absurd (no_recs (TooLong place) recs other.1)
            | inl still ↦
                let others = to_end turns track (place + length (counted_record track rec)) (before ++ rec ∷ []) first.0.1 recs taken.rest_bytes still.0 still.1 in
                record {
                  more = rec ∷ others.more;
                  rest = others.rest;
                  recs_are = others.recs_are ∙ append_assoc before (rec ∷ []) others.more;
                  parts = taken.parts ∙ ap (λ (t : List ℕ). counted_record track rec ++ t) others.parts
                      ∙ sym (append_assoc (counted_record track rec) (flat_map (counted_record track) others.more) (end_mark ++ others.rest));
                  are_track = others.are_track;
                }
          ]
    ]

-- the parts of a track's bytes in one row
in_a_row : (front recs end rest : List ℕ) → ((front ++ recs) ++ end) ++ rest ≡ front ++ (recs ++ (end ++ rest))
in_a_row front recs end rest = append_assoc (front ++ recs) end rest ∙ append_assoc front recs (end ++ rest)

pub tracks_are_spelled : ImageTracksAreSpelled
tracks_are_spelled track bytes recs fits e =
    let read = records_to_end 256 track FRONT_LENGTH [] (drop FRONT_LENGTH bytes) in
    let one = guard_ok (not (begins_with (home_address track) bytes)) HomeAddress (cond (not (begins_with (track_front track) bytes)) (Err RecordZero) read) recs e in
    let two = guard_ok (not (begins_with (track_front track) bytes)) RecordZero read recs one.1 in
    let begins = begins_is (track_front track) bytes (not_false (begins_with (track_front track) bytes) two.0) in
    let found = to_end 256 track FRONT_LENGTH [] (drop FRONT_LENGTH bytes) recs (IsBytes-drop FRONT_LENGTH bytes fits) refl two.1 in (
      found.are_track,
      found.rest,
      begins ∙ ap (λ (t : List ℕ). track_front track ++ t) (found.parts ∙ ap (λ (r : List Rec). flat_map (counted_record track) r ++ (end_mark ++ found.rest)) (sym found.recs_are))
          ∙ sym (in_a_row (track_front track) (flat_map (counted_record track) recs) end_mark found.rest),
    )

-- ---- what is spelled is read again

-- a front of a track is a track
rises_front : (low : ℕ) (a b : List Rec) → rises_above low (a ++ b) ≡ true → rises_above low a ≡ true
rises_front low [] b e = refl
rises_front low (rec ∷ a) b e =
    let parts = both_true (within (low + 1) 255 rec.number && nat_le (length rec.key) 255) (rises_above rec.number (a ++ b)) e in
    and_true (within (low + 1) 255 rec.number && nat_le (length rec.key) 255) (rises_above rec.number a) parts.0 (rises_front rec.number a b parts.1)

front_is_track : (a b : List Rec) → IsTrack (a ++ b) → IsTrack a
front_is_track a b is =
    let parts = both_true (rises_above 0 (a ++ b)) (nat_le (track_size (a ++ b)) capacity) is in
    and_true (rises_above 0 a) (nat_le (track_size a) capacity) (rises_front 0 a b parts.0)
    (le-leb (track_size a) capacity (omega (arith, leb-true (track_size (a ++ b)) capacity parts.1, sum_by-append record_size a b)))

-- A count field names a head below 15, so it isn't the end mark.
third : (x y : List ℕ) → x ≡ y → slice_index x 2 ≡ slice_index y 2
third x y e = ap (λ (t : List ℕ). slice_index t 2) e

is_false : (b : Bool) → (b ≡ true → ⊥) → b ≡ false
is_false true f = absurd (f refl)
is_false false f = refl

small_head : (track : ℕ) (rest : List ℕ) → slice_index (count_place track ++ rest) 2 < 255
small_head track rest = omega arith

counted_is_no_end : (track : ℕ) (rec : Rec) (rest : List ℕ) → begins_with end_mark (counted_record track rec ++ rest) ≡ false
counted_is_no_end track rec rest =
    let bytes = counted_record track rec ++ rest in
    let low : slice_index bytes 2 < 255 = small_head track (record_spelling rec ++ rest) in
    is_false (begins_with end_mark bytes) (λ e. omega (arith, low, third bytes (end_mark ++ drop (length end_mark) bytes) (begins_is end_mark bytes e)))

ends_here : (turns track place : ℕ) (before : List Rec) (bytes : List ℕ) → begins_with end_mark bytes ≡ true → records_to_end (suc turns) track place before bytes ≡ Ok before
unfolding records_to_end
ends_here turns track place before bytes end = rw end refl

goes_on : (turns track place : ℕ) (before : List Rec) (bytes : List ℕ) (rec : Rec) (left : List ℕ) → begins_with end_mark bytes ≡ false → counted_at track place (last_number 0 before) bytes ≡ Ok (rec, left)
    → is_track (before ++ rec ∷ []) ≡ true → records_to_end (suc turns) track place before bytes ≡ records_to_end turns track (place + length (counted_record track rec)) (before ++ rec ∷ []) left
unfolding records_to_end
goes_on turns track place before bytes rec left no_end read is = rw (no_end, read, is) refl

again : (turns track place : ℕ) (before more : List Rec) (rest : List ℕ) → IsTrack (before ++ more) → length more < turns
    → records_to_end turns track place before (flat_map (counted_record track) more ++ (end_mark ++ rest)) ≡ Ok (before ++ more)
again zero track place before more rest is few = absurd (omega (arith, few))
again (suc turns) track place before [] rest is few = ends_here turns track place before (end_mark ++ rest) (begins_again end_mark rest) ∙ ap (λ (r : List Rec). Ok r) (sym (append-nil before))
again (suc turns) track place before (rec ∷ more) rest is few =
    let regrouped : (before ++ rec ∷ []) ++ more ≡ before ++ (rec ∷ more) = append_assoc before (rec ∷ []) more in
    let longer : IsTrack ((before ++ rec ∷ []) ++ more) = subst (λ (r : List Rec). IsTrack r) (sym regrouped) is in
    let one_more = front_is_track (before ++ rec ∷ []) more longer in
    let follows = track_follows before rec one_more in
    let left = flat_map (counted_record track) more ++ (end_mark ++ rest) in
    let bytes : flat_map (counted_record track) (rec ∷ more) ++ (end_mark ++ rest) ≡ counted_record track rec ++ left =
    append_assoc (counted_record track rec) (flat_map (counted_record track) more) (end_mark ++ rest) in
    let may : MayBeRead (last_number 0 before) rec = record { above = follows.may.above; number = follows.may.number; key = follows.may.key; fits = omega (arith, follows.room) } in
    let read = counted_again track place (last_number 0 before) rec left may in
    let others = again turns track (place + length (counted_record track rec)) (before ++ rec ∷ []) more rest longer (omega (arith, few)) in
    ap (records_to_end (suc turns) track place before) bytes
    ∙ goes_on turns track place before (counted_record track rec ++ left) rec left (counted_is_no_end track rec left) read one_more
    ∙ others ∙ ap (λ (r : List Rec). Ok r) regrouped

reads_by : (track : ℕ) (bytes left : List ℕ) (recs : List Rec) → begins_with (home_address track) bytes ≡ true → begins_with (track_front track) bytes ≡ true → drop FRONT_LENGTH bytes ≡ left
    → records_to_end 256 track FRONT_LENGTH [] left ≡ Ok recs → device_track_at track bytes ≡ Ok recs
reads_by track bytes left recs home front rest read = rw (home, front, rest) read

pub tracks_read_back : ImageTracksReadBack
tracks_read_back track recs rest is =
    let parts = both_true (rises_above 0 recs) (nat_le (track_size recs) capacity) is in
    let bytes = image_track track recs ++ rest in
    let left = flat_map (counted_record track) recs ++ (end_mark ++ rest) in
    let row : bytes ≡ track_front track ++ left = in_a_row (track_front track) (flat_map (counted_record track) recs) end_mark rest in
    let home : begins_with (home_address track) bytes ≡ true =
    ap (begins_with (home_address track)) (row ∙ append_assoc (home_address track) (counted_record track record_zero) left) ∙ begins_again (home_address track) (counted_record track record_zero ++ left) in
    let front : begins_with (track_front track) bytes ≡ true = ap (begins_with (track_front track)) row ∙ begins_again (track_front track) left in
    let rest_is : drop FRONT_LENGTH bytes ≡ left = ap (drop FRONT_LENGTH) row ∙ drop_at (track_front track) left FRONT_LENGTH refl in
    reads_by track bytes left recs home front rest_is (again 256 track FRONT_LENGTH [] recs rest is (omega (arith, count_of 0 recs parts.0)))

-- what is read, once home address and record zero are there
pub track_is : (track : ℕ) (bytes left : List ℕ) → begins_with (home_address track) bytes ≡ true → begins_with (track_front track) bytes ≡ true → drop FRONT_LENGTH bytes ≡ left
    → records_to_end 256 track FRONT_LENGTH [] left ≡ device_track_at track bytes
track_is track bytes left home front rest = rw (home, front, rest) refl
