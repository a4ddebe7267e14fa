-- A Format in a slot's buffer: count, kept front and the given front that fits are the image of the formatted track.
use Rattle.std.proofs.Common.{◌≡◌, ℕ, ◌-◌, ◌+◌, ◌≤◌, List, [], ◌++◌, Bool, true, false, ◌||◌, nat_le, refl, sym, ap, subst, ◌∙◌, length, take, drop, append_assoc, arith, length-append, length-take, length-drop, take-add}
use Rattle.std.specs.Prelude.{◌==◌}
use Rattle.std.specs.Int.{w16, to_be_bytes}
use Rattle.std.specs.List.{flat_map}
use Rattle.std.proofs.lemmas.Bool.{leb-true, le-leb, eqb-true, eqb-false, eq-eqb, ne_eqb}
use Rattle.std.proofs.lemmas.List.{append-nil, take_at, drop_at, take-append-drop}
use Rattle.std.proofs.lemmas.List.Concat.{flat_map-append}
use Rattle.std.proofs.lemmas.List.Sums.{sum_by-append}
use Rattle.ckd_track.specs.declared.rec.Rec.{Rec}
use Rattle.ckd_track.specs.Tracks.{record_size, track_size, capacity, rises_above, are_records_above, IsTrack, last_number}
use Rattle.ckd_track.specs.Effects.{has_record, up_to, fitting, formatted}
use Rattle.ckd_track.specs.Images.{record_spelling, image, longest_image}
use Rattle.ckd_track.proofs.ImageLaws.{count_of}
use Rattle.ckd_track.proofs.ImageLaws.{both_true}
use Rattle.ckd_track.proofs.TrackLaws.{and_true}
use Rattle.ckd_track.specs.declared.fronts.Front.{Front}
use Rattle.ckd_track.specs.Places.{no_front, front_up_to, front_fitting}
use Rattle.ckd_track.specs.Slots.{IsImage, HoldsImage, track_of_image, slot_size, with_bytes}
use Rattle.ckd_track.proofs.Parts.{image_is_image, track_of-image, length-image}
use Rattle.ckd_track.proofs.RowLaws.{track_rises, last_up_to}
use Rattle.ckd_track.proofs.FrontLaws.{IsFront, up_to_is, last_found, fitting_is, rises_fitting, rises_after, rises_lower}

turned : (after : ℕ) → (0 == after) ≡ (after == 0)
turned after = choose (after == 0) refl
  where
    choose : (t : Bool) → (after == 0) ≡ t → (0 == after) ≡ t
    choose true is = eq-eqb 0 after (sym (eqb-true after 0 is))
    choose false is = ne_eqb 0 after (λ e. eqb-false after 0 is (sym e))

-- whether `after` is the start or was found
pub found_is : (after : ℕ) (track : List Rec) → IsTrack track → ((front_up_to after (no_front 2 capacity) track).last == after) ≡ ((after == 0) || has_record after track)
found_is after track is =
    let parts = both_true (rises_above 0 track) (nat_le (track_size track) capacity) is in
    last_found after 0 (no_front 2 capacity) track parts.0 refl (omega arith) ∙ ap (λ (t : Bool). t || has_record after track) (turned after)

-- the front that is kept, and the track that it makes with what fits after it
record Made (after : ℕ) (given track : List Rec) (kept : Front) : Type 0 where
  pub first : IsFront (no_front 2 capacity) kept (up_to after track) track
  pub room : kept.room ≡ capacity - track_size (up_to after track)
  pub is_track : IsTrack (up_to after track ++ fitting kept.room given)
  pub taken : IsTrack (fitting kept.room given)

made : (after : ℕ) (given track : List Rec) (kept : Front) → IsTrack track → rises_above after given ≡ true → kept ≡ front_up_to after (no_front 2 capacity) track → Made after given track kept
made after given track kept is above kept_is =
    let parts = both_true (rises_above 0 track) (nat_le (track_size track) capacity) is in
    let first : IsFront (no_front 2 capacity) kept (up_to after track) track =
    subst (λ (f : Front). IsFront (no_front 2 capacity) f (up_to after track) track) (sym kept_is) (up_to_is after 0 (no_front 2 capacity) track parts.0 (leb-true (track_size track) capacity parts.1)) in
    let fits = fitting kept.room given in
    let second = fitting_is (no_front 0 kept.room) given in
    let rises = rises_fitting after kept.room given above in
    record {
      first = first;
      room = omega (arith, first.room);
      is_track = and_true (rises_above 0 (up_to after track ++ fits)) (nat_le (track_size (up_to after track ++ fits)) capacity)
          (rises_after 0 after track fits (omega arith) parts.0 rises)
          (le-leb (track_size (up_to after track ++ fits)) capacity (omega (arith, sum_by-append record_size (up_to after track) fits, first.room, second.room)));
      taken = and_true (rises_above 0 fits) (nat_le (track_size fits) capacity) (rises_lower 0 after fits (omega arith) rises) (le-leb (track_size fits) capacity (omega (arith, first.room, second.room)));
    }

-- how much room the parts take
record Short (given : List Rec) (kept : Front) : Type 0 where
  pub short : kept.end + length (flat_map record_spelling (fitting kept.room given)) ≤ longest_image
  pub few : kept.count + length (fitting kept.room given) ≤ 255
  pub from : 2 ≤ kept.end

made_short : (after : ℕ) (given track : List Rec) (kept : Front) → Made after given track kept → Short given kept
made_short after given track kept m =
    let xs = up_to after track in
    let ys = fitting kept.room given in
    let X = flat_map record_spelling xs in
    let Y = flat_map record_spelling ys in
    let joined_is : image (xs ++ ys) ≡ to_be_bytes w16 (length (xs ++ ys)) ++ (X ++ Y) = ap (λ (t : List ℕ). to_be_bytes w16 (length (xs ++ ys)) ++ t) (flat_map-append record_spelling xs ys) in
    let parts = both_true (rises_above 0 (xs ++ ys)) (nat_le (track_size (xs ++ ys)) capacity) m.is_track in
    record {
      short = omega (arith, length-image (xs ++ ys) m.is_track, ap length joined_is, length-append X Y, m.first.end);
      few = omega (arith, count_of 0 (xs ++ ys) parts.0, m.first.count, length-append xs ys);
      from = omega (arith, m.first.end);
    }

-- the bytes that are kept, after the count
kept_bytes : (old : List ℕ) (used : ℕ) (xs others : List Rec) (end : ℕ) → HoldsImage used old → track_of_image (take used old) ≡ xs ++ others → end ≡ 2 + length (flat_map record_spelling xs)
    → take (end - 2) (drop 2 old) ≡ flat_map record_spelling xs
kept_bytes old used xs others end holds split end_is =
    let tail = drop used old in
    let X = flat_map record_spelling xs in
    let Y = flat_map record_spelling others in
    let two = to_be_bytes w16 (length (xs ++ others)) in
    let spelled : take used old ≡ two ++ (X ++ Y) = holds.begins.spelled ∙ ap image split ∙ ap (λ (t : List ℕ). two ++ t) (flat_map-append record_spelling xs others) in
    let all : old ≡ two ++ ((X ++ Y) ++ tail) = sym (take-append-drop used old) ∙ ap (λ (t : List ℕ). t ++ tail) spelled ∙ append_assoc two (X ++ Y) tail in
    let rest : drop 2 old ≡ X ++ (Y ++ tail) = ap (drop 2) all ∙ append_assoc X Y tail in
    ap (take (end - 2)) rest ∙ take_at X (Y ++ tail) (end - 2) (omega (arith, end_is))

given_bytes : (given : List ℕ) (recs taken others : List Rec) (end : ℕ) → given ≡ flat_map record_spelling recs → recs ≡ taken ++ others → end ≡ length (flat_map record_spelling taken)
    → take end given ≡ flat_map record_spelling taken
given_bytes given recs taken others end spelled split end_is =
    let all : given ≡ flat_map record_spelling taken ++ flat_map record_spelling others = spelled ∙ ap (flat_map record_spelling) split ∙ flat_map-append record_spelling taken others in
    ap (take end) all ∙ take_at (flat_map record_spelling taken) (flat_map record_spelling others) end (sym end_is)

-- what is taken of spelled records
pub record Taken (recs : List Rec) (given : List ℕ) (room : ℕ) (taken : Front) : Type 0 where
  pub bytes : take taken.end given ≡ flat_map record_spelling (fitting room recs)
  pub end : taken.end ≡ length (flat_map record_spelling (fitting room recs))
  pub count : taken.count ≡ length (fitting room recs)

pub taken_is : (recs : List Rec) (given : List ℕ) (room : ℕ) (taken : Front) → given ≡ flat_map record_spelling recs → taken ≡ front_fitting (no_front 0 room) recs → Taken recs given room taken
taken_is recs given room taken spelled is =
    let front : IsFront (no_front 0 room) taken (fitting room recs) recs = subst (λ (f : Front). IsFront (no_front 0 room) f (fitting room recs) recs) (sym is) (fitting_is (no_front 0 room) recs) in
    let end : taken.end ≡ length (flat_map record_spelling (fitting room recs)) = omega (arith, front.end) in
    record { bytes = given_bytes given recs (fitting room recs) front.after taken.end spelled front.split end; end = end; count = omega (arith, front.count) }

-- count and two fronts are an image
joined : (new rest : List ℕ) (count end : ℕ) (xs ys : List Rec) → new ≡ to_be_bytes w16 count ++ (flat_map record_spelling xs ++ (flat_map record_spelling ys ++ rest)) → count ≡ length (xs ++ ys)
    → end ≡ length (image (xs ++ ys)) → take end new ≡ image (xs ++ ys)
joined new rest count end xs ys is count_is end_is =
    let X = flat_map record_spelling xs in
    let Y = flat_map record_spelling ys in
    let whole : new ≡ image (xs ++ ys) ++ rest = is ∙ rw (count_is, flat_map-append record_spelling xs ys, append_assoc X Y rest) refl in
    ap (take end) whole ∙ take_at (image (xs ++ ys)) rest end (sym end_is)

-- what of the given records fits after the front that is kept
pub record After (given : List Rec) (kept : Front) : Type 0 where
  pub is_track : IsTrack (fitting kept.room given)
  pub short : kept.end + length (flat_map record_spelling (fitting kept.room given)) ≤ longest_image
  pub few : kept.count + length (fitting kept.room given) ≤ 255

pub fits_after_kept : (after used : ℕ) (given : List Rec) (old : List ℕ) (kept : Front) → HoldsImage used old → rises_above after given ≡ true
    → kept ≡ front_up_to after (no_front 2 capacity) (track_of_image (take used old)) → After given kept
fits_after_kept after used given old kept holds above kept_is =
    let m = made after given (track_of_image (take used old)) kept holds.begins.is_track above kept_is in
    let s = made_short after given (track_of_image (take used old)) kept m in
    record { is_track = m.taken; short = s.short; few = s.few }

-- ---- what a format leaves in a slot's buffer

formatted_found : (after : ℕ) (given track : List Rec) (kept : Front) → IsTrack track → Made after given track kept → kept ≡ front_up_to after (no_front 2 capacity) track → kept.last ≡ after
    → formatted after given track ≡ up_to after track ++ fitting kept.room given
formatted_found after given track kept is m kept_is last =
    let test : ((after == 0) || has_record after track) ≡ true = sym (found_is after track is) ∙ eq-eqb _ after (sym (ap (λ (f : Front). f.last) kept_is) ∙ last) in
    rw test (ap (λ n. up_to after track ++ fitting n given) (sym m.room))

pub formatted_lost : (after : ℕ) (given track : List Rec) (kept : Front) → IsTrack track → kept ≡ front_up_to after (no_front 2 capacity) track → (kept.last ≡ after → ⊥) → track ≡ formatted after given track
formatted_lost after given track kept is kept_is other =
    let test : ((after == 0) || has_record after track) ≡ false = sym (found_is after track is) ∙ ne_eqb _ after (λ e. other (ap (λ (f : Front). f.last) kept_is ∙ e)) in
    rw test refl

pub record Formatted (after used end : ℕ) (given : List Rec) (old new : List ℕ) : Type 0 where
  pub holds : HoldsImage end new
  pub seen : track_of_image (take end new) ≡ formatted after given (track_of_image (take used old))

-- the buffer with bytes after the kept front
put_after : (X Y rest put old : List ℕ) (end : ℕ) → put ≡ with_bytes end Y old → take (end - 2) (drop 2 old) ≡ X → 2 ≤ end → end ≤ length old → drop 2 put ≡ X ++ (Y ++ drop (end + length Y) old)
put_after X Y rest put old end is kept from within =
    let two : length (take 2 old) ≡ 2 = omega (arith, length-take 2 old) in
    let split : old ≡ take 2 old ++ drop 2 old = sym (take-append-drop 2 old) in
    let tail = Y ++ drop (end + length Y) old in
    let front : take end old ≡ take 2 old ++ X = take_both 2 end old from ∙ ap (λ (t : List ℕ). take 2 old ++ t) kept in
    let whole : put ≡ take 2 old ++ (X ++ tail) = is ∙ ap (λ (t : List ℕ). t ++ tail) front ∙ append_assoc (take 2 old) X tail in
    ap (drop 2) whole ∙ drop_at (take 2 old) (X ++ tail) 2 two
  where
    take_both : (m n : ℕ) (bytes : List ℕ) → m ≤ n → take n bytes ≡ take m bytes ++ take (n - m) (drop m bytes)
    take_both m n bytes le =
        let parts : n ≡ m + (n - m) = omega (arith, le) in
        ap (λ k. take k bytes) parts ∙ take-add m (n - m) bytes

pub format_holds : (after used count end : ℕ) (given : List Rec) (old put new : List ℕ) (kept : Front) → HoldsImage used old → rises_above after given ≡ true
    → kept ≡ front_up_to after (no_front 2 capacity) (track_of_image (take used old)) → kept.last ≡ after
    → put ≡ with_bytes kept.end (flat_map record_spelling (fitting kept.room given)) old → end ≡ kept.end + length (flat_map record_spelling (fitting kept.room given))
    → count ≡ kept.count + length (fitting kept.room given) → new ≡ to_be_bytes w16 count ++ drop 2 put → Formatted after used end given old new
format_holds after used count end given old put new kept holds above kept_is last put_is end_is count_is new_is =
    let track = track_of_image (take used old) in
    let m = made after given track kept holds.begins.is_track above kept_is in
    let xs = up_to after track in
    let ys = fitting kept.room given in
    let X = flat_map record_spelling xs in
    let Y = flat_map record_spelling ys in
    let short = made_short after given track kept m in
    let rest = drop (kept.end + length Y) old in
    let same = kept_bytes old used xs m.first.after kept.end holds m.first.split m.first.end in
    let others = put_after X Y rest put old kept.end put_is same short.from (omega (arith, short.short, holds.sized)) in
    let whole : new ≡ to_be_bytes w16 count ++ (X ++ (Y ++ rest)) = new_is ∙ ap (λ (t : List ℕ). to_be_bytes w16 count ++ t) others in
    let joined_is : image (xs ++ ys) ≡ to_be_bytes w16 (length (xs ++ ys)) ++ (X ++ Y) = ap (λ (t : List ℕ). to_be_bytes w16 (length (xs ++ ys)) ++ t) (flat_map-append record_spelling xs ys) in
    let counted : count ≡ length (xs ++ ys) = omega (arith, count_is, m.first.count, length-append xs ys) in
    let long : end ≡ length (image (xs ++ ys)) = omega (arith, end_is, ap length joined_is, length-append X Y, m.first.end) in
    let begins = joined new rest count end xs ys whole counted long in
    let size : length new ≡ slot_size = omega (arith, ap length whole, length-append X (Y ++ rest), length-append Y rest, length-drop (kept.end + length Y) old, holds.sized, m.first.end, short.short) in
    record {
      holds = record { sized = size; within = omega (arith, size, end_is, short.short); begins = subst IsImage (sym begins) (image_is_image (xs ++ ys) m.is_track) };
      seen = ap track_of_image begins ∙ track_of-image (xs ++ ys) m.is_track ∙ sym (formatted_found after given track kept holds.begins.is_track m kept_is last);
    }

-- ---- the same over a list of records

-- whether `after` is the start or was found
listed_is : (after : ℕ) (track : List Rec) → IsTrack track → (last_number 0 (up_to after track) == after) ≡ ((after == 0) || has_record after track)
listed_is after track is = last_up_to after 0 track (track_rises track is) (omega arith) ∙ ap (λ (t : Bool). t || has_record after track) (turned after)

pub listed_lost : (after last : ℕ) (given track front : List Rec) → IsTrack track → front ≡ up_to after track → last ≡ last_number 0 front → (last ≡ after → ⊥) → track ≡ formatted after given track
listed_lost after last given track front is front_is last_is other =
    let test : ((after == 0) || has_record after track) ≡ false = sym (listed_is after track is) ∙ ne_eqb _ after (λ e. other (last_is ∙ ap (last_number 0) front_is ∙ e)) in
    rw test refl

-- the records up to `after`, and what fits after them
pub record Listed (after : ℕ) (given track front : List Rec) : Type 0 where
  pub front_is_track : IsTrack front
  pub front_size : track_size front ≤ capacity
  pub taken_is_track : IsTrack (fitting (capacity - track_size front) given)
  pub is_track : IsTrack (front ++ fitting (capacity - track_size front) given)
  pub sizes : track_size (front ++ fitting (capacity - track_size front) given) ≡ track_size front + track_size (fitting (capacity - track_size front) given)

pub listed : (after : ℕ) (given track front : List Rec) → IsTrack track → are_records_above after given ≡ true → front ≡ up_to after track → Listed after given track front
listed after given track front is above front_is =
    let kept = front_up_to after (no_front 2 capacity) track in
    let rises = (both_true (rises_above after given) (nat_le (track_size given) capacity) above).0 in
    let m = made after given track kept is rises refl in
    let n = made after [] track kept is refl refl in
    let xs = up_to after track in
    let parts : Listed after given track xs = record {
      front_is_track = subst (λ (t : List Rec). IsTrack t) (append-nil xs) n.is_track;
      front_size = omega (arith, m.first.room);
      taken_is_track = subst (λ k. IsTrack (fitting k given)) m.room m.taken;
      is_track = subst (λ k. IsTrack (xs ++ fitting k given)) m.room m.is_track;
      sizes = sum_by-append record_size xs (fitting (capacity - track_size xs) given);
    } in
    subst (λ (t : List Rec). Listed after given track t) (sym front_is) parts

pub listed_found : (after last : ℕ) (given track front : List Rec) → IsTrack track → front ≡ up_to after track → last ≡ last_number 0 front → last ≡ after → front ++ fitting (capacity - track_size front) given ≡ formatted after given track
listed_found after last given track front is front_is last_is found =
    let test : ((after == 0) || has_record after track) ≡ true = sym (listed_is after track is) ∙ eq-eqb _ after (sym (ap (last_number 0) front_is) ∙ sym last_is ∙ found) in
    rw test (ap (λ (t : List Rec). t ++ fitting (capacity - track_size t) given) front_is)
