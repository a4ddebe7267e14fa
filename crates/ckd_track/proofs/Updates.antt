-- An update of one record changes the bytes of its content, and no others.
use Rattle.std.proofs.Common.{◌≡◌, ℕ, ◌+◌, ◌≤◌, List, [], ◌∷◌, ◌++◌, Bool, true, false, cond, nat_le, refl, sym, ap, subst, ◌∙◌, length, take, drop, replicate, Option, Some, None, append_assoc, arith, length-append, length-take}
use Rattle.std.specs.Prelude.{◌==◌}
use Rattle.std.specs.List.{flat_map}
use Rattle.std.specs.Int.{w16, to_be_bytes}
use Rattle.std.proofs.lemmas.Bool.{eqb-true, ne_eqb}
use Rattle.std.proofs.lemmas.List.{take_at, drop_at, take-append-drop, length-replicate, length-map}
use Rattle.std.proofs.lemmas.List.Sums.{sum_by-cons}
use Rattle.ckd_track.specs.declared.rec.Rec.{Rec}
use Rattle.ckd_track.specs.Tracks.{record_size, track_size, capacity, rises_above, IsTrack}
use Rattle.ckd_track.specs.Effects.{fitted, updated, updated_record}
use Rattle.ckd_track.specs.Images.{record_spelling, image}
use Rattle.ckd_track.specs.declared.places.Place.{Place}
use Rattle.ckd_track.specs.Places.{place_of_content}
use Rattle.ckd_track.proofs.Walks.{rises_first}
use Rattle.ckd_track.proofs.Parts.{length-spelling, image_is_image, track_of-image}
use Rattle.ckd_track.specs.Slots.{IsImage, HoldsImage, track_of_image}
use Rattle.ckd_track.proofs.ImageLaws.{both_true}

-- ---- fitted

pub length-fitted : (n : ℕ) (bytes : List ℕ) → length (fitted n bytes) ≡ n
length-fitted n bytes = omega (arith, length-take n (bytes ++ replicate n 0), length-append bytes (replicate n 0), length-replicate {A = ℕ} n 0)

-- ---- records that aren't found stay

pub none_found : (number low : ℕ) (bytes : List ℕ) (recs : List Rec) → number ≤ low → rises_above low recs ≡ true → updated number bytes recs ≡ recs
none_found number low bytes [] le rises = refl
none_found number low bytes (r ∷ recs) le rises =
    let first = rises_first low r recs rises in
    let other : (r.number == number) ≡ false = ne_eqb r.number number (λ e. omega (arith, e, first.0, le)) in
    rw other (ap (λ (t : List Rec). r ∷ t) (none_found number r.number bytes recs (omega (arith, first.0, le)) first.2))

pub not_found : (number at : ℕ) (bytes : List ℕ) (recs : List Rec) → place_of_content number at recs ≡ None → updated number bytes recs ≡ recs
not_found number at bytes [] e = refl
not_found number at bytes (r ∷ recs) e = choose (r.number == number) refl (not_found number (at + (4 + length r.key + length r.content)) bytes recs) e
  where
    choose : (t : Bool) → (r.number == number) ≡ t
        → (place_of_content number (at + (4 + length r.key + length r.content)) recs ≡ None → updated number bytes recs ≡ recs)
        → cond t (Some (record { from = at + 4 + length r.key; len = length r.content })) (place_of_content number (at + (4 + length r.key + length r.content)) recs) ≡ None
        → updated number bytes (r ∷ recs) ≡ r ∷ recs
    choose true is others e = absurd cc
    choose false is others e = rw is (ap (λ (t : List Rec). r ∷ t) (others e))

-- ---- the record that is found

-- What stands before the content, the content, and what stands after it; with the bytes in its place it spells the updated records.
pub record Parts (number at : ℕ) (bytes : List ℕ) (recs : List Rec) (p : Place) : Type 0 where
  pub front : List ℕ
  pub content : List ℕ
  pub back : List ℕ
  pub old : flat_map record_spelling recs ≡ front ++ (content ++ back)
  pub new : flat_map record_spelling (updated number bytes recs) ≡ front ++ (fitted p.len bytes ++ back)
  pub from : at + length front ≡ p.from
  pub len : length content ≡ p.len

some_is : (p q : Place) → (let x : Option Place = Some p in let y : Option Place = Some q in x ≡ y) → p ≡ q
some_is p q e = cc

-- the first record is found
parts_first : (number at : ℕ) (bytes : List ℕ) (r : Rec) (recs : List Rec) → (r.number == number) ≡ true → updated number bytes recs ≡ recs
    → Parts number at bytes (r ∷ recs) (record { from = at + 4 + length r.key; len = length r.content })
parts_first number at bytes r recs is others =
    let front = (r.number ∷ length r.key ∷ []) ++ to_be_bytes w16 (length r.content) ++ r.key in
    let len = length-fitted (length r.content) bytes in
    record {
      front = front;
      content = r.content;
      back = flat_map record_spelling recs;
      old = append_assoc front r.content (flat_map record_spelling recs);
      new = rw (is, others, len) (append_assoc front (fitted (length r.content) bytes) (flat_map record_spelling recs));
      from = omega arith;
      len = refl;
    }

-- a record after the first is found
parts_after : (number at : ℕ) (bytes : List ℕ) (r : Rec) (recs : List Rec) (p : Place) → (r.number == number) ≡ false
    → Parts number (at + (4 + length r.key + length r.content)) bytes recs p → Parts number at bytes (r ∷ recs) p
parts_after number at bytes r recs p is others =
    record {
      front = record_spelling r ++ others.front;
      content = others.content;
      back = others.back;
      old = ap (λ (t : List ℕ). record_spelling r ++ t) others.old ∙ sym (append_assoc (record_spelling r) others.front (others.content ++ others.back));
      new = rw is (ap (λ (t : List ℕ). record_spelling r ++ t) others.new ∙ sym (append_assoc (record_spelling r) others.front (fitted p.len bytes ++ others.back)));
      from = omega (arith, others.from, length-spelling r, length-append (record_spelling r) others.front);
      len = others.len;
    }

pub parts_of : (number at low : ℕ) (bytes : List ℕ) (recs : List Rec) (p : Place) → rises_above low recs ≡ true → place_of_content number at recs ≡ Some p → Parts number at bytes recs p
parts_of number at low bytes [] p rises e = absurd cc
parts_of number at low bytes (r ∷ recs) p rises e =
    let first = rises_first low r recs rises in
    choose (r.number == number) refl first.2 (parts_of number (at + (4 + length r.key + length r.content)) r.number bytes recs p first.2) e
  where
    choose : (t : Bool) → (r.number == number) ≡ t → rises_above r.number recs ≡ true
        → (place_of_content number (at + (4 + length r.key + length r.content)) recs ≡ Some p → Parts number (at + (4 + length r.key + length r.content)) bytes recs p)
        → cond t (Some (record { from = at + 4 + length r.key; len = length r.content })) (place_of_content number (at + (4 + length r.key + length r.content)) recs) ≡ Some p
        → Parts number at bytes (r ∷ recs) p
    choose true is rises others e =
        let same : number ≤ r.number = omega (arith, eqb-true r.number number is) in
        subst (λ (q : Place). Parts number at bytes (r ∷ recs) q) (some_is (record { from = at + 4 + length r.key; len = length r.content }) p e)
        (parts_first number at bytes r recs is (none_found number r.number bytes recs same rises))
    choose false is rises others e = parts_after number at bytes r recs p is (others e)

-- ---- an updated track is a track

pub rises-updated : (number low : ℕ) (bytes : List ℕ) (recs : List Rec) → rises_above low (updated number bytes recs) ≡ rises_above low recs
rises-updated number low bytes [] = refl
rises-updated number low bytes (r ∷ recs) = choose (r.number == number) refl (rises-updated number r.number bytes recs)
  where
    choose : (t : Bool) → (r.number == number) ≡ t → rises_above r.number (updated number bytes recs) ≡ rises_above r.number recs
        → rises_above low (updated number bytes (r ∷ recs)) ≡ rises_above low (r ∷ recs)
    choose true is same = rw (is, same) refl
    choose false is same = rw (is, same) refl

pub sizes-updated : (number : ℕ) (bytes : List ℕ) (recs : List Rec) → track_size (updated number bytes recs) ≡ track_size recs
sizes-updated number bytes [] = refl
sizes-updated number bytes (r ∷ recs) =
    sum_by-cons record_size (updated_record number bytes r) (updated number bytes recs) ∙ choose (r.number == number) refl (sizes-updated number bytes recs) ∙ sym (sum_by-cons record_size r recs)
  where
    choose : (t : Bool) → (r.number == number) ≡ t → track_size (updated number bytes recs) ≡ track_size recs
        → record_size (updated_record number bytes r) + track_size (updated number bytes recs) ≡ record_size r + track_size recs
    choose true is same = rw (is, same, length-fitted (length r.content) bytes) refl
    choose false is same = rw (is, same) refl

pub updated_is_track : (number : ℕ) (bytes : List ℕ) (track : List Rec) → IsTrack track → IsTrack (updated number bytes track)
updated_is_track number bytes track is = rw (rises-updated number 0 bytes track, sizes-updated number bytes track) is

-- ---- in a slot's buffer

-- bytes in the place of others of the same length
pub splice : (x content y back tail old new : List ℕ) (from len used : ℕ) → old ≡ (x ++ (content ++ back)) ++ tail → length x ≡ from → length content ≡ len → length y ≡ len
    → used ≡ length (x ++ (content ++ back)) → new ≡ take from old ++ (y ++ drop (from + len) old) → (take used new ≡ x ++ (y ++ back)) × (length new ≡ length old)
splice x content y back tail old new from len used is from_is len_is same used_is e =
    let all = length-append x (content ++ back) in
    let both = length-append content back in
    let lead : old ≡ x ++ ((content ++ back) ++ tail) = is ∙ append_assoc x (content ++ back) tail in
    let after : old ≡ (x ++ content) ++ (back ++ tail) = is ∙ simp append_assoc in
    let front : take from old ≡ x = ap (take from) lead ∙ take_at x ((content ++ back) ++ tail) from from_is in
    let rest : drop (from + len) old ≡ back ++ tail = ap (drop (from + len)) after ∙ drop_at (x ++ content) (back ++ tail) (from + len) (omega (arith, length-append x content)) in
    let whole : new ≡ (x ++ (y ++ back)) ++ tail = e ∙ rw (front, rest) (simp append_assoc) in
    let size : length (x ++ (y ++ back)) ≡ used = omega (arith, length-append x (y ++ back), length-append y back) in
    (ap (take used) whole ∙ take_at (x ++ (y ++ back)) tail used size, omega (arith, ap length whole, ap length is, length-append (x ++ (y ++ back)) tail, length-append (x ++ (content ++ back)) tail))

-- the buffer before, split at the content that is found
record Split (number : ℕ) (bytes : List ℕ) (used : ℕ) (old : List ℕ) (p : Place) : Type 0 where
  x : List ℕ
  content : List ℕ
  back : List ℕ
  old_is : take used old ≡ x ++ (content ++ back)
  new_is : image (updated number bytes (track_of_image (take used old))) ≡ x ++ (fitted p.len bytes ++ back)
  from : length x ≡ p.from
  len : length content ≡ p.len

split_of : (number used : ℕ) (bytes old : List ℕ) (p : Place) → HoldsImage used old → place_of_content number 2 (track_of_image (take used old)) ≡ Some p → Split number bytes used old p
split_of number used bytes old p holds e =
    let track = track_of_image (take used old) in
    let is = both_true (rises_above 0 track) (nat_le (track_size track) capacity) holds.begins.is_track in
    let parts = parts_of number 2 0 bytes track p is.0 e in
    let two = to_be_bytes w16 (length track) in
    let same : length (updated number bytes track) ≡ length track = length-map track (updated_record number bytes) in
    record {
      x = two ++ parts.front;
      content = parts.content;
      back = parts.back;
      old_is = holds.begins.spelled ∙ ap (λ (t : List ℕ). two ++ t) parts.old ∙ sym (append_assoc two parts.front (parts.content ++ parts.back));
      new_is = ap (λ (n : ℕ). to_be_bytes w16 n ++ flat_map record_spelling (updated number bytes track)) same ∙ ap (λ (t : List ℕ). two ++ t) parts.new ∙ sym (append_assoc two parts.front (fitted p.len bytes ++ parts.back));
      from = omega (arith, parts.from);
      len = parts.len;
    }

pub place_within : (number used : ℕ) (bytes old : List ℕ) (p : Place) → HoldsImage used old → place_of_content number 2 (track_of_image (take used old)) ≡ Some p → p.from + p.len ≤ length old
place_within number used bytes old p holds e =
    let s = split_of number used bytes old p holds e in
    omega (arith, s.from, s.len, ap length s.old_is, length-append s.x (s.content ++ s.back), length-append s.content s.back, length-take used old, holds.within)

pub record Updated (number : ℕ) (bytes : List ℕ) (used : ℕ) (old new : List ℕ) : Type 0 where
  pub holds : HoldsImage used new
  pub seen : track_of_image (take used new) ≡ updated number bytes (track_of_image (take used old))

pub update_holds : (number used : ℕ) (bytes old new : List ℕ) (p : Place) → HoldsImage used old → place_of_content number 2 (track_of_image (take used old)) ≡ Some p
    → new ≡ take p.from old ++ (fitted p.len bytes ++ drop (p.from + p.len) old) → Updated number bytes used old new
update_holds number used bytes old new p holds e is =
    let s = split_of number used bytes old p holds e in
    let track = updated number bytes (track_of_image (take used old)) in
    let is_track : IsTrack track = updated_is_track number bytes (track_of_image (take used old)) holds.begins.is_track in
    let all : old ≡ (s.x ++ (s.content ++ s.back)) ++ drop used old = sym (take-append-drop used old) ∙ ap (λ (t : List ℕ). t ++ drop used old) s.old_is in
    let used_is : used ≡ length (s.x ++ (s.content ++ s.back)) = omega (arith, ap length s.old_is, length-take used old, holds.within) in
    let new_is = splice s.x s.content (fitted p.len bytes) s.back (drop used old) old new p.from p.len used all s.from s.len (length-fitted p.len bytes) used_is is in
    let spelled : take used new ≡ image track = new_is.0 ∙ sym s.new_is in
    record {
      holds = record { sized = new_is.1 ∙ holds.sized; within = omega (arith, new_is.1, holds.within); begins = subst IsImage (sym spelled) (image_is_image track is_track) };
      seen = ap track_of_image spelled ∙ track_of-image track is_track;
    }
