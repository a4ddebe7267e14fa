-- The track that bytes begin with, whatever stands after the longest image.
use Rattle.std.proofs.Common.{◌≡◌, ◌⊎◌, inl, inr, ℕ, zero, suc, ◌+◌, ◌-◌, ◌≤◌, Bool, true, false, nat_lt, nat_le, List, [], ◌∷◌, ◌++◌, length, take, drop, Option, Some, None, Result, Ok, Err, refl, sym, ap, ◌∙◌, arith, length-append, length-take, length-drop}
use Rattle.std.specs.Prelude.{slice_range}
use Rattle.std.specs.Int.{w16, from_be_bytes}
use Rattle.std.proofs.lemmas.Bool.{le-ltb, ltb-false}
use Rattle.std.proofs.lemmas.List.{take-append-le, drop-append-le, take-append-drop}
use Rattle.tod_stamp.specs.Fields.{◌>>=◌}
use Rattle.ckd_track.specs.declared.rec.Rec.{Rec}
use Rattle.ckd_track.specs.declared.fault.ImageError.{ImageError}
use Rattle.ckd_track.specs.declared.fault.ImageError.TheVariants.{TooBig, Order}
use Rattle.ckd_track.specs.Tracks.{record_size, capacity}
use Rattle.ckd_track.specs.Images.{record_spelling, record_after_head, record_at, records_at, image_at}
use Rattle.ckd_track.specs.SlotPlaces.{track_read}

-- a record that is refused, or taken, whatever stands after
pub record Refused (f : List ℕ → Result (Rec × List ℕ) ImageError) (t : List ℕ) : Type 0 where
  pub error : ImageError
  pub is : (more : List ℕ) → f (t ++ more) ≡ Err error

pub record Taken (f : List ℕ → Result (Rec × List ℕ) ImageError) (room : ℕ) (t : List ℕ) : Type 0 where
  pub r : Rec
  pub left : List ℕ
  pub is : (more : List ℕ) → f (t ++ more) ≡ Ok (r, left ++ more)
  pub long : room - record_size r + 4 ≤ length left

abbrev pub Decides : (List ℕ → Result (Rec × List ℕ) ImageError) → (room : ℕ) → List ℕ → Type 0
Decides f room t = Refused f t ⊎ Taken f room t

head_decides : (place last room number k c : ℕ) (t : List ℕ) → room ≤ length t → Decides (record_after_head place last room number k c) room t
unfolding record_after_head
head_decides place last room number k c t long = by_number (nat_le number last) refl
  where
    made : Rec
    made = record { number = number; key = take k t; content = take c (drop k t) }

    by_room : (b : Bool) → nat_lt room (8 + k + c) ≡ b → nat_le number last ≡ false → Decides (record_after_head place last room number k c) room t
    by_room true big above = inl (record { error = TooBig; is = λ more. rw (above, big) refl })
    by_room false small above =
        let fits : 8 + k + c ≤ room = ltb-false room (8 + k + c) small in
        inr (record {
          r = made;
          left = drop (k + c) t;
          is = λ more.
              let there : nat_lt (length (t ++ more)) (k + c) ≡ false = le-ltb _ _ (omega (arith, fits, long, length-append t more)) in
              let key : take k (t ++ more) ≡ take k t = take-append-le k t more (omega (arith, fits, long)) in
              let tail : drop k (t ++ more) ≡ drop k t ++ more = drop-append-le k t more (omega (arith, fits, long)) in
              let content : take c (drop k t ++ more) ≡ take c (drop k t) = take-append-le c (drop k t) more (omega (arith, fits, long, length-drop k t)) in
              let rest : drop (k + c) (t ++ more) ≡ drop (k + c) t ++ more = drop-append-le (k + c) t more (omega (arith, fits, long)) in
              rw (above, small, there, key, tail, content, rest) refl;
          long = omega (arith, fits, long, length-drop (k + c) t, length-take k t, length-take c (drop k t), length-drop k t);
        })

    by_number : (b : Bool) → nat_le number last ≡ b → Decides (record_after_head place last room number k c) room t
    by_number true low = inl (record { error = Order place; is = λ more. rw low refl })
    by_number false above = by_room (nat_lt room (8 + k + c)) refl above

record_decides : (place last room : ℕ) (t : List ℕ) → room + 4 ≤ length t → Decides (record_at place last room) room t
unfolding record_at
record_decides place last room [] long = absurd (omega (arith, long))
record_decides place last room (a ∷ []) long = absurd (omega (arith, long))
record_decides place last room (a ∷ b ∷ []) long = absurd (omega (arith, long))
record_decides place last room (a ∷ b ∷ c ∷ []) long = absurd (omega (arith, long))
record_decides place last room (a ∷ b ∷ c ∷ d ∷ t) long = elim (head_decides place last room a b (from_be_bytes w16 (c ∷ d ∷ [])) t (omega (arith, long))) [
  | inl bad ↦ inl (record { error = bad.error; is = λ more. rw (there more) (bad.is more) })
  | inr good ↦ inr (record { r = good.r; left = good.left; is = λ more. rw (there more) (good.is more); long = good.long })
]
  where
    there : (more : List ℕ) → nat_lt (length (a ∷ b ∷ c ∷ d ∷ t ++ more)) 4 ≡ false
    there more = le-ltb _ _ (omega arith)

-- a record before those that were read
abbrev grown : Rec → Option (List Rec) → Option (List Rec)
grown r (Some recs) = Some (r ∷ recs)
grown r None = None

grown_is : (r : Rec) (read : Result (List Rec × List ℕ) ImageError) → track_read (read >>= λ others. Ok (r ∷ others.0, others.1)) ≡ grown r (track_read read)
grown_is r (Ok found) = refl
grown_is r (Err bad) = refl

pub records_same : (count place last room : ℕ) (t more other : List ℕ) → room + 4 ≤ length t → track_read (records_at count place last room (t ++ more)) ≡ track_read (records_at count place last room (t ++ other))
unfolding records_at
records_same zero place last room t more other long = refl
records_same (suc count) place last room t more other long = elim (record_decides place last room t long) [
  | inl bad ↦ ap (λ (x : Result (Rec × List ℕ) ImageError). track_read (x >>= next)) (bad.is more ∙ sym (bad.is other))
  | inr good ↦
      let place_then = place + length (record_spelling good.r) in
      let room_then = room - record_size good.r in
      ap (λ (x : Result (Rec × List ℕ) ImageError). track_read (x >>= next)) (good.is more)
      ∙ grown_is good.r (records_at count place_then good.r.number room_then (good.left ++ more))
      ∙ ap (grown good.r) (records_same count place_then good.r.number room_then good.left more other good.long)
      ∙ sym (grown_is good.r (records_at count place_then good.r.number room_then (good.left ++ other)))
      ∙ ap (λ (x : Result (Rec × List ℕ) ImageError). track_read (x >>= next)) (sym (good.is other))
]
  where
    next : Rec × List ℕ → Result (List Rec × List ℕ) ImageError
    next first = records_at count (place + length (record_spelling first.0)) first.0.number (room - record_size first.0) first.1 >>= λ others. Ok (first.0 ∷ others.0, others.1)

pub image_same : (t more other : List ℕ) → 56670 ≤ length t → track_read (image_at (t ++ more)) ≡ track_read (image_at (t ++ other))
unfolding image_at
image_same [] more other long = absurd (omega (arith, long))
image_same (a ∷ []) more other long = absurd (omega (arith, long))
image_same (a ∷ b ∷ t) more other long = by_count (nat_lt 255 (from_be_bytes w16 (a ∷ b ∷ []))) refl
  where
    there : (rest : List ℕ) → nat_lt (length (a ∷ b ∷ t ++ rest)) 2 ≡ false
    there rest = le-ltb _ _ (omega arith)

    by_count : (many : Bool) → nat_lt 255 (from_be_bytes w16 (a ∷ b ∷ [])) ≡ many → track_read (image_at ((a ∷ b ∷ t) ++ more)) ≡ track_read (image_at ((a ∷ b ∷ t) ++ other))
    by_count true many = rw (there more, there other, many) refl
    by_count false few = rw (there more, there other, few) (records_same (from_be_bytes w16 (a ∷ b ∷ [])) 2 0 capacity t more other (omega (arith, long)))

-- bytes after a place, as a range and what follows
pub after_is : (p q : ℕ) (b : List ℕ) → drop p b ≡ slice_range b p q ++ drop (q - p) (drop p b)
after_is p q b = sym (take-append-drop (q - p) (drop p b))
