-- What is read from the front of some bytes is read from all of them, unless the front ends too early.
use Rattle.std.proofs.Common.{◌≡◌, ◌⊎◌, inl, inr, ℕ, zero, suc, ◌+◌, ◌-◌, ◌≤◌, Bool, true, false, nat_lt, nat_le, List, [], ◌∷◌, ◌++◌, length, take, drop, Result, Ok, Err, refl, sym, ap, ◌∙◌, arith, length-append, length-drop}
use Rattle.std.specs.Int.{w16, from_be_bytes}
use Rattle.std.proofs.lemmas.Bool.{le-ltb, ltb-false}
use Rattle.std.proofs.lemmas.List.{take-append-le, drop-append-le}
use Rattle.tod_stamp.specs.Fields.{◌>>=◌}
use Rattle.ckd_track.specs.declared.fault.ImageError.{ImageError}
use Rattle.ckd_track.specs.declared.fault.ImageError.TheVariants.{Short}
use Rattle.ckd_track.specs.declared.rec.Rec.{Rec}
use Rattle.ckd_track.specs.Tracks.{record_size, capacity}
use Rattle.ckd_track.specs.Images.{record_spelling, record_after_head, record_at, records_at, image_at}

-- the same, with more bytes left
abbrev pub with_more : {X : Type 0} → (more : List ℕ) → Result (X × List ℕ) ImageError → Result (X × List ℕ) ImageError
with_more more (Ok read) = Ok (read.0, read.1 ++ more)
with_more more (Err bad) = Err bad

-- The bytes end too early for a reader, or it reads the same whatever stands after them.
abbrev pub EndsOrReads : {X : Type 0} → (List ℕ → Result (X × List ℕ) ImageError) → (front more : List ℕ) → Type 0
EndsOrReads f front more = (f front ≡ Err Short) ⊎ (f (front ++ more) ≡ with_more more (f front))

head_reads : (place last room number k c : ℕ) (t more : List ℕ) → EndsOrReads (record_after_head place last room number k c) t more
unfolding record_after_head
head_reads place last room number k c t more = by_number (nat_le number last) refl
  where
    by_length : (b : Bool) → nat_lt (length t) (k + c) ≡ b → nat_lt room (8 + k + c) ≡ false → nat_le number last ≡ false → EndsOrReads (record_after_head place last room number k c) t more
    by_length true short small above = inl (rw (above, small, short) refl)
    by_length false whole small above =
        let fits : k + c ≤ length t = ltb-false (length t) (k + c) whole in
        let there : nat_lt (length (t ++ more)) (k + c) ≡ false = le-ltb _ _ (omega (arith, fits, length-append t more)) in
        let key : take k (t ++ more) ≡ take k t = take-append-le k t more (omega (arith, fits)) in
        let tail : drop k (t ++ more) ≡ drop k t ++ more = drop-append-le k t more (omega (arith, fits)) in
        let content : take c (drop k t ++ more) ≡ take c (drop k t) = take-append-le c (drop k t) more (omega (arith, fits, length-drop k t)) in
        let rest : drop (k + c) (t ++ more) ≡ drop (k + c) t ++ more = drop-append-le (k + c) t more (omega (arith, fits)) in
        inr (rw (above, small, whole, there, key, tail, content, rest) refl)

    by_room : (b : Bool) → nat_lt room (8 + k + c) ≡ b → nat_le number last ≡ false → EndsOrReads (record_after_head place last room number k c) t more
    by_room true big above = inr (rw (above, big) refl)
    by_room false small above = by_length (nat_lt (length t) (k + c)) refl small above

    by_number : (b : Bool) → nat_le number last ≡ b → EndsOrReads (record_after_head place last room number k c) t more
    by_number true low = inr (rw low refl)
    by_number false above = by_room (nat_lt room (8 + k + c)) refl above

record_reads : (place last room : ℕ) (t more : List ℕ) → EndsOrReads (record_at place last room) t more
unfolding record_at
record_reads place last room [] more = inl refl
record_reads place last room (a ∷ []) more = inl refl
record_reads place last room (a ∷ b ∷ []) more = inl refl
record_reads place last room (a ∷ b ∷ c ∷ []) more = inl refl
record_reads place last room (a ∷ b ∷ c ∷ d ∷ t) more = elim (head_reads place last room a b (from_be_bytes w16 (c ∷ d ∷ [])) t more) [
  | inl ends ↦ inl (rw here ends)
  | inr reads ↦ inr (rw (here, there) reads)
]
  where
    here : nat_lt (length (a ∷ b ∷ c ∷ d ∷ t)) 4 ≡ false
    here = le-ltb _ _ (omega arith)

    there : nat_lt (length (a ∷ b ∷ c ∷ d ∷ t ++ more)) 4 ≡ false
    there = le-ltb _ _ (omega arith)

-- a record before those that were read
after_first : (r : Rec) (more : List ℕ) (read : Result (List Rec × List ℕ) ImageError) → (with_more more read >>= λ others. Ok (r ∷ others.0, others.1)) ≡ with_more more (read >>= λ others. Ok (r ∷ others.0, others.1))
after_first r more (Ok found) = refl
after_first r more (Err bad) = refl

records_read : (count place last room : ℕ) (t more : List ℕ) → EndsOrReads (records_at count place last room) t more
unfolding records_at
records_read zero place last room t more = inr refl
records_read (suc count) place last room t more = elim (record_reads place last room t more) [
  | inl ends ↦ inl (ap (λ (x : Result (Rec × List ℕ) ImageError). x >>= next) ends)
  | inr reads ↦
      by_first (record_at place last room t) refl reads (λ first. records_read count (place + length (record_spelling first.0)) first.0.number (room - record_size first.0) first.1 more)
]
  where
    others_at : Rec × List ℕ → Result (List Rec × List ℕ) ImageError
    others_at first = records_at count (place + length (record_spelling first.0)) first.0.number (room - record_size first.0) first.1

    next : Rec × List ℕ → Result (List Rec × List ℕ) ImageError
    next first = others_at first >>= λ others. Ok (first.0 ∷ others.0, others.1)

    by_first : (read : Result (Rec × List ℕ) ImageError) → record_at place last room t ≡ read → record_at place last room (t ++ more) ≡ with_more more (record_at place last room t)
        → ((first : Rec × List ℕ) → EndsOrReads (records_at count (place + length (record_spelling first.0)) first.0.number (room - record_size first.0)) first.1 more)
        → EndsOrReads (records_at (suc count) place last room) t more
    by_first (Err bad) is reads after = inr (
        ap (λ (x : Result (Rec × List ℕ) ImageError). x >>= next) reads
        ∙ ap (λ (x : Result (Rec × List ℕ) ImageError). with_more more x >>= next) is
        ∙ sym (ap (λ (x : Result (Rec × List ℕ) ImageError). with_more more (x >>= next)) is)
        )
    by_first (Ok first) is reads after = elim (after first) [
      | inl ends ↦ inl (ap (λ (x : Result (Rec × List ℕ) ImageError). x >>= next) is ∙ ap (λ (x : Result (List Rec × List ℕ) ImageError). x >>= λ others. Ok (first.0 ∷ others.0, others.1)) ends)
      | inr same ↦ inr (
          ap (λ (x : Result (Rec × List ℕ) ImageError). x >>= next) reads
          ∙ ap (λ (x : Result (Rec × List ℕ) ImageError). with_more more x >>= next) is
          ∙ ap (λ (x : Result (List Rec × List ℕ) ImageError). x >>= λ others. Ok (first.0 ∷ others.0, others.1)) same
          ∙ after_first first.0 more (others_at first)
          ∙ sym (ap (λ (x : Result (Rec × List ℕ) ImageError). with_more more (x >>= next)) is)
          )
    ]

image_reads : (t more : List ℕ) → EndsOrReads image_at t more
unfolding image_at
image_reads [] more = inl refl
image_reads (a ∷ []) more = inl refl
image_reads (a ∷ b ∷ t) more = by_count (nat_lt 255 (from_be_bytes w16 (a ∷ b ∷ []))) refl
  where
    here : nat_lt (length (a ∷ b ∷ t)) 2 ≡ false
    here = le-ltb _ _ (omega arith)

    there : nat_lt (length (a ∷ b ∷ t ++ more)) 2 ≡ false
    there = le-ltb _ _ (omega arith)

    by_count : (many : Bool) → nat_lt 255 (from_be_bytes w16 (a ∷ b ∷ [])) ≡ many → EndsOrReads image_at (a ∷ b ∷ t) more
    by_count true many = inr (rw (here, there, many) refl)
    by_count false few = elim (records_read (from_be_bytes w16 (a ∷ b ∷ [])) 2 0 capacity t more) [
      | inl ends ↦ inl (rw (here, few) ends)
      | inr reads ↦ inr (rw (here, there, few) reads)
    ]

-- An image that lies whole in the front of some bytes is the one that they begin with.
pub image_in_front : (front more rest : List ℕ) (track : List Rec) → image_at front ≡ Ok (track, rest) → image_at (front ++ more) ≡ Ok (track, rest ++ more)
image_in_front front more rest track is = elim (image_reads front more) [
  | inl ends ↦ absurd (cc (is, ends))
  | inr reads ↦ reads ∙ ap (with_more more) is
]
