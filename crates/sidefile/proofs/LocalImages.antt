-- The same for records and images.
use Rattle.std.proofs.Common.{◌≡◌, ℕ, zero, suc, ◌+◌, ◌-◌, ◌≤◌, false, cond, nat_lt, nat_le, List, [], ◌∷◌, ◌++◌, length, take, drop, Result, Ok, Err, refl, sym, ap, subst, ◌∙◌, append_assoc, arith, length-append, length-take, length-drop}
use Rattle.std.specs.Int.{w16, from_be_bytes}
use Rattle.std.proofs.lemmas.Bool.{le-ltb, ltb-false}
use Rattle.std.proofs.lemmas.List.{drop_at, take-append-drop, take-append-le}
use Rattle.tod_stamp.specs.Fields.{◌>>=◌, Left}
use Rattle.tod_stamp.proofs.FieldLaws.{bind_ok, guard_ok}
use Rattle.ckd_track.specs.declared.rec.Rec.{Rec}
use Rattle.ckd_track.specs.Tracks.{record_size, capacity}
use Rattle.ckd_track.specs.declared.fault.ImageError.{ImageError}
use Rattle.ckd_track.specs.declared.fault.ImageError.TheVariants.{Short, TooBig, Order, NoMemory}
use Rattle.ckd_track.specs.Images.{record_spelling, record_after_head, record_at, records_at, image_at}
use Rattle.write_trace.specs.Headers.{as_field, image_field}
use Rattle.write_trace.specs.Entries.{records_field}
use Rattle.write_trace.proofs.Steady.{drop-append-le}
use Rattle.sidefile.proofs.Local.{at, Taken, IsLocal, given_is}

pub record TakenImage {A : Type 0} (f : List ℕ → Result (A × List ℕ) ImageError) (bytes : List ℕ) (x : A × List ℕ) : Type 0 where
  pub text : List ℕ
  pub parts : bytes ≡ text ++ x.1
  pub again : (more : List ℕ) → f (text ++ more) ≡ Ok (x.0, more)

-- the parts of a record's body, by the text that has both
body_parts : (k c : ℕ) (bytes more : List ℕ) → k + c ≤ length bytes
    → (take k (take (k + c) bytes ++ more) ≡ take k bytes) × (take c (drop k (take (k + c) bytes ++ more)) ≡ take c (drop k bytes)) × (drop (k + c) (take (k + c) bytes ++ more) ≡ more)
body_parts k c bytes more le =
    let text = take (k + c) bytes in
    let len : length text ≡ k + c = omega (arith, length-take (k + c) bytes) in
    let parts = take-append-drop (k + c) bytes in
    let kle : k ≤ length text = omega (arith, len) in
    let cle : c ≤ length (drop k text) = omega (arith, length-drop k text) in
    let key : take k text ≡ take k bytes = sym (take-append-le k text (drop (k + c) bytes) kle) ∙ ap (take k) parts in
    let tail : drop k bytes ≡ drop k text ++ drop (k + c) bytes = ap (λ (t : List ℕ). drop k t) (sym parts) ∙ drop-append-le k text (drop (k + c) bytes) kle in (
      take-append-le k text more kle ∙ key,
      ap (take c) (drop-append-le k text more kle) ∙ take-append-le c (drop k text) more cle ∙ sym (take-append-le c (drop k text) (drop (k + c) bytes) cle) ∙ ap (take c) (sym tail),
      drop_at text more (k + c) len,
    )

head_local : (place last room number k c : ℕ) (bytes : List ℕ) (x : Rec × List ℕ) → record_after_head place last room number k c bytes ≡ Ok x → TakenImage (record_after_head place last room number k c) bytes x
unfolding record_after_head
head_local place last room number k c bytes x e =
    let made : Rec × List ℕ = (record { number = number; key = take k bytes; content = take c (drop k bytes) }, drop (k + c) bytes) in
    let three = cond (nat_lt (length bytes) (k + c)) (Err Short) (Ok made) in
    let one = guard_ok (nat_le number last) (Order place) (cond (nat_lt room (8 + k + c)) (Err TooBig) three) x e in
    let two = guard_ok (nat_lt room (8 + k + c)) TooBig three x one.1 in
    let short = guard_ok (nat_lt (length bytes) (k + c)) Short (Ok made) x two.1 in
    let le : k + c ≤ length bytes = ltb-false (length bytes) (k + c) short.0 in
    let len : length (take (k + c) bytes) ≡ k + c = omega (arith, length-take (k + c) bytes) in
    subst (λ (p : Rec × List ℕ). TakenImage (record_after_head place last room number k c) bytes p) (given_is made x short.1) (record {
      text = take (k + c) bytes;
      parts = sym (take-append-drop (k + c) bytes);
      again = λ more.
          let long : nat_lt (length (take (k + c) bytes ++ more)) (k + c) ≡ false = le-ltb _ _ (omega (arith, len, length-append (take (k + c) bytes) more)) in
          let p = body_parts k c bytes more le in
          rw (one.0, two.0, long, p.0, p.1, p.2) refl;
    })

record_local : (place last room : ℕ) (bytes : List ℕ) (x : Rec × List ℕ) → record_at place last room bytes ≡ Ok x → TakenImage (record_at place last room) bytes x
unfolding record_at
record_local place last room [] x e = absurd cc
record_local place last room (a ∷ []) x e = absurd cc
record_local place last room (a ∷ b ∷ []) x e = absurd cc
record_local place last room (a ∷ b ∷ c ∷ []) x e = absurd cc
record_local place last room (a ∷ b ∷ c ∷ d ∷ bytes) x e =
    let short : nat_lt (length (a ∷ b ∷ c ∷ d ∷ bytes)) 4 ≡ false = le-ltb _ _ (omega arith) in
    let body : record_after_head place last room a b (from_be_bytes w16 (c ∷ d ∷ [])) bytes ≡ Ok x = sym (rw short refl) ∙ e in
    let p = head_local place last room a b (from_be_bytes w16 (c ∷ d ∷ [])) bytes x body in
    record {
      text = a ∷ b ∷ c ∷ d ∷ p.text;
      parts = ap (λ (t : List ℕ). a ∷ b ∷ c ∷ d ∷ t) p.parts;
      again = λ more.
          let long : nat_lt (length (a ∷ b ∷ c ∷ d ∷ p.text ++ more)) 4 ≡ false = le-ltb _ _ (omega arith) in
          rw long (p.again more);
    }

then_local : {A B : Type 0} (f : List ℕ → Result (A × List ℕ) ImageError) (g : A × List ℕ → Result (B × List ℕ) ImageError) (bytes : List ℕ) (x : B × List ℕ) (y : A × List ℕ)
    → TakenImage f bytes y → TakenImage (λ rest. g (y.0, rest)) y.1 x → TakenImage (λ bytes. f bytes >>= g) bytes x
then_local f g bytes x y p q = record {
  text = p.text ++ q.text;
  parts = p.parts ∙ ap (λ (t : List ℕ). p.text ++ t) q.parts ∙ sym (append_assoc p.text q.text x.1);
  again = λ more.
      ap (λ (t : List ℕ). f t >>= g) (append_assoc p.text q.text more)
      ∙ ap (λ (r : Result (_ × List ℕ) ImageError). r >>= g) (p.again (q.text ++ more))
      ∙ q.again more;
}

pub records_local : (count place last room : ℕ) (bytes : List ℕ) (x : List Rec × List ℕ) → records_at count place last room bytes ≡ Ok x → TakenImage (records_at count place last room) bytes x
unfolding records_at
records_local zero place last room bytes x e = subst (λ (p : List Rec × List ℕ). TakenImage (records_at zero place last room) bytes p) (given_is ([], bytes) x e)
    (record { text = []; parts = refl; again = λ more. refl })
records_local (suc count) place last room bytes x e =
    let g : Rec × List ℕ → Result (List Rec × List ℕ) ImageError = λ first. records_at count (place + length (record_spelling first.0)) first.0.number (room - record_size first.0) first.1 >>= λ others. Ok (first.0 ∷ others.0, others.1) in
    let b = bind_ok (record_at place last room bytes) g x e in
    let r = b.0.0 in
    let h : List Rec × List ℕ → Result (List Rec × List ℕ) ImageError = λ others. Ok (r ∷ others.0, others.1) in
    let c = bind_ok (records_at count (place + length (record_spelling r)) r.number (room - record_size r) b.0.1) h x b.2 in
    let last_part : TakenImage (λ rest. h (c.0.0, rest)) c.0.1 x = subst (λ (p : List Rec × List ℕ). TakenImage (λ rest. h (c.0.0, rest)) c.0.1 p) (given_is (r ∷ c.0.0, c.0.1) x c.2)
    (record { text = []; parts = refl; again = λ more. refl }) in
    then_local (record_at place last room) g bytes x b.0 (record_local place last room bytes b.0 b.1)
    (then_local (records_at count (place + length (record_spelling r)) r.number (room - record_size r)) h b.0.1 x c.0 (records_local count (place + length (record_spelling r)) r.number (room - record_size r) b.0.1 c.0 c.1) last_part)

image_again : (a b : ℕ) (rest : List ℕ) (y : List Rec × List ℕ) → nat_lt 255 (from_be_bytes w16 (a ∷ b ∷ [])) ≡ false → records_at (from_be_bytes w16 (a ∷ b ∷ [])) 2 0 capacity rest ≡ Ok y → image_at (a ∷ b ∷ rest) ≡ Ok y
unfolding image_at
image_again a b rest y small h =
    let long : nat_lt (length (a ∷ b ∷ rest)) 2 ≡ false = le-ltb _ _ (omega arith) in
    rw (long, small) h

pub image_local : (bytes : List ℕ) (x : List Rec × List ℕ) → image_at bytes ≡ Ok x → TakenImage image_at bytes x
unfolding image_at
image_local [] x e = absurd cc
image_local (a ∷ []) x e = absurd cc
image_local (a ∷ b ∷ bytes) x e =
    let n = from_be_bytes w16 (a ∷ b ∷ []) in
    let one = guard_ok (nat_lt (length (a ∷ b ∷ bytes)) 2) Short (cond (nat_lt 255 n) (Err (Order 0)) (records_at n 2 0 capacity bytes)) x e in
    let two = guard_ok (nat_lt 255 n) (Order 0) (records_at n 2 0 capacity bytes) x one.1 in
    let p = records_local n 2 0 capacity bytes x two.1 in
    record {
      text = a ∷ b ∷ p.text;
      parts = ap (λ (t : List ℕ). a ∷ b ∷ t) p.parts;
      again = λ more. image_again a b (p.text ++ more) (x.0, more) two.0 (p.again more);
    }

-- ---- as one field

field_local : (g : List ℕ → Result (List Rec × List ℕ) ImageError) (left : Left) (r : Result (List Rec × List ℕ) ImageError) (x : List Rec × Left) → g left.bytes ≡ r
    → ((y : List Rec × List ℕ) → g left.bytes ≡ Ok y → TakenImage g left.bytes y) → as_field left r ≡ Ok x → Taken (λ l. as_field l (g l.bytes)) left x
field_local g left (Ok y) x is h e =
    let p = h y is in
    let gone : (rest : List ℕ) → length (p.text ++ rest) - length rest ≡ length p.text = λ rest. omega (arith, length-append p.text rest) in
    subst (λ (q : List Rec × Left). Taken (λ l. as_field l (g l.bytes)) left q)
    (given_is (y.0, record { place = left.place + (length left.bytes - length y.1); bytes = y.1 }) x e)
    (record {
      text = p.text;
      parts = p.parts;
      place = ap (λ n. left.place + n) (ap (λ (t : List ℕ). length t - length y.1) p.parts ∙ gone y.1);
      again = λ more. ap (as_field (at left.place (p.text ++ more))) (p.again more) ∙ ap (λ n. Ok (y.0, at (left.place + n) more)) (gone more);
    })
field_local g left (Err Short) x is h e = absurd cc
field_local g left (Err TooBig) x is h e = absurd cc
field_local g left (Err NoMemory) x is h e = absurd cc
field_local g left (Err (Order place)) x is h e = absurd cc

pub local_image : IsLocal image_field
local_image left x e = field_local image_at left (image_at left.bytes) x refl (image_local left.bytes) e

-- A bad place is named from where the records stand, so these are local at one place.
pub local_records : (count low : ℕ) → IsLocal (records_field count low)
local_records count low left x e =
    let p = field_local (records_at count left.place low capacity) left (records_at count left.place low capacity left.bytes) x refl (records_local count left.place low capacity left.bytes) e in
    record { text = p.text; parts = p.parts; place = p.place; again = p.again }
