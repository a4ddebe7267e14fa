-- What an image spells is read again, whatever follows; and what is read was spelled so.
use Rattle.std.proofs.Common.{◌≡◌, ℕ, zero, suc, ◌+◌, ◌-◌, ◌^◌, ◌<◌, ◌≤◌, max, Bool, true, false, cond, nat_lt, nat_le, ◌&&◌, List, [], ◌∷◌, ◌++◌, length, take, drop, Result, Ok, Err, refl, sym, ap, subst, ◌∙◌, append_assoc, arith, length-append, length-take, length-drop, get_or}
use Rattle.std.specs.Prelude.{slice_range}
use Rattle.std.specs.List.{flat_map}
use Rattle.std.specs.Int.{w16, to_be_bytes, from_be_bytes}
use Rattle.std.proofs.lemmas.Bool.{le-ltb, lt-leb, leb-true, leb-false, le-leb, ltb-false}
use Rattle.std.proofs.lemmas.List.{take_at, drop_at, take-append-drop, drop-drop}
use Rattle.std.proofs.lemmas.List.Sums.{sum_by-cons}
use Rattle.std.proofs.lemmas.Nat.{from_be_bytes-to_be_bytes_2, be_bytes_2}
use Rattle.tod_stamp.specs.Fields.{within, ◌>>=◌, IsBytes}
use Rattle.tod_stamp.proofs.FieldLaws.{IsBytes-drop, IsBytes-take, guard_ok, bind_ok}
use Rattle.ckd_track.specs.declared.fault.ImageError.{ImageError}
use Rattle.ckd_track.specs.declared.fault.ImageError.TheVariants.{Short, TooBig, Order}
use Rattle.ckd_track.specs.declared.rec.Rec.{Rec}
use Rattle.ckd_track.specs.Tracks.{record_size, track_size, capacity, rises_above, is_track}
use Rattle.ckd_track.specs.Images.{record_spelling, image, record_after_head, record_at, records_at, image_at, ReadsBack, ReadsImages}

pub both_true : (a b : Bool) → (a && b) ≡ true → (a ≡ true) × (b ≡ true)
both_true true b e = (refl, e)
both_true false b e = absurd cc

head_again : (place last room : ℕ) (r : Rec) (rest : List ℕ) → last < r.number → record_size r ≤ room
    → record_after_head place last room r.number (length r.key) (length r.content) ((r.key ++ r.content) ++ rest) ≡ Ok (r, rest)
unfolding record_after_head
head_again place last room r rest above fits =
    let rises : nat_le r.number last ≡ false = lt-leb r.number last above in
    let small : nat_lt room (8 + length r.key + length r.content) ≡ false = le-ltb room (8 + length r.key + length r.content) fits in
    let long : nat_lt (length ((r.key ++ r.content) ++ rest)) (length r.key + length r.content) ≡ false =
    le-ltb _ _ (omega (arith, length-append (r.key ++ r.content) rest, length-append r.key r.content)) in
    let key : take (length r.key) ((r.key ++ r.content) ++ rest) ≡ r.key = rw (append_assoc r.key r.content rest) (take_at r.key (r.content ++ rest) (length r.key) refl) in
    let tail : drop (length r.key) ((r.key ++ r.content) ++ rest) ≡ r.content ++ rest = rw (append_assoc r.key r.content rest) (drop_at r.key (r.content ++ rest) (length r.key) refl) in
    let content : take (length r.content) (r.content ++ rest) ≡ r.content = take_at r.content rest (length r.content) refl in
    let after : drop (length r.key + length r.content) ((r.key ++ r.content) ++ rest) ≡ rest = drop_at (r.key ++ r.content) rest (length r.key + length r.content) (length-append r.key r.content) in
    rw (rises, small, long, key, tail, content, after) refl

record_again : (place last room : ℕ) (r : Rec) (rest : List ℕ) → last < r.number → record_size r ≤ room → length r.content < 2 ^ 16
    → record_at place last room (record_spelling r ++ rest) ≡ Ok (r, rest)
unfolding record_at
record_again place last room r rest above fits short =
    let long : nat_lt (length (record_spelling r ++ rest)) 4 ≡ false = le-ltb _ _ (omega arith) in
    let content_len : from_be_bytes w16 (slice_range (record_spelling r ++ rest) 2 4) ≡ length r.content = from_be_bytes-to_be_bytes_2 (length r.content) short in
    rw (long, content_len) (head_again place last room r rest above fits)

number_above : (last : ℕ) (r : Rec) (recs : List Rec) → rises_above last (r ∷ recs) ≡ true → (last < r.number) × (rises_above r.number recs ≡ true)
number_above last r recs rises =
    let outer = both_true (within (last + 1) 255 r.number && nat_le (length r.key) 255) (rises_above r.number recs) rises in
    let inner = both_true (within (last + 1) 255 r.number) (nat_le (length r.key) 255) outer.0 in
    let number = both_true (nat_le (last + 1) r.number) (nat_le r.number 255) inner.0 in
    (omega (arith, leb-true (last + 1) r.number number.0), outer.1)

pub records_again : (place last room : ℕ) (recs : List Rec) (rest : List ℕ) → rises_above last recs ≡ true → track_size recs ≤ room → room < 2 ^ 16
    → records_at (length recs) place last room (flat_map record_spelling recs ++ rest) ≡ Ok (recs, rest)
unfolding records_at
records_again place last room [] rest rises fits small = refl
records_again place last room (r ∷ recs) rest rises fits small =
    let above = number_above last r recs rises in
    let sizes = sum_by-cons record_size r recs in
    let first = record_again place last room r (flat_map record_spelling recs ++ rest) above.0 (omega (arith, sizes)) (omega (arith, sizes)) in
    let others = records_again (place + length (record_spelling r)) r.number (room - record_size r) recs rest above.1 (omega (arith, sizes)) (omega arith) in
    rw (append_assoc (record_spelling r) (flat_map record_spelling recs) rest, first, others) refl

-- a track has at most 255 records
pub count_of : (last : ℕ) (recs : List Rec) → rises_above last recs ≡ true → last + length recs ≤ max last 255
count_of last [] rises = omega arith
count_of last (r ∷ recs) rises =
    let outer = both_true (within (last + 1) 255 r.number && nat_le (length r.key) 255) (rises_above r.number recs) rises in
    let inner = both_true (within (last + 1) 255 r.number) (nat_le (length r.key) 255) outer.0 in
    let number = both_true (nat_le (last + 1) r.number) (nat_le r.number 255) inner.0 in
    omega (arith, leb-true (last + 1) r.number number.0, leb-true r.number 255 number.1, count_of r.number recs outer.1)

pub image_again : ReadsBack
unfolding image_at
image_again track rest is_track =
    let parts = both_true (rises_above 0 track) (nat_le (track_size track) capacity) is_track in
    let few = count_of 0 track parts.0 in
    let count : from_be_bytes w16 (take 2 (image track ++ rest)) ≡ length track = from_be_bytes-to_be_bytes_2 (length track) (omega arith) in
    let long : nat_lt (length (image track ++ rest)) 2 ≡ false = le-ltb _ _ (omega arith) in
    let not_many : nat_lt 255 (length track) ≡ false = le-ltb 255 (length track) (omega arith) in
    rw (long, count, not_many) (records_again 2 0 capacity track rest parts.0 (leb-true (track_size track) capacity parts.1) (omega arith))

-- ---- what is read was spelled so

-- what a record's reader took from the front
pub record Taken (last room : ℕ) (bytes : List ℕ) (r : Rec) (rest : List ℕ) : Type 0 where
  pub parts : bytes ≡ record_spelling r ++ rest
  pub above : last < r.number
  pub number : r.number < 256
  pub key : length r.key < 256
  pub fits : record_size r ≤ room
  pub rest_bytes : IsBytes rest

record_ok : (a b : Rec × List ℕ) → (let x : Result (Rec × List ℕ) ImageError = Ok a in let y : Result (Rec × List ℕ) ImageError = Ok b in x ≡ y) → a ≡ b
record_ok a b e = cc

-- the parts of some bytes, one after another
three_parts : (n m : ℕ) (bytes : List ℕ) → (take n bytes ++ take m (drop n bytes)) ++ drop (n + m) bytes ≡ bytes
three_parts n m bytes =
    rw (← drop-drop m n bytes, append_assoc (take n bytes) (take m (drop n bytes)) (drop m (drop n bytes)), take-append-drop m (drop n bytes)) (take-append-drop n bytes)

spelled_is : (number kl dl c d : ℕ) (key content rest : List ℕ) → length key ≡ kl → length content ≡ dl → to_be_bytes w16 dl ≡ c ∷ d ∷ []
    → number ∷ kl ∷ c ∷ d ∷ ((key ++ content) ++ rest) ≡ record_spelling (record { number = number; key = key; content = content }) ++ rest
spelled_is number kl dl c d key content rest key_len content_len two =
    ap (λ k. number ∷ k ∷ c ∷ d ∷ ((key ++ content) ++ rest)) (sym key_len)
    ∙ sym (ap (λ (t : List ℕ). number ∷ length key ∷ (t ++ ((key ++ content) ++ rest))) (ap (to_be_bytes w16) content_len ∙ two))

taken_after_head : (place last room number kl c d : ℕ) (bytes : List ℕ) (r : Rec) (rest : List ℕ) → number < 256 → kl < 256 → c < 256 → d < 256 → IsBytes bytes
    → record_after_head place last room number kl (from_be_bytes w16 (c ∷ d ∷ [])) bytes ≡ Ok (r, rest) → Taken last room (number ∷ kl ∷ c ∷ d ∷ bytes) r rest
unfolding record_after_head
taken_after_head place last room number kl c d bytes r rest number_fits kl_fits c_fits d_fits fits e =
    let dl = from_be_bytes w16 (c ∷ d ∷ []) in
    let found : Rec × List ℕ = (record { number = number; key = take kl bytes; content = take dl (drop kl bytes) }, drop (kl + dl) bytes) in
    let one = guard_ok (nat_le number last) (Order place) (cond (nat_lt room (8 + kl + dl)) (Err TooBig) (cond (nat_lt (length bytes) (kl + dl)) (Err Short) (Ok found))) (r, rest) e in
    let two = guard_ok (nat_lt room (8 + kl + dl)) TooBig (cond (nat_lt (length bytes) (kl + dl)) (Err Short) (Ok found)) (r, rest) one.1 in
    let three = guard_ok (nat_lt (length bytes) (kl + dl)) Short (Ok found) (r, rest) two.1 in
    let above : last < number = leb-false number last one.0 in
    let room_fits : 8 + kl + dl ≤ room = ltb-false room (8 + kl + dl) two.0 in
    let long : kl + dl ≤ length bytes = ltb-false (length bytes) (kl + dl) three.0 in
    let key_len : length (take kl bytes) ≡ kl = omega (arith, length-take kl bytes) in
    let content_len : length (take dl (drop kl bytes)) ≡ dl = omega (arith, length-take dl (drop kl bytes), length-drop kl bytes) in
    let spelled : to_be_bytes w16 dl ≡ c ∷ d ∷ [] = be_bytes_2 (c ∷ d ∷ []) dl refl (two_fit c d c_fits d_fits) refl in
    subst (λ (p : Rec × List ℕ). Taken last room (number ∷ kl ∷ c ∷ d ∷ bytes) p.0 p.1) (record_ok found (r, rest) three.1) (record {
      parts = ap (λ (t : List ℕ). number ∷ kl ∷ c ∷ d ∷ t) (sym (three_parts kl dl bytes))
          ∙ spelled_is number kl dl c d (take kl bytes) (take dl (drop kl bytes)) (drop (kl + dl) bytes) key_len content_len spelled;
      above = above;
      number = number_fits;
      key = omega (arith, key_len);
      fits = omega (arith, key_len, content_len);
      rest_bytes = IsBytes-drop (kl + dl) bytes fits;
    })
  where
    two_fit : (c d : ℕ) → c < 256 → d < 256 → (i : ℕ) → get_or (c ∷ d ∷ []) i 0 < 256
    two_fit c d cf df zero = cf
    two_fit c d cf df (suc zero) = df
    two_fit c d cf df (suc (suc i)) = omega arith

pub record_takes : (place last room : ℕ) (bytes : List ℕ) (r : Rec) (rest : List ℕ) → IsBytes bytes → record_at place last room bytes ≡ Ok (r, rest) → Taken last room bytes r rest
unfolding record_at
record_takes place last room [] r rest fits e = absurd cc
record_takes place last room (a ∷ []) r rest fits e = absurd cc
record_takes place last room (a ∷ b ∷ []) r rest fits e = absurd cc
record_takes place last room (a ∷ b ∷ c ∷ []) r rest fits e = absurd cc
record_takes place last room (a ∷ b ∷ c ∷ d ∷ bytes) r rest fits e =
    let g = guard_ok (nat_lt (length (a ∷ b ∷ c ∷ d ∷ bytes)) 4) Short (record_after_head place last room a b (from_be_bytes w16 (c ∷ d ∷ [])) bytes) (r, rest) e in
    taken_after_head place last room a b c d bytes r rest (fits 0) (fits 1) (fits 2) (fits 3) (λ i. fits (suc (suc (suc (suc i))))) g.1

-- what the reader of some records took from the front
pub record ManyTaken (last room count : ℕ) (bytes : List ℕ) (recs : List Rec) (rest : List ℕ) : Type 0 where
  pub parts : bytes ≡ flat_map record_spelling recs ++ rest
  pub rises : rises_above last recs ≡ true
  pub fits : track_size recs ≤ room
  pub number : length recs ≡ count

after_first : (first others rest after bytes : List ℕ) → bytes ≡ first ++ after → after ≡ others ++ rest → bytes ≡ (first ++ others) ++ rest
after_first first others rest after bytes e f = e ∙ ap (λ (t : List ℕ). first ++ t) f ∙ sym (append_assoc first others rest)

many_ok : (a b : List Rec × List ℕ) → (let x : Result (List Rec × List ℕ) ImageError = Ok a in let y : Result (List Rec × List ℕ) ImageError = Ok b in x ≡ y) → a ≡ b
many_ok a b e = cc

pub records_take : (count place last room : ℕ) (bytes : List ℕ) (recs : List Rec) (rest : List ℕ) → IsBytes bytes → records_at count place last room bytes ≡ Ok (recs, rest) → ManyTaken last room count bytes recs rest
unfolding records_at
records_take zero place last room bytes recs rest fits e =
    subst (λ (p : List Rec × List ℕ). ManyTaken last room 0 bytes p.0 p.1) (many_ok ([], bytes) (recs, rest) e) (record { parts = refl; rises = refl; fits = omega arith; number = refl })
records_take (suc count) place last room bytes recs rest fits e =
    let first = bind_ok (record_at place last room bytes) (λ f. records_at count (place + length (record_spelling f.0)) f.0.number (room - record_size f.0) f.1 >>= (λ o. Ok (f.0 ∷ o.0, o.1))) (recs, rest) e in
    let r = first.0.0 in
    let taken = record_takes place last room bytes r first.0.1 fits first.1 in
    let more = bind_ok (records_at count (place + length (record_spelling r)) r.number (room - record_size r) first.0.1) (λ o. Ok (r ∷ o.0, o.1)) (recs, rest) first.2 in
    let others = records_take count (place + length (record_spelling r)) r.number (room - record_size r) first.0.1 more.0.0 more.0.1 taken.rest_bytes more.1 in
    let sizes = sum_by-cons record_size r more.0.0 in
    let first_rises : (within (last + 1) 255 r.number && nat_le (length r.key) 255) ≡ true =
    all_true (nat_le (last + 1) r.number) (nat_le r.number 255) (nat_le (length r.key) 255) (le-leb (last + 1) r.number (omega (arith, taken.above))) (le-leb r.number 255 (omega (arith, taken.number))) (le-leb (length r.key) 255 (omega (arith, taken.key))) in
    subst (λ (p : List Rec × List ℕ). ManyTaken last room (suc count) bytes p.0 p.1) {x = (r ∷ more.0.0, more.0.1)} {y = (recs, rest)} (many_ok (r ∷ more.0.0, more.0.1) (recs, rest) more.2) (record {
      parts = after_first (record_spelling r) (flat_map record_spelling more.0.0) more.0.1 first.0.1 bytes taken.parts others.parts;
      rises = two_true (within (last + 1) 255 r.number && nat_le (length r.key) 255) (rises_above r.number more.0.0) first_rises others.rises;
      fits = omega (arith, sizes, others.fits, taken.fits);
      number = ap suc others.number;
    })
  where
    two_true : (a b : Bool) → a ≡ true → b ≡ true → (a && b) ≡ true
    two_true true b e f = f
    two_true false b e f = absurd cc

    all_true : (a b c : Bool) → a ≡ true → b ≡ true → c ≡ true → ((a && b) && c) ≡ true
    all_true true true c e f g = g
    all_true true false c e f g = absurd cc
    all_true false b c e f g = absurd cc

pub image_taken : ReadsImages
unfolding image_at
image_taken bytes rest track fits e =
    let n = from_be_bytes w16 (take 2 bytes) in
    let one = guard_ok (nat_lt (length bytes) 2) Short (cond (nat_lt 255 n) (Err (Order 0)) (records_at n 2 0 capacity (drop 2 bytes))) (track, rest) e in
    let two = guard_ok (nat_lt 255 n) (Order 0) (records_at n 2 0 capacity (drop 2 bytes)) (track, rest) one.1 in
    let taken = records_take n 2 0 capacity (drop 2 bytes) track rest (IsBytes-drop 2 bytes fits) two.1 in
    let count : to_be_bytes w16 n ≡ take 2 bytes = be_bytes_2 (take 2 bytes) n (omega (arith, length-take 2 bytes, ltb-false (length bytes) 2 one.0)) (IsBytes-take 2 bytes fits) refl in
    let front : bytes ≡ take 2 bytes ++ drop 2 bytes = sym (take-append-drop 2 bytes) in (
      both (rises_above 0 track) (nat_le (track_size track) capacity) taken.rises (le-leb (track_size track) capacity taken.fits),
      front ∙ ap (λ (t : List ℕ). t ++ drop 2 bytes) (sym count) ∙ ap (λ (t : List ℕ). to_be_bytes w16 n ++ t) taken.parts
          ∙ ap (λ k. to_be_bytes w16 k ++ (flat_map record_spelling track ++ rest)) (sym taken.number) ∙ sym (append_assoc (to_be_bytes w16 (length track)) (flat_map record_spelling track) rest),
    )
  where
    both : (a b : Bool) → a ≡ true → b ≡ true → (a && b) ≡ true
    both true b e f = f
    both false b e f = absurd cc
