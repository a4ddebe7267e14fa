-- Reading record after record.
use Rattle.std.proofs.Common.{◌≡◌, ℕ, suc, ◌-◌, ◌+◌, ◌≤◌, ◌<◌, List, [], ◌∷◌, ◌++◌, Result, Ok, Err, false, nat_lt, nat_le, refl, sym, ap, subst, ◌∙◌, append_assoc, length, drop, arith, length-append, length-take, length-drop}
use Rattle.std.proofs.lemmas.Bool.{le-ltb, lt-leb}
use Rattle.std.proofs.lemmas.List.{append-nil, drop-drop}
use Rattle.tod_stamp.specs.Fields.{◌>>=◌}
use Rattle.ckd_track.specs.declared.rec.Rec.{Rec}
use Rattle.ckd_track.specs.Tracks.{record_size}
use Rattle.ckd_track.specs.Images.{record_spelling, record_after_head, record_at, records_at}
use Rattle.ckd_track.specs.declared.head.Head.{Head}
use Rattle.ckd_track.specs.Heads.{head_at, head_size, head_length, record_of, first_record, IsFirst}
use Rattle.ckd_track.specs.declared.fault.ImageError.{ImageError}
use Rattle.ckd_track.specs.Reading.{rest_of_read}

-- the first record is as long as its head says
pub sizes_of_first : (bytes : List ℕ) → head_length (head_at bytes) ≤ length bytes → (length (first_record bytes).key ≡ (head_at bytes).key_length) × (length (first_record bytes).content ≡ (head_at bytes).content_length)
sizes_of_first bytes long =
    let kl = (head_at bytes).key_length in
    let dl = (head_at bytes).content_length in
    (omega (arith, length-take kl (drop 4 bytes), length-drop 4 bytes), omega (arith, length-take dl (drop kl (drop 4 bytes)), length-drop kl (drop 4 bytes), length-drop 4 bytes))

-- the record of a head that stands there is the first
pub record_is_first : (bytes : List ℕ) (room : ℕ) (head : Head) (rest : List ℕ) → IsFirst bytes room head rest → record_of head bytes ≡ first_record bytes
record_is_first bytes room head rest is = ap (λ (h : Head). record_of h bytes) is.is_head

-- the record at the front is read, where it keeps the rules
first_is_read : (place last room : ℕ) (bytes : List ℕ) → last < (head_at bytes).number → head_size (head_at bytes) ≤ room → head_length (head_at bytes) ≤ length bytes
    → record_at place last room bytes ≡ Ok (first_record bytes, drop (head_length (head_at bytes)) bytes)
unfolding record_at record_after_head
first_is_read place last room bytes above fits long =
    let kl = (head_at bytes).key_length in
    let dl = (head_at bytes).content_length in
    let four : nat_lt (length bytes) 4 ≡ false = le-ltb _ _ (omega arith) in
    let rises : nat_le (head_at bytes).number last ≡ false = lt-leb _ _ above in
    let small : nat_lt room (8 + kl + dl) ≡ false = le-ltb _ _ fits in
    let whole : nat_lt (length (drop 4 bytes)) (kl + dl) ≡ false = le-ltb _ _ (omega (arith, length-drop 4 bytes)) in
    let rest : drop (kl + dl) (drop 4 bytes) ≡ drop (4 + kl + dl) bytes = drop-drop (kl + dl) 4 bytes ∙ ap (λ n. drop n bytes) (omega arith) in
    rw (four, rises, small, whole, rest) refl

-- the same for a head that stands there
pub first_read : (place last room : ℕ) (bytes : List ℕ) (head : Head) (rest : List ℕ) → last < head.number → IsFirst bytes room head rest
    → record_at place last room bytes ≡ Ok (first_record bytes, rest)
first_read place last room bytes head rest above is =
    let fits : head_size (head_at bytes) ≤ room = subst (λ (h : Head). head_size h ≤ room) is.is_head is.fits in
    let long : head_length (head_at bytes) ≤ length bytes = subst (λ (h : Head). head_length h ≤ length bytes) is.is_head is.whole in
    let follows : rest ≡ drop (head_length (head_at bytes)) bytes = subst (λ (h : Head). rest ≡ drop (head_length h) bytes) is.is_head is.rest_is in
    first_is_read place last room bytes (subst (λ (h : Head). last < h.number) is.is_head above) fits long ∙ ap (λ (t : List ℕ). Ok (first_record bytes, t)) (sym follows)

-- a record that was read leaves the others to read
reads_on : (count i place last room : ℕ) (bytes : List ℕ) → i < count → head_length (head_at bytes) ≤ length bytes
    → record_at place last room bytes ≡ Ok (first_record bytes, drop (head_length (head_at bytes)) bytes)
    → records_at (count - i) place last room bytes
    ≡ (records_at (count - (i + 1)) (place + head_length (head_at bytes)) (head_at bytes).number (room - head_size (head_at bytes)) (drop (head_length (head_at bytes)) bytes) >>= λ o. Ok (first_record bytes ∷ o.0, o.1))
unfolding records_at
reads_on count i place last room bytes lt long read =
    let k : count - i ≡ suc (count - (i + 1)) = omega arith in
    let sizes = sizes_of_first bytes long in
    let spelled : length (record_spelling (first_record bytes)) ≡ head_length (head_at bytes) = omega (arith, sizes.0, sizes.1, length-append (first_record bytes).key (first_record bytes).content) in
    let taken : record_size (first_record bytes) ≡ head_size (head_at bytes) = omega (arith, sizes.0, sizes.1) in
    rw (k, read, spelled, taken) refl

-- the same for a head that stands there
reads_step : (count i place last room : ℕ) (bytes : List ℕ) (head : Head) (rest : List ℕ) → i < count → IsFirst bytes room head rest
    → record_at place last room bytes ≡ Ok (first_record bytes, rest)
    → records_at (count - i) place last room bytes ≡ (records_at (count - (i + 1)) (place + head_length head) head.number (room - head_size head) rest >>= λ o. Ok (first_record bytes ∷ o.0, o.1))
reads_step count i place last room bytes head rest lt is read =
    let long : head_length (head_at bytes) ≤ length bytes = subst (λ (h : Head). head_length h ≤ length bytes) is.is_head is.whole in
    let follows : rest ≡ drop (head_length (head_at bytes)) bytes = subst (λ (h : Head). rest ≡ drop (head_length h) bytes) is.is_head is.rest_is in
    let on = reads_on count i place last room bytes lt long (read ∙ ap (λ (t : List ℕ). Ok (first_record bytes, t)) follows) in
    rw (is.is_head, follows) on

-- ---- what is left

left_after : (r : Rec) (read : Result (List Rec × List ℕ) ImageError) → rest_of_read (read >>= λ o. Ok (r ∷ o.0, o.1)) ≡ rest_of_read read
left_after r (Ok p) = refl
left_after r (Err e) = refl

pub reads_after : (count i place last room : ℕ) (bytes : List ℕ) (head : Head) (rest : List ℕ) → i < count → IsFirst bytes room head rest
    → record_at place last room bytes ≡ Ok (first_record bytes, rest)
    → rest_of_read (records_at (count - i) place last room bytes) ≡ rest_of_read (records_at (count - (i + 1)) (place + head_length head) head.number (room - head_size head) rest)
reads_after count i place last room bytes head rest lt is read =
    ap rest_of_read (reads_step count i place last room bytes head rest lt is read) ∙ left_after (first_record bytes) (records_at (count - (i + 1)) (place + head_length head) head.number (room - head_size head) rest)

-- ---- the records

-- what was read before, and what is still read
abbrev pub with_front : List Rec → Result (List Rec × List ℕ) ImageError → Result (List Rec × List ℕ) ImageError
with_front front read = read >>= λ o. Ok (front ++ o.0, o.1)

regroup : (front : List Rec) (r : Rec) (read : Result (List Rec × List ℕ) ImageError) → with_front front (read >>= λ o. Ok (r ∷ o.0, o.1)) ≡ with_front (front ++ r ∷ []) read
regroup front r (Ok p) = ap (λ (recs : List Rec). Ok (recs, p.1)) (simp append_assoc)
regroup front r (Err e) = refl

pub goes_on : (front : List Rec) (count i place last room : ℕ) (bytes : List ℕ) (head : Head) (rest : List ℕ) → i < count → IsFirst bytes room head rest
    → record_at place last room bytes ≡ Ok (first_record bytes, rest)
    → with_front front (records_at (count - i) place last room bytes) ≡ with_front (front ++ first_record bytes ∷ []) (records_at (count - (i + 1)) (place + head_length head) head.number (room - head_size head) rest)
goes_on front count i place last room bytes head rest lt is read =
    ap (with_front front) (reads_step count i place last room bytes head rest lt is read) ∙ regroup front (first_record bytes) (records_at (count - (i + 1)) (place + head_length head) head.number (room - head_size head) rest)

pub is_done : (front : List Rec) (count i place last room : ℕ) (bytes : List ℕ) → count ≤ i → with_front front (records_at (count - i) place last room bytes) ≡ Ok (front, bytes)
unfolding records_at
is_done front count i place last room bytes le = let k : count - i ≡ 0 = omega arith in rw k (ap (λ (recs : List Rec). Ok (recs, bytes)) (append-nil front))

-- a record that breaks a rule is the end
pub reads_no_more : (e : ImageError) (count i place last room : ℕ) (bytes : List ℕ) → i < count → record_at place last room bytes ≡ Err e → records_at (count - i) place last room bytes ≡ Err e
unfolding records_at
reads_no_more e count i place last room bytes lt fails = let k : count - i ≡ suc (count - (i + 1)) = omega arith in rw (k, fails) refl
