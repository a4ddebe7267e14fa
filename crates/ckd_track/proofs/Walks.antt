-- The cursor over an image: what is left of the bytes is the spelling of the records that are left.
use Rattle.std.proofs.Common.{◌≡◌, ℕ, ◌+◌, ◌*◌, ◌^◌, ◌≤◌, ◌<◌, List, [], ◌∷◌, ◌++◌, true, false, ◌&&◌, nat_le, nat_lt, refl, sym, ap, subst, ◌∙◌, length, drop, Some, arith, length-append, length-drop}
use Rattle.std.specs.Prelude.{◌==◌, slice_range, slice_index}
use Rattle.std.specs.Int.{w16, from_be_bytes}
use Rattle.std.specs.List.{flat_map}
use Rattle.std.proofs.lemmas.Bool.{leb-true, eq-eqb, ne_eqb, lt-ltb, le-ltb}
use Rattle.std.proofs.lemmas.List.{drop_at, drop-drop}
use Rattle.std.proofs.lemmas.List.Sums.{sum_by-cons}
use Rattle.std.proofs.lemmas.Nat.{from_be_bytes-to_be_bytes_2}
use Rattle.tod_stamp.specs.Fields.{within}
use Rattle.ckd_track.specs.declared.rec.Rec.{Rec}
use Rattle.ckd_track.specs.Tracks.{record_size, track_size, capacity, rises_above, IsTrack}
use Rattle.ckd_track.specs.Images.{record_spelling, image}
use Rattle.ckd_track.proofs.ImageLaws.{both_true}
use Rattle.ckd_track.proofs.ImageLaws.{count_of}
use Rattle.ckd_track.specs.declared.fronts.Front.{Front}
use Rattle.ckd_track.specs.declared.head.Head.{Head}
use Rattle.ckd_track.specs.Heads.{head_at, head_size, head_length}
use Rattle.ckd_track.specs.Places.{head_of, place_of_content, front_after, front_up_to, front_fitting}
use Rattle.ckd_track.specs.Slots.{IsImage, track_of_image, SpellsRecords, spelled_records}
use Rattle.ckd_track.proofs.Parts.{length-spelling}

-- The rest spells these records, whose numbers rise and whose sizes fit a track.
pub record Walks (rest : List ℕ) (recs : List Rec) : Type 0 where
  pub low : ℕ
  pub spelled : rest ≡ flat_map record_spelling recs
  pub rises : rises_above low recs ≡ true
  pub fits : track_size recs ≤ capacity

-- the record at the front, and the walk after it
pub record FirstOf (rest : List ℕ) (recs : List Rec) : Type 0 where
  pub first : Rec
  pub others : List Rec
  pub is : recs ≡ first ∷ others
  pub head : head_at rest ≡ head_of first
  pub whole : 4 + length first.key + length first.content ≤ length rest
  pub next : Walks (drop (4 + length first.key + length first.content) rest) others
  pub above : next.low ≡ first.number

-- what the test of rising numbers says of the first record
pub rises_first : (low : ℕ) (r : Rec) (recs : List Rec) → rises_above low (r ∷ recs) ≡ true → (low < r.number) × (length r.key ≤ 255) × (rises_above r.number recs ≡ true)
rises_first low r recs rises =
    let outer = both_true (within (low + 1) 255 r.number && nat_le (length r.key) 255) (rises_above r.number recs) rises in
    let inner = both_true (within (low + 1) 255 r.number) (nat_le (length r.key) 255) outer.0 in
    let number = both_true (nat_le (low + 1) r.number) (nat_le r.number 255) inner.0 in
    (omega (arith, leb-true (low + 1) r.number number.0), leb-true (length r.key) 255 inner.1, outer.1)

-- a record's spelling begins with its head
pub head_spelled : (r : Rec) (rest : List ℕ) → length r.content < 2 ^ 16 → head_at (record_spelling r ++ rest) ≡ head_of r
head_spelled r rest short =
    let e : from_be_bytes w16 (slice_range (record_spelling r ++ rest) 2 4) ≡ length r.content = from_be_bytes-to_be_bytes_2 (length r.content) short in
    ap (λ (n : ℕ). (let h : Head = record { number = r.number; key_length = length r.key; content_length = n } in h)) e

pub first_of : (rest : List ℕ) (recs : List Rec) → Walks rest recs → 0 < length recs → FirstOf rest recs
first_of rest [] walks some = absurd (omega (arith, some))
first_of rest (r ∷ recs) walks some =
    let sizes = sum_by-cons record_size r recs in
    let rises = rises_first walks.low r recs walks.rises in
    let len = length-spelling r in
    record {
      first = r;
      others = recs;
      is = refl;
      head = ap head_at walks.spelled ∙ head_spelled r (flat_map record_spelling recs) (omega (arith, walks.fits));
      whole = omega (arith, ap length walks.spelled, length-append (record_spelling r) (flat_map record_spelling recs));
      next = record {
        low = r.number;
        spelled = ap (drop (4 + length r.key + length r.content)) walks.spelled ∙ drop_at (record_spelling r) (flat_map record_spelling recs) _ len;
        rises = rises.2;
        fits = omega (arith, walks.fits);
      };
      above = refl;
    }

-- where a walk begins: after the count
pub record Begins (bytes : List ℕ) (track : List Rec) : Type 0 where
  pub count : slice_index bytes 0 * 256 + slice_index bytes 1 ≡ length track
  pub few : length track ≤ 255
  pub long : 2 ≤ length bytes
  pub walks : Walks (drop 2 bytes) track
  pub from_start : walks.low ≡ 0

pub walk_begins : (bytes : List ℕ) → IsImage bytes → Begins bytes (track_of_image bytes)
walk_begins bytes is = subst (λ (b : List ℕ). Begins b (track_of_image bytes)) (sym is.spelled) (begins (track_of_image bytes) is.is_track)
  where
    begins : (track : List Rec) → IsTrack track → Begins (image track) track
    begins track is =
        let parts = both_true (rises_above 0 track) (nat_le (track_size track) capacity) is in
        let few = count_of 0 track parts.0 in
        record {
          count = from_be_bytes-to_be_bytes_2 (length track) (omega arith);
          few = omega arith;
          long = omega arith;
          walks = record { low = 0; spelled = refl; rises = parts.0; fits = leb-true (track_size track) capacity parts.1 };
          from_start = refl;
        }

-- the records that are left after the first
pub others_are : (i : ℕ) (track : List Rec) (r : Rec) (others : List Rec) → drop i track ≡ r ∷ others → drop (i + 1) track ≡ others
others_are i track r others e = sym (drop-drop 1 i track) ∙ ap (drop 1) e

-- ---- one step of a pass, with the head that was read

pub some_left : (i : ℕ) (track : List Rec) (rest : List ℕ) → Walks rest (drop i track) → i < length track → FirstOf rest (drop i track)
some_left i track rest walks lt = first_of rest (drop i track) walks (omega (arith, length-drop i track))

pub walks_on : (i : ℕ) (track : List Rec) (rest : List ℕ) (head : Head) (after : List ℕ) → FirstOf rest (drop i track) → head ≡ head_at rest → after ≡ drop (head_length head) rest → Walks after (drop (i + 1) track)
walks_on i track rest head after f is follows =
    let h : head ≡ head_of f.first = is ∙ f.head in
    let e : after ≡ drop (4 + length f.first.key + length f.first.content) rest = follows ∙ ap (λ (h : Head). drop (head_length h) rest) h in
    rw (e, others_are i track f.first f.others f.is) f.next

-- the record is whole
pub head_whole : (rest : List ℕ) (recs : List Rec) (head : Head) → FirstOf rest recs → head ≡ head_at rest → head_length head ≤ length rest
head_whole rest recs head f is = subst (λ (h : Head). head_length h ≤ length rest) (sym (is ∙ f.head)) f.whole

pub place_first : (number at : ℕ) (rest : List ℕ) (recs : List Rec) (head : Head) → FirstOf rest recs → head ≡ head_at rest → head.number ≡ number
    → Some (record { from = at + 4 + head.key_length; len = head.content_length }) ≡ place_of_content number at recs
place_first number at rest recs head f is same =
    let h : head ≡ head_of f.first = is ∙ f.head in
    let hit : (f.first.number == number) ≡ true = eq-eqb f.first.number number (sym (ap (λ (h : Head). h.number) h) ∙ same) in
    rw (f.is, hit) (ap (λ (h : Head). Some (record { from = at + 4 + h.key_length; len = h.content_length })) h)

pub place_later : (number at i : ℕ) (track : List Rec) (rest : List ℕ) (head : Head) → FirstOf rest (drop i track) → head ≡ head_at rest → (head.number ≡ number → ⊥)
    → place_of_content number (at + head_length head) (drop (i + 1) track) ≡ place_of_content number at (drop i track)
place_later number at i track rest head f is other =
    let h : head ≡ head_of f.first = is ∙ f.head in
    let miss : (f.first.number == number) ≡ false = ne_eqb f.first.number number (λ e. other (ap (λ (h : Head). h.number) h ∙ e)) in
    rw (others_are i track f.first f.others f.is, f.is, miss) (ap (λ (h : Head). place_of_content number (at + head_length h) f.others) h)

-- ---- fronts

pub up_to_stops : (after : ℕ) (front : Front) (rest : List ℕ) (recs : List Rec) (head : Head) → FirstOf rest recs → head ≡ head_at rest → after < head.number → front ≡ front_up_to after front recs
up_to_stops after front rest recs head f is above =
    let h : head ≡ head_of f.first = is ∙ f.head in
    let test : nat_lt after f.first.number ≡ true = lt-ltb after f.first.number (subst (λ (h : Head). after < h.number) h above) in
    rw (f.is, test) refl

pub up_to_goes : (after i : ℕ) (front : Front) (track : List Rec) (rest : List ℕ) (head : Head) → FirstOf rest (drop i track) → head ≡ head_at rest → head.number ≤ after
    → front_up_to after (front_after front head) (drop (i + 1) track) ≡ front_up_to after front (drop i track)
up_to_goes after i front track rest head f is le =
    let h : head ≡ head_of f.first = is ∙ f.head in
    let test : nat_lt after f.first.number ≡ false = le-ltb after f.first.number (subst (λ (h : Head). h.number ≤ after) h le) in
    rw (others_are i track f.first f.others f.is, f.is, test) (ap (λ (h : Head). front_up_to after (front_after front h) f.others) h)

pub fitting_stops : (front : Front) (rest : List ℕ) (recs : List Rec) (head : Head) → FirstOf rest recs → head ≡ head_at rest → front.room < head_size head → front ≡ front_fitting front recs
fitting_stops front rest recs head f is above =
    let h : head ≡ head_of f.first = is ∙ f.head in
    let test : nat_lt front.room (record_size f.first) ≡ true = lt-ltb front.room (record_size f.first) (subst (λ (h : Head). front.room < head_size h) h above) in
    rw (f.is, test) refl

pub fitting_goes : (i : ℕ) (front : Front) (track : List Rec) (rest : List ℕ) (head : Head) → FirstOf rest (drop i track) → head ≡ head_at rest → head_size head ≤ front.room
    → front_fitting (front_after front head) (drop (i + 1) track) ≡ front_fitting front (drop i track)
fitting_goes i front track rest head f is le =
    let h : head ≡ head_of f.first = is ∙ f.head in
    let test : nat_lt front.room (record_size f.first) ≡ false = le-ltb front.room (record_size f.first) (subst (λ (h : Head). head_size h ≤ front.room) h le) in
    rw (others_are i track f.first f.others f.is, f.is, test) (ap (λ (h : Head). front_fitting (front_after front h) f.others) h)

-- the sizes that are left after the first
pub sizes_left : (i : ℕ) (track : List Rec) (rest : List ℕ) (head : Head) → FirstOf rest (drop i track) → head ≡ head_at rest → head_size head + track_size (drop (i + 1) track) ≡ track_size (drop i track)
sizes_left i track rest head f is =
    let h : head ≡ head_of f.first = is ∙ f.head in
    rw (others_are i track f.first f.others f.is, f.is, h) (sym (sum_by-cons record_size f.first f.others))

-- where a walk over given records begins
pub walk_of_given : (count : ℕ) (bytes : List ℕ) → SpellsRecords count bytes → Walks bytes (spelled_records count bytes)
walk_of_given count bytes is =
    let track = spelled_records count bytes in
    let parts = both_true (rises_above 0 track) (nat_le (track_size track) capacity) is.are_records in
    record { low = 0; spelled = is.spelled; rises = parts.0; fits = leb-true (track_size track) capacity parts.1 }
