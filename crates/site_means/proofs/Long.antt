-- How long what was read is and where what is left begins, whatever numbers the bytes are.
use Rattle.std.proofs.Common.{◌≡◌, ℕ, zero, suc, ◌+◌, ◌-◌, ◌≤◌, Bool, true, false, cond, nat_eq, nat_lt, nat_le, List, [], ◌∷◌, length, take, drop, slice_index, Result, Ok, Err, Some, refl, sym, ap, ◌∙◌, arith, length-append, length-drop, length-take}
use Rattle.std.specs.Prelude.{slice_range}
use Rattle.std.specs.List.{flat_map}
use Rattle.std.specs.Int.{Width, w8, w16, w32, byte_len, from_be_bytes}
use Rattle.std.proofs.lemmas.Bool.{ltb-false, and_parts}
use Rattle.tod_stamp.specs.Fields.{◌>>=◌, Left, Bad, bytes_at, number_at, after, any, is_version}
use Rattle.tod_stamp.specs.Fields.Bad.{Cut, Broken}
use Rattle.tod_stamp.proofs.FieldLaws.{bind_ok, guard_ok, allow_ok}
use Rattle.ckd_track.specs.declared.fault.ImageError.{ImageError}
use Rattle.ckd_track.specs.declared.fault.ImageError.TheVariants.{Short, TooBig, Order}
use Rattle.ckd_track.specs.declared.rec.Rec.{Rec}
use Rattle.ckd_track.specs.Tracks.{record_size, capacity}
use Rattle.ckd_track.specs.Images.{image, image_at, record_after_head, record_at, record_spelling, records_at}
use Rattle.pair_table.specs.Rows.{is_version_row, row_by, row_length}
use Rattle.pair_table.proofs.Versions.{text_length}
use Rattle.xrc_journal.specs.Items.{Item, Form, Earlier, anywhere, may_draw, earlier_after, is_item, are_items_after, item_spelling, body_spelling}
use Rattle.xrc_journal.specs.Items.Item.{Image, Delta, Pair, Gone}
use Rattle.xrc_journal.specs.Deltas.{change_at}
use Rattle.xrc_journal.specs.Reading.{Items, track_at, body_image_field, row_or, image_item_at, delta_item_at, pair_item_at, gone_item_at, is_tag, item_at, no_items, first_and_rest, items_from}
use Rattle.xrc_journal.proofs.Fields.{given_is, field_ok}

-- So many bytes were read from the front of what was left.
record ReadsOn (left next : Left) (size : ℕ) : Type 0 where
  long : length left.bytes ≡ size + length next.bytes
  place : next.place ≡ left.place + size

-- ---- fields

number_long : (w : Width) (rule : ℕ → Bool) (left : Left) (n : ℕ) (next : Left) → number_at w rule left ≡ Ok (n, next) → ReadsOn left next (byte_len w)
unfolding number_at
number_long w rule left n next e =
    let value = from_be_bytes w (take (byte_len w) left.bytes) in
    let long = guard_ok (nat_lt (length left.bytes) (byte_len w)) (Cut left.place) (cond (rule value) (Ok (value, after (byte_len w) left)) (Err (Broken left.place))) (n, next) e in
    let kept = allow_ok (rule value) (Broken left.place) (value, after (byte_len w) left) (n, next) long.1 in
    record {
      long = omega (arith, ltb-false (length left.bytes) (byte_len w) long.0, ap (λ (p : ℕ × Left). length p.1.bytes) kept.1, length-drop (byte_len w) left.bytes);
      place = ap (λ (p : ℕ × Left). p.1.place) (sym kept.1);
    }

bytes_long : (n : ℕ) (rule : List ℕ → Bool) (left : Left) (text : List ℕ) (next : Left) → bytes_at n rule left ≡ Ok (text, next) → ReadsOn left next n
unfolding bytes_at
bytes_long n rule left text next e =
    let long = guard_ok (nat_lt (length left.bytes) n) (Cut left.place) (cond (rule (take n left.bytes)) (Ok (take n left.bytes, after n left)) (Err (Broken left.place))) (text, next) e in
    let kept = allow_ok (rule (take n left.bytes)) (Broken left.place) (take n left.bytes, after n left) (text, next) long.1 in
    record {
      long = omega (arith, ltb-false (length left.bytes) n long.0, ap (λ (p : List ℕ × Left). length p.1.bytes) kept.1, length-drop n left.bytes);
      place = ap (λ (p : List ℕ × Left). p.1.place) (sym kept.1);
    }

-- ---- images

record_is : (a b : Rec × List ℕ) → (let x : Result (Rec × List ℕ) ImageError = Ok a in let y : Result (Rec × List ℕ) ImageError = Ok b in x ≡ y) → a ≡ b
record_is a b e = cc

after_head : (place last room number kl dl : ℕ) (bytes : List ℕ) (r : Rec) (rest : List ℕ) → record_after_head place last room number kl dl bytes ≡ Ok (r, rest) → length bytes + 4 ≡ length (record_spelling r) + length rest
unfolding record_after_head
after_head place last room number kl dl bytes r rest e =
    let found : Rec × List ℕ = (record { number = number; key = take kl bytes; content = take dl (drop kl bytes) }, drop (kl + dl) bytes) in
    let one = guard_ok (nat_le number last) (Order place) (cond (nat_lt room (8 + kl + dl)) (Err TooBig) (cond (nat_lt (length bytes) (kl + dl)) (Err Short) (Ok found))) (r, rest) e in
    let two = guard_ok (nat_lt room (8 + kl + dl)) TooBig (cond (nat_lt (length bytes) (kl + dl)) (Err Short) (Ok found)) (r, rest) one.1 in
    let three = guard_ok (nat_lt (length bytes) (kl + dl)) Short (Ok found) (r, rest) two.1 in
    let is = record_is found (r, rest) three.1 in
    omega (
      arith,
      ltb-false (length bytes) (kl + dl) three.0,
      ap (λ (p : Rec × List ℕ). length p.1) is,
      ap (λ (p : Rec × List ℕ). length p.0.key) is,
      ap (λ (p : Rec × List ℕ). length p.0.content) is,
      length-append r.key r.content,
      length-take kl bytes,
      length-take dl (drop kl bytes),
      length-drop kl bytes,
      length-drop (kl + dl) bytes,
    )

record_long : (place last room : ℕ) (bytes : List ℕ) (r : Rec) (rest : List ℕ) → record_at place last room bytes ≡ Ok (r, rest) → length bytes ≡ length (record_spelling r) + length rest
unfolding record_at
record_long place last room bytes r rest e =
    let four = guard_ok (nat_lt (length bytes) 4) Short (record_after_head place last room (slice_index bytes 0) (slice_index bytes 1) (from_be_bytes w16 (slice_range bytes 2 4)) (drop 4 bytes)) (r, rest) e in
    omega (arith, ltb-false (length bytes) 4 four.0, length-drop 4 bytes, after_head place last room (slice_index bytes 0) (slice_index bytes 1) (from_be_bytes w16 (slice_range bytes 2 4)) (drop 4 bytes) r rest four.1)

records_is : (a b : List Rec × List ℕ) → (let x : Result (List Rec × List ℕ) ImageError = Ok a in let y : Result (List Rec × List ℕ) ImageError = Ok b in x ≡ y) → a ≡ b
records_is a b e = cc

records_long : (count place last room : ℕ) (bytes : List ℕ) (recs : List Rec) (rest : List ℕ) → records_at count place last room bytes ≡ Ok (recs, rest) → length bytes ≡ length (flat_map record_spelling recs) + length rest
unfolding records_at
records_long zero place last room bytes recs rest e =
    let is = records_is ([], bytes) (recs, rest) e in
    omega (arith, ap (λ (p : List Rec × List ℕ). length (flat_map record_spelling p.0)) is, ap (λ (p : List Rec × List ℕ). length p.1) is)
records_long (suc count) place last room bytes recs rest e =
    let first = bind_ok (record_at place last room bytes) (λ f. records_at count (place + length (record_spelling f.0)) f.0.number (room - record_size f.0) f.1 >>= (λ o. Ok (f.0 ∷ o.0, o.1))) (recs, rest) e in
    let r = first.0.0 in
    let more = bind_ok (records_at count (place + length (record_spelling r)) r.number (room - record_size r) first.0.1) (λ o. Ok (r ∷ o.0, o.1)) (recs, rest) first.2 in
    let others = records_long count (place + length (record_spelling r)) r.number (room - record_size r) first.0.1 more.0.0 more.0.1 more.1 in
    let is = records_is (r ∷ more.0.0, more.0.1) (recs, rest) more.2 in
    omega (
      arith,
      record_long place last room bytes r first.0.1 first.1,
      others,
      length-append (record_spelling r) (flat_map record_spelling more.0.0),
      ap (λ (p : List Rec × List ℕ). length (flat_map record_spelling p.0)) is,
      ap (λ (p : List Rec × List ℕ). length p.1) is,
    )

image_long : (bytes : List ℕ) (recs : List Rec) (rest : List ℕ) → image_at bytes ≡ Ok (recs, rest) → length bytes ≡ length (image recs) + length rest
unfolding image_at
image_long bytes recs rest e =
    let n = from_be_bytes w16 (take 2 bytes) in
    let one = guard_ok (nat_lt (length bytes) 2) Short (cond (nat_lt 255 n) (Err (Order 0)) (records_at n 2 0 capacity (drop 2 bytes))) (recs, rest) e in
    let two = guard_ok (nat_lt 255 n) (Order 0) (records_at n 2 0 capacity (drop 2 bytes)) (recs, rest) one.1 in
    omega (arith, ltb-false (length bytes) 2 one.0, length-drop 2 bytes, records_long n 2 0 capacity (drop 2 bytes) recs rest two.1)

-- ---- items

-- after its tag of one byte, the item that was read
record Tagged (left next : Left) (item : Item) : Type 0 where
  long : 1 + length left.bytes ≡ length (item_spelling item) + length next.bytes
  place : 1 + next.place ≡ left.place + length (item_spelling item)

module _ (form : Form) (earlier : Earlier) (left : Left) (item : Item) (next : Left) where
  image_item_long : image_item_at form earlier left ≡ Ok (item, next) → Tagged left next item
  unfolding image_item_at track_at
  image_item_long e =
      let one = bind_ok (track_at (may_draw form earlier) left) (λ at. body_image_field at.1 >>= (λ r. Ok (Image at.0.0 at.0.1 r.0, r.1))) (item, next) e in
      let device = bind_ok (number_at w16 any left) (λ d. number_at w32 (may_draw form earlier d.0) d.1 >>= (λ t. Ok ((d.0, t.0), t.1))) one.0 one.1 in
      let track = bind_ok (number_at w32 (may_draw form earlier device.0.0) device.0.1) (λ t. Ok ((device.0.0, t.0), t.1)) one.0 device.2 in
      let at_is = given_is ((device.0.0, track.0.0), track.0.1) one.0 track.2 in
      let two = bind_ok (body_image_field one.0.1) (λ r. Ok (Image one.0.0.0 one.0.0.1 r.0, r.1)) (item, next) one.2 in
      let read = field_ok one.0.1 (image_at one.0.1.bytes) two.0.0 two.0.1 two.1 in
      let is = given_is (Image one.0.0.0 one.0.0.1 two.0.0, two.0.1) (item, next) two.2 in
      let first = number_long w16 any left device.0.0 device.0.1 device.1 in
      let second = number_long w32 (may_draw form earlier device.0.0) device.0.1 track.0.0 track.0.1 track.1 in
      let drawn = image_long one.0.1.bytes two.0.0 read.0 read.1 in
      let size = ap (λ (p : Item × Left). length (item_spelling p.0)) is in
      record {
        long = omega (
          arith,
          first.long,
          second.long,
          ap (λ (p : (ℕ × ℕ) × Left). length p.1.bytes) at_is,
          drawn,
          ap (λ (l : Left). length l.bytes) read.2,
          size,
          ap (λ (p : Item × Left). length p.1.bytes) is,
        );
        place = omega (
          arith,
          first.place,
          second.place,
          ap (λ (p : (ℕ × ℕ) × Left). p.1.place) at_is,
          drawn,
          ap (λ (l : Left). l.place) read.2,
          size,
          ap (λ (p : Item × Left). p.1.place) is,
        );
      }

  no_delta : (e : Earlier) → is_item anywhere e item ≡ true → delta_item_at form left ≡ Ok (item, next) → ⊥
  unfolding delta_item_at
  no_delta e keep read =
      let one = bind_ok (track_at form.has_slot left) (λ at. change_at at.1 >>= (λ k. Ok (Delta at.0.0 at.0.1 k.0, k.1))) (item, next) read in
      let two = bind_ok (change_at one.0.1) (λ k. Ok (Delta one.0.0.0 one.0.0.1 k.0, k.1)) (item, next) one.2 in
      let is = given_is (Delta one.0.0.0 one.0.0.1 two.0.0, two.0.1) (item, next) two.2 in
      clash (ap (λ (p : Item × Left). is_item anywhere e p.0) is ∙ keep)
    where
      clash : false ≡ true → ⊥
      clash e = cc

  pair_item_long : (version : ℕ) (e : Earlier) → is_item anywhere e item ≡ true → pair_item_at version left ≡ Ok (item, next) → Tagged left next item
  unfolding pair_item_at
  pair_item_long version e keep read =
      let long = row_length version in
      let one = bind_ok (bytes_at long any left) (λ t. row_or left (row_by version t.0) >>= (λ r. Ok (Pair version r, t.1))) (item, next) read in
      let two = bind_ok (row_or left (row_by version one.0.0)) (λ r. Ok (Pair version r, one.0.1)) (item, next) one.2 in
      let is = given_is (Pair version two.0, one.0.1) (item, next) two.2 in
      let row = bytes_long long any left one.0.0 one.0.1 one.1 in
      let kept = and_parts (is_version version) (is_version_row version two.0) (ap (λ (p : Item × Left). is_item anywhere e p.0) is ∙ keep) in
      let spelled = text_length version two.0 kept.1 in
      let size = ap (λ (p : Item × Left). length (item_spelling p.0)) is in
      record {
        long = omega (arith, row.long, spelled, size, ap (λ (p : Item × Left). length p.1.bytes) is);
        place = omega (arith, row.place, spelled, size, ap (λ (p : Item × Left). p.1.place) is);
      }

  gone_item_long : gone_item_at left ≡ Ok (item, next) → Tagged left next item
  unfolding gone_item_at
  gone_item_long e =
      let one = bind_ok (number_at w16 any left) (λ d. Ok (Gone d.0, d.1)) (item, next) e in
      let is = given_is (Gone one.0.0, one.0.1) (item, next) one.2 in
      let device = number_long w16 any left one.0.0 one.0.1 one.1 in
      let size = ap (λ (p : Item × Left). length (item_spelling p.0)) is in
      record {
        long = omega (arith, device.long, size, ap (λ (p : Item × Left). length p.1.bytes) is);
        place = omega (arith, device.place, size, ap (λ (p : Item × Left). p.1.place) is);
      }

item_long : (form : Form) (earlier : Earlier) (left : Left) (item : Item) (next : Left) (e : Earlier) → is_item anywhere e item ≡ true → item_at form earlier left ≡ Ok (item, next) → ReadsOn left next (length (item_spelling item))
unfolding item_at
item_long form earlier left item next e keep read =
    let one = bind_ok (number_at w8 (is_tag form.deltas earlier.late) left)
    (λ t. cond (nat_eq t.0 1) (image_item_at form earlier t.1) (cond (nat_eq t.0 2) (delta_item_at form t.1) (cond (nat_eq t.0 3) (pair_item_at 1 t.1) (cond (nat_eq t.0 5) (pair_item_at 2 t.1) (gone_item_at t.1))))) (item, next) read in
    let tag = number_long w8 (is_tag form.deltas earlier.late) left one.0.0 one.0.1 one.1 in
    let after_tag = choose one.0.1 (nat_eq one.0.0 1) (nat_eq one.0.0 2) (nat_eq one.0.0 3) (nat_eq one.0.0 5) one.2 in
    record { long = omega (arith, tag.long, after_tag.long); place = omega (arith, tag.place, after_tag.place) }
  where
    choose : (after : Left) (one two three five : Bool) → cond one (image_item_at form earlier after) (cond two (delta_item_at form after) (cond three (pair_item_at 1 after) (cond five (pair_item_at 2 after) (gone_item_at after)))) ≡ Ok (item, next) → Tagged after next item
    choose after true two three five read = image_item_long form earlier after item next read
    choose after false true three five read = absurd (no_delta form earlier after item next e keep read)
    choose after false false true five read = pair_item_long form earlier after item next 1 e keep read
    choose after false false false true read = pair_item_long form earlier after item next 2 e keep read
    choose after false false false false read = gone_item_long form earlier after item next read

-- The good items are no longer than the bytes, and end where the first bad one begins.
pub record Ending (left : Left) (items : Items) : Type 0 where
  pub within : length (body_spelling items.good) ≤ length left.bytes
  pub before : (at : ℕ) → items.bad ≡ Some at → left.place + length (body_spelling items.good) ≤ at

none_ends : (left : Left) → Ending left no_items
none_ends left = record { within = omega arith; before = λ at is. absurd cc }

bad_ends : (left : Left) → Ending left (record { good = []; bad = Some left.place })
bad_ends left = record { within = omega arith; before = λ at is. let same : left.place ≡ at = cc in omega (arith, same) }

first_long : (form : Form) (earlier : Earlier) (left : Left) (e : Earlier) (read : Result (Item × Left) Bad) (rest : Item × Left → Items) → item_at form earlier left ≡ read
    → ((i : Item × Left) → are_items_after anywhere (earlier_after i.0 e) (rest i).good ≡ true → Ending i.1 (rest i))
    → are_items_after anywhere e (first_and_rest left.place read rest).good ≡ true → Ending left (first_and_rest left.place read rest)
first_long form earlier left e (Err bad) rest is more keep = bad_ends left
first_long form earlier left e (Ok i) rest is more keep =
    let parts = and_parts (is_item anywhere e i.0) (are_items_after anywhere (earlier_after i.0 e) (rest i).good) keep in
    let front = item_long form earlier left i.0 i.1 e parts.0 is in
    let others = more i parts.1 in
    let size = length-append (item_spelling i.0) (body_spelling (rest i).good) in
    record {
      within = omega (arith, front.long, others.within, size);
      before = λ at bad. omega (arith, front.place, others.before at bad, size);
    }

pub items_long : (turns : ℕ) (form : Form) (earlier : Earlier) (left : Left) (e : Earlier) → are_items_after anywhere e (items_from turns form earlier left).good ≡ true → Ending left (items_from turns form earlier left)
unfolding items_from
items_long zero form earlier left e keep = none_ends left
items_long (suc turns) form earlier left e keep = by_end (nat_eq (length left.bytes) 0) (λ i more. items_long turns form (earlier_after i.0 earlier) i.1 (earlier_after i.0 e) more) keep
  where
    by_end : (over : Bool) → ((i : Item × Left) → are_items_after anywhere (earlier_after i.0 e) (items_from turns form (earlier_after i.0 earlier) i.1).good ≡ true → Ending i.1 (items_from turns form (earlier_after i.0 earlier) i.1))
        → are_items_after anywhere e (cond over no_items (first_and_rest left.place (item_at form earlier left) (λ i. items_from turns form (earlier_after i.0 earlier) i.1))).good ≡ true
        → Ending left (cond over no_items (first_and_rest left.place (item_at form earlier left) (λ i. items_from turns form (earlier_after i.0 earlier) i.1)))
    by_end true more keep = none_ends left
    by_end false more keep = first_long form earlier left e (item_at form earlier left) (λ i. items_from turns form (earlier_after i.0 earlier) i.1) refl more keep
