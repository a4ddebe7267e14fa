-- What is read as items keeps the rules and was spelled so.
use Rattle.std.proofs.Common.{◌≡◌, ◌≢◌, ℕ, zero, suc, ◌+◌, ◌^◌, ◌<◌, ◌≤◌, Bool, true, false, not, cond, nat_eq, nat_lt, ◌&&◌, ◌||◌, List, [], ◌∷◌, ◌++◌, length, Some, None, IsTrue, Result, Ok, Err, refl, sym, ap, subst, ◌∙◌, append_assoc, arith, length-append}
use Rattle.std.specs.Int.{w8, w16, w32, to_be_bytes}
use Rattle.std.proofs.lemmas.Bool.{lt-ltb, eqb-true}
use Rattle.tod_stamp.specs.Fields.{◌>>=◌, IsBytes, Left, Bad, bytes_at, number_at, any, is_version}
use Rattle.tod_stamp.proofs.FieldLaws.{bind_ok, Takes, Takes-then, wide8, wide16, wide32, number_takes, bytes_takes}
use Rattle.ckd_track.specs.Effects.{is_kind}
use Rattle.ckd_track.specs.Entries.{delta_spelling, changes_part}
use Rattle.ckd_track.specs.Tracks.{is_track}
use Rattle.ckd_track.specs.Images.{image}
use Rattle.pair_table.specs.Rows.{is_version_row, row_by, row_length}
use Rattle.pair_table.proofs.Versions.{version_keeps, version_spelled}
use Rattle.xrc_journal.specs.Items.{AreItems, Item, Form, Earlier, none_earlier, earlier_after, earlier_after_all, may_draw, is_item, are_items_after, item_spelling, body_spelling, pair_tag}
use Rattle.xrc_journal.specs.Items.Item.{Image, Delta, Pair, Gone}
use Rattle.xrc_journal.specs.Deltas.{change_at}
use Rattle.xrc_journal.specs.Reading.{Items, track_at, body_image_field, row_or, image_item_at, delta_item_at, pair_item_at, gone_item_at, is_tag, item_at, no_items, first_and_rest, items_from, items_at}
use Rattle.xrc_journal.proofs.Changes.{change_takes}
use Rattle.xrc_journal.proofs.Fields.{and_true, given_is, some_is, one_byte, image_takes, row_given, IsBytes-front}
use Rattle.xrc_journal.proofs.ItemsAgain.{items_again, some_bytes}

-- what was read as an item
pub record ItemTaken (form : Form) (earlier : Earlier) (left : Left) (item : Item) (next : Left) : Type 0 where
  pub takes : Takes left (item_spelling item) next
  pub kept : is_item form earlier item ≡ true

-- ---- each kind, after its tag

-- what was read as a track of a device
record TrackTaken (rule : ℕ → ℕ → Bool) (start left : Left) (at : ℕ × ℕ) (next : Left) : Type 0 where
  takes : Takes left (to_be_bytes w16 at.0 ++ to_be_bytes w32 at.1) next
  device_fits : at.0 < 2 ^ 16
  track_fits : at.1 < 2 ^ 32
  kept : rule at.0 at.1 ≡ true

track_taken : (rule : ℕ → ℕ → Bool) (start left : Left) (at : ℕ × ℕ) (next : Left) → IsBytes left.bytes → track_at rule left ≡ Ok (at, next) → TrackTaken rule start left at next
unfolding track_at
track_taken rule start left at next fits e =
    let one = bind_ok (number_at w16 any left) (λ d. number_at w32 (rule d.0) d.1 >>= (λ t. Ok ((d.0, t.0), t.1))) (at, next) e in
    let device = number_takes w16 (2 ^ 16) wide16 any left one.0.0 one.0.1 fits one.1 in
    let two = bind_ok (number_at w32 (rule one.0.0) one.0.1) (λ t. Ok ((one.0.0, t.0), t.1)) (at, next) one.2 in
    let track = number_takes w32 (2 ^ 32) wide32 (rule one.0.0) one.0.1 two.0.0 two.0.1 device.takes.rest_bytes two.1 in
    subst (λ (p : (ℕ × ℕ) × Left). TrackTaken rule start left p.0 p.1) (given_is ((one.0.0, two.0.0), two.0.1) (at, next) two.2) (record {
      takes = Takes-then left (to_be_bytes w16 one.0.0) one.0.1 (to_be_bytes w32 two.0.0) two.0.1 device.takes track.takes;
      device_fits = device.fits;
      track_fits = track.fits;
      kept = track.kept;
    })

all_five : (a b c d e : Bool) → a ≡ true → b ≡ true → c ≡ true → d ≡ true → e ≡ true → (a && b && c && d && e) ≡ true
all_five a b c d e p q r s t = and_true (a && b && c && d) e (and_true (a && b && c) d (and_true (a && b) c (and_true a b p q) r) s) t

module _ (form : Form) (earlier : Earlier) (start left : Left) (item : Item) (next : Left) where
  image_taken : not earlier.late ≡ true → Takes start (1 ∷ []) left → image_item_at form earlier left ≡ Ok (item, next) → ItemTaken form earlier start item next
  unfolding image_item_at
  image_taken early tag e =
      let one = bind_ok (track_at (may_draw form earlier) left) (λ at. body_image_field at.1 >>= (λ r. Ok (Image at.0.0 at.0.1 r.0, r.1))) (item, next) e in
      let at = track_taken (may_draw form earlier) start left one.0.0 one.0.1 tag.rest_bytes one.1 in
      let two = bind_ok (body_image_field one.0.1) (λ r. Ok (Image one.0.0.0 one.0.0.1 r.0, r.1)) (item, next) one.2 in
      let recs = image_takes one.0.1 two.0.0 two.0.1 at.takes.rest_bytes two.1 in
      let head = Takes-then start (1 ∷ []) left (to_be_bytes w16 one.0.0.0 ++ to_be_bytes w32 one.0.0.1) one.0.1 tag at.takes in
      subst (λ (p : Item × Left). ItemTaken form earlier start p.0 p.1) (given_is (Image one.0.0.0 one.0.0.1 two.0.0, two.0.1) (item, next) two.2) (record {
        takes = Takes-then start (1 ∷ to_be_bytes w16 one.0.0.0 ++ to_be_bytes w32 one.0.0.1) one.0.1 (image two.0.0) two.0.1 head recs.0;
        kept = all_five (not earlier.late) (nat_lt one.0.0.0 (2 ^ 16)) (nat_lt one.0.0.1 (2 ^ 32)) (may_draw form earlier one.0.0.0 one.0.0.1) (is_track two.0.0)
            early (lt-ltb one.0.0.0 (2 ^ 16) at.device_fits) (lt-ltb one.0.0.1 (2 ^ 32) at.track_fits) at.kept recs.1;
      })

  delta_taken : (form.deltas && not earlier.late) ≡ true → Takes start (2 ∷ []) left → delta_item_at form left ≡ Ok (item, next) → ItemTaken form earlier start item next
  unfolding delta_item_at
  delta_taken allowed tag e =
      let one = bind_ok (track_at form.has_slot left) (λ at. change_at at.1 >>= (λ k. Ok (Delta at.0.0 at.0.1 k.0, k.1))) (item, next) e in
      let at = track_taken form.has_slot start left one.0.0 one.0.1 tag.rest_bytes one.1 in
      let two = bind_ok (change_at one.0.1) (λ k. Ok (Delta one.0.0.0 one.0.0.1 k.0, k.1)) (item, next) one.2 in
      let kind = change_takes one.0.1 two.0.0 two.0.1 at.takes.rest_bytes two.1 in
      let head = Takes-then start (2 ∷ []) left (to_be_bytes w16 one.0.0.0 ++ to_be_bytes w32 one.0.0.1) one.0.1 tag at.takes in
      subst (λ (p : Item × Left). ItemTaken form earlier start p.0 p.1) (given_is (Delta one.0.0.0 one.0.0.1 two.0.0, two.0.1) (item, next) two.2) (record {
        takes = Takes-then start (2 ∷ to_be_bytes w16 one.0.0.0 ++ to_be_bytes w32 one.0.0.1) one.0.1 (delta_spelling two.0.0) two.0.1 head kind.takes;
        kept = all_five (form.deltas && not earlier.late) (nat_lt one.0.0.0 (2 ^ 16)) (nat_lt one.0.0.1 (2 ^ 32)) (form.has_slot one.0.0.0 one.0.0.1) (changes_part two.0.0 && is_kind two.0.0)
            allowed (lt-ltb one.0.0.0 (2 ^ 16) at.device_fits) (lt-ltb one.0.0.1 (2 ^ 32) at.track_fits) at.kept (and_true (changes_part two.0.0) (is_kind two.0.0) kind.part kind.kept);
      })

  pair_taken : (version : ℕ) → is_version version ≡ true → Takes start (pair_tag version ∷ []) left → pair_item_at version left ≡ Ok (item, next) → ItemTaken form earlier start item next
  unfolding pair_item_at
  pair_taken version known tag e =
      let long = row_length version in
      let one = bind_ok (bytes_at long any left) (λ t. row_or left (row_by version t.0) >>= (λ r. Ok (Pair version r, t.1))) (item, next) e in
      let text = bytes_takes long any left one.0.0 one.0.1 tag.rest_bytes one.1 in
      let two = bind_ok (row_or left (row_by version one.0.0)) (λ r. Ok (Pair version r, one.0.1)) (item, next) one.2 in
      let is = row_given left (row_by version one.0.0) two.0 two.1 in
      let bytes : IsBytes one.0.0 = front_bytes left one.0.0 one.0.1 tag.rest_bytes text.0 in
      subst (λ (p : Item × Left). ItemTaken form earlier start p.0 p.1) (given_is (Pair version two.0, one.0.1) (item, next) two.2) (record {
        takes = subst (λ (t : List ℕ). Takes start (pair_tag version ∷ t) one.0.1) (version_spelled version one.0.0 two.0 bytes is) (Takes-then start (pair_tag version ∷ []) left one.0.0 one.0.1 tag text.0);
        kept = and_true (is_version version) (is_version_row version two.0) known (version_keeps version one.0.0 two.0 bytes is);
      })
    where
      front_bytes : (left : Left) (text : List ℕ) (next : Left) → IsBytes left.bytes → Takes left text next → IsBytes text
      front_bytes left text next fits takes = IsBytes-front text next.bytes (subst (λ (t : List ℕ). IsBytes t) takes.parts fits)

  gone_taken : Takes start (4 ∷ []) left → gone_item_at left ≡ Ok (item, next) → ItemTaken form earlier start item next
  unfolding gone_item_at
  gone_taken tag e =
      let one = bind_ok (number_at w16 any left) (λ d. Ok (Gone d.0, d.1)) (item, next) e in
      let device = number_takes w16 (2 ^ 16) wide16 any left one.0.0 one.0.1 tag.rest_bytes one.1 in
      subst (λ (p : Item × Left). ItemTaken form earlier start p.0 p.1) (given_is (Gone one.0.0, one.0.1) (item, next) one.2) (record {
        takes = Takes-then start (4 ∷ []) left (to_be_bytes w16 one.0.0) one.0.1 tag device.takes;
        kept = lt-ltb one.0.0 (2 ^ 16) device.fits;
      })

-- ---- an item

-- the tag says which kind of item it is
module _ (deltas late : Bool) (tag : ℕ) (is : is_tag deltas late tag ≡ true) where
  tag_early : nat_eq tag 1 ≡ true → not late ≡ true
  tag_early one = by_tests (not late) (deltas && not late) (ap (λ (t : ℕ). is_tag deltas late t) (sym (eqb-true tag 1 one)) ∙ is)
    where
      by_tests : (early changed : Bool) → ((true && early) || (false && changed) || false || false || false) ≡ true → early ≡ true
      by_tests true changed e = refl
      by_tests false changed e = absurd cc

  tag_delta : nat_eq tag 2 ≡ true → (deltas && not late) ≡ true
  tag_delta two = by_tests (not late) (deltas && not late) (ap (λ (t : ℕ). is_tag deltas late t) (sym (eqb-true tag 2 two)) ∙ is)
    where
      by_tests : (early changed : Bool) → ((false && early) || (true && changed) || false || false || false) ≡ true → changed ≡ true
      by_tests early true e = refl
      by_tests early false e = absurd cc

  tag_gone : nat_eq tag 1 ≡ false → nat_eq tag 2 ≡ false → nat_eq tag 3 ≡ false → nat_eq tag 5 ≡ false → tag ≡ 4
  tag_gone one two three five = eqb-true tag 4 (by_tests (not late) (deltas && not late) (nat_eq tag 1) (nat_eq tag 2) (nat_eq tag 3) (nat_eq tag 4) (nat_eq tag 5) is one two three five)
    where
      by_tests : (early changed one two three four five : Bool) → ((one && early) || (two && changed) || three || four || five) ≡ true → one ≡ false → two ≡ false → three ≡ false → five ≡ false → four ≡ true
      by_tests early changed false false false true five e f g h k = refl
      by_tests early changed false false false false true e f g h k = absurd cc
      by_tests early changed false false false false false e f g h k = absurd cc
      by_tests early changed true two three four five e f g h k = absurd cc
      by_tests early changed false true three four five e f g h k = absurd cc
      by_tests early changed false false true four five e f g h k = absurd cc

pub item_takes : (form : Form) (earlier : Earlier) (left : Left) (item : Item) (next : Left) → IsBytes left.bytes → item_at form earlier left ≡ Ok (item, next) → ItemTaken form earlier left item next
unfolding item_at
item_takes form earlier left item next fits e =
    let one = bind_ok (number_at w8 (is_tag form.deltas earlier.late) left)
    (λ t. cond (nat_eq t.0 1) (image_item_at form earlier t.1) (cond (nat_eq t.0 2) (delta_item_at form t.1) (cond (nat_eq t.0 3) (pair_item_at 1 t.1) (cond (nat_eq t.0 5) (pair_item_at 2 t.1) (gone_item_at t.1))))) (item, next) e in
    let tag = number_takes w8 (2 ^ 8) wide8 (is_tag form.deltas earlier.late) left one.0.0 one.0.1 fits one.1 in
    choose one.0.0 one.0.1 (nat_eq one.0.0 1) (nat_eq one.0.0 2) (nat_eq one.0.0 3) (nat_eq one.0.0 5) refl refl refl refl tag.kept (subst (λ (t : List ℕ). Takes left t one.0.1) (one_byte one.0.0 tag.fits) tag.takes) one.2
  where
    choose : (tag : ℕ) (after : Left) (one two three five : Bool) → nat_eq tag 1 ≡ one → nat_eq tag 2 ≡ two → nat_eq tag 3 ≡ three → nat_eq tag 5 ≡ five → is_tag form.deltas earlier.late tag ≡ true → Takes left (tag ∷ []) after
        → cond one (image_item_at form earlier after) (cond two (delta_item_at form after) (cond three (pair_item_at 1 after) (cond five (pair_item_at 2 after) (gone_item_at after)))) ≡ Ok (item, next) → ItemTaken form earlier left item next
    choose tag after true two three five is other another further kept head e =
        image_taken form earlier left after item next (tag_early form.deltas earlier.late tag kept is) (subst (λ k. Takes left (k ∷ []) after) (eqb-true tag 1 is) head) e
    choose tag after false true three five other is another further kept head e =
        delta_taken form earlier left after item next (tag_delta form.deltas earlier.late tag kept is) (subst (λ k. Takes left (k ∷ []) after) (eqb-true tag 2 is) head) e
    choose tag after false false true five other another is further kept head e =
        pair_taken form earlier left after item next 1 refl (subst (λ k. Takes left (k ∷ []) after) (eqb-true tag 3 is) head) e
    choose tag after false false false true other another further is kept head e =
        pair_taken form earlier left after item next 2 refl (subst (λ k. Takes left (k ∷ []) after) (eqb-true tag 5 is) head) e
    choose tag after false false false false one two three five kept head e =
        gone_taken form earlier left after item next (subst (λ k. Takes left (k ∷ []) after) (tag_gone form.deltas earlier.late tag kept one two three five) head) e

-- ---- bodies

-- what was read as the items of a body
pub record BodyTaken (form : Form) (earlier : Earlier) (left : Left) (items : Items) : Type 0 where
  pub keep : are_items_after form earlier items.good ≡ true
  pub rest : List ℕ
  pub parts : left.bytes ≡ body_spelling items.good ++ rest
  pub all : items.bad ≡ None → rest ≡ []
  pub others : (at : ℕ) → items.bad ≡ Some at → at ≡ left.place + length (body_spelling items.good)
  pub refused : (at : ℕ) → items.bad ≡ Some at → (item : Item) (more : List ℕ) → is_item form (earlier_after_all items.good earlier) item ≡ true → rest ≢ item_spelling item ++ more

no_bytes : (bytes : List ℕ) → length bytes ≡ 0 → bytes ≡ []
no_bytes [] len = refl
no_bytes (b ∷ bytes) len = absurd (omega (arith, len))

end_taken : (form : Form) (earlier : Earlier) (left : Left) → length left.bytes ≡ 0 → BodyTaken form earlier left no_items
end_taken form earlier left len = record { keep = refl; rest = left.bytes; parts = refl; all = λ none. no_bytes left.bytes len; others = λ at is. absurd cc; refused = λ at is. absurd cc }

ok_or_err : (read : Result (Item × Left) Bad) (found : Item × Left) (bad : Bad) → read ≡ Ok found → read ≢ Err bad
ok_or_err read found bad is not = absurd cc

first_taken : (form : Form) (earlier : Earlier) (left : Left) (read : Result (Item × Left) Bad) (rest : Item × Left → Items) → IsBytes left.bytes → item_at form earlier left ≡ read
    → ((i : Item × Left) → IsBytes i.1.bytes → item_at form earlier left ≡ Ok i → BodyTaken form (earlier_after i.0 earlier) i.1 (rest i)) → BodyTaken form earlier left (first_and_rest left.place read rest)
first_taken form earlier left (Err bad) rest fits is more = record { keep = refl; rest = left.bytes; parts = refl; all = λ none. absurd cc; others = λ at some. omega (arith, some_is left.place at some); refused = λ at some item more keeps spelled. ok_or_err (item_at form earlier left) _ bad ((λ i. item_at form earlier (record { place = left.place; bytes = spelled i })) ∙ items_again form earlier left.place item more keeps) is }
first_taken form earlier left (Ok i) rest fits is more =
    let first = item_takes form earlier left i.0 i.1 fits is in
    let others = more i first.takes.rest_bytes is in
    let len = length-append (item_spelling i.0) (body_spelling (rest i).good) in
    record {
      keep = and_true (is_item form earlier i.0) (are_items_after form (earlier_after i.0 earlier) (rest i).good) first.kept others.keep;
      rest = others.rest;
      parts = first.takes.parts ∙ ap (λ (t : List ℕ). item_spelling i.0 ++ t) others.parts ∙ sym (append_assoc (item_spelling i.0) (body_spelling (rest i).good) others.rest);
      all = others.all;
      others = λ at some. omega (arith, others.others at some, first.takes.place, len);
      refused = others.refused;
    }

by_end : (form : Form) (earlier : Earlier) (left : Left) (rest : Item × Left → Items) → IsBytes left.bytes
    → ((i : Item × Left) → IsBytes i.1.bytes → item_at form earlier left ≡ Ok i → BodyTaken form (earlier_after i.0 earlier) i.1 (rest i))
    → (empty : Bool) → nat_eq (length left.bytes) 0 ≡ empty → BodyTaken form earlier left (cond empty no_items (first_and_rest left.place (item_at form earlier left) rest))
by_end form earlier left rest fits more true is = end_taken form earlier left (eqb-true (length left.bytes) 0 is)
by_end form earlier left rest fits more false is = first_taken form earlier left (item_at form earlier left) rest fits refl more

pub body_takes : (turns : ℕ) (form : Form) (earlier : Earlier) (left : Left) → IsBytes left.bytes → length left.bytes ≤ turns → BodyTaken form earlier left (items_from turns form earlier left)
unfolding items_from
body_takes zero form earlier left fits le = end_taken form earlier left (omega (arith, le))
body_takes (suc turns) form earlier left fits le =
    by_end form earlier left (λ i. items_from turns form (earlier_after i.0 earlier) i.1) fits
    (λ i i_fits read. let taken = item_takes form earlier left i.0 i.1 fits read in
    body_takes turns form (earlier_after i.0 earlier) i.1 i_fits (omega (arith, le, some_bytes i.0, ap length taken.takes.parts, length-append (item_spelling i.0) i.1.bytes)))
    (nat_eq (length left.bytes) 0) refl

-- These items stand spelled at the front, and they are all, or another that is bad begins after them.
pub record BeginWith (form : Form) (place : ℕ) (bytes : List ℕ) (items : Items) : Type 0 where
  pub keep : AreItems form items.good
  pub rest : List ℕ
  pub parts : bytes ≡ body_spelling items.good ++ rest
  pub all : items.bad ≡ None → rest ≡ []
  pub others : (at : ℕ) → items.bad ≡ Some at → at ≡ place + length (body_spelling items.good)
  -- No item that may follow these stands there.
  pub refused : (at : ℕ) → items.bad ≡ Some at → (item : Item) (more : List ℕ) → IsTrue (is_item form (earlier_after_all items.good none_earlier) item) → rest ≢ item_spelling item ++ more

-- What is read as the items of a body keeps the rules and was spelled so.
pub bodies_spelled : (form : Form) (place : ℕ) (bytes : List ℕ) → IsBytes bytes → BeginWith form place bytes (items_at form place bytes)
bodies_spelled form place bytes fits =
    let taken = body_takes (length bytes) form none_earlier (record { place = place; bytes = bytes }) fits (omega arith) in
    record { keep = taken.keep; rest = taken.rest; parts = taken.parts; all = taken.all; others = taken.others; refused = taken.refused }
