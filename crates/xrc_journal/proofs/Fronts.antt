-- The good items at the front of bytes.
use Rattle.std.proofs.Common.{◌≡◌, ℕ, zero, suc, ◌+◌, ◌^◌, ◌<◌, ◌≤◌, Bool, true, false, not, cond, nat_eq, nat_lt, ◌&&◌, ◌||◌, List, [], ◌∷◌, ◌++◌, length, take, drop, slice_index, Some, None, Result, Ok, Err, refl, sym, ap, ◌∙◌, append_assoc, arith, length-append, length-take, length-drop, take-append-drop}
use Rattle.std.proofs.lemmas.Bool.{eq-eqb, ne_eqb}
use Rattle.std.proofs.Math.Seq.{take-add}
use Rattle.std.proofs.lemmas.List.{take_all, take_at, drop_at}
use Rattle.tod_stamp.specs.Fields.{IsBytes, Left, Bad}
use Rattle.tod_stamp.proofs.FieldLaws.{at_place, IsBytes-drop}
use Rattle.ckd_track.specs.Tracks.{is_track}
use Rattle.xrc_journal.specs.Items.{Item, Form, Earlier, none_earlier, earlier_after, earlier_after_all, anywhere, may_draw, is_drawn, is_item, are_items_after, item_spelling, body_spelling}
use Rattle.xrc_journal.specs.Items.Item.{Image, Delta, Pair, Gone}
use Rattle.xrc_journal.specs.Reading.{Items, item_at, no_items, first_and_rest, items_from, items_at}
use Rattle.xrc_journal.specs.Bodies.{items_of, BeginsWith, IsBody, GoodFront, are_late, earlier_of}
use Rattle.xrc_journal.specs.Answers.{length_of}
use Rattle.xrc_journal.proofs.Fields.{both_true, and_true, some_is}
use Rattle.xrc_journal.proofs.ItemsAgain.{items_again, bodies_again, first_is, some_bytes, image_rules}
use Rattle.xrc_journal.proofs.ItemsRead.{item_takes}
use Rattle.xrc_journal.proofs.Bodies.{body_push, are_push, items_are}
use Rattle.xrc_journal.proofs.Scans.{after_push}

-- ---- the rules of a form are those of any tracks

item_anywhere : (form : Form) (earlier : Earlier) (item : Item) → form.deltas ≡ false → is_item form earlier item ≡ true → is_item anywhere earlier item ≡ true
item_anywhere form earlier (Image device track recs) no_deltas is =
    let d = not earlier.late && nat_lt device (2 ^ 16) && nat_lt track (2 ^ 32) in
    let a = both_true (d && may_draw form earlier device track) (is_track recs) is in
    let b = both_true d (may_draw form earlier device track) a.0 in
    let c = both_true (form.has_slot device track) (form.deltas || not (is_drawn earlier.drawn device track)) b.1 in
    and_true (d && may_draw anywhere earlier device track) (is_track recs) (and_true d (may_draw anywhere earlier device track) b.0 ((λ i. no_deltas' i || not (is_drawn earlier.drawn device track)) ∙ c.1)) a.1
  where
    no_deltas' : false ≡ form.deltas
    no_deltas' = sym no_deltas
item_anywhere form earlier (Delta device track kind) no_deltas is = absurd (bad form.deltas (not earlier.late) _ _ _ _ no_deltas is)
  where
    bad : (a b c d e f : Bool) → a ≡ false → ((a && b) && c && d && e && f) ≡ true → ⊥
    bad true b c d e f none e' = cc
    bad false b c d e f none e' = cc
item_anywhere form earlier (Pair version row) no_deltas is = is
item_anywhere form earlier (Gone device) no_deltas is = is

pub are_anywhere : (form : Form) (earlier : Earlier) (items : List Item) → form.deltas ≡ false → are_items_after form earlier items ≡ true → are_items_after anywhere earlier items ≡ true
are_anywhere form earlier [] no_deltas are = refl
are_anywhere form earlier (i ∷ items) no_deltas are =
    let parts = both_true (is_item form earlier i) (are_items_after form (earlier_after i earlier) items) are in
    and_true (is_item anywhere earlier i) (are_items_after anywhere (earlier_after i earlier) items) (item_anywhere form earlier i no_deltas parts.0) (are_anywhere form (earlier_after i earlier) items no_deltas parts.1)

-- ---- items before one that is bad

bad_first : (place : ℕ) (read : Result (Item × Left) Bad) (rest : Item × Left → Items) → length_of read ≡ None → first_and_rest place read rest ≡ record { good = []; bad = Some place }
bad_first place (Ok i) rest none = absurd cc
bad_first place (Err bad) rest none = refl

bad_here : (turns : ℕ) (form : Form) (earlier : Earlier) (place : ℕ) (rest : List ℕ) → 1 ≤ length rest → length_of (item_at form earlier (at_place place rest)) ≡ None → items_from (suc turns) form earlier (at_place place rest) ≡ record { good = []; bad = Some place }
unfolding items_from
bad_here turns form earlier place rest some none =
    ap (λ (b : Bool). cond b no_items (first_and_rest place (item_at form earlier (at_place place rest)) (λ i. items_from turns form (earlier_after i.0 earlier) i.1))) (ne_eqb (length rest) 0 (omega (arith, some)))
    ∙ bad_first place (item_at form earlier (at_place place rest)) (λ i. items_from turns form (earlier_after i.0 earlier) i.1) none

pub front_again : (turns : ℕ) (form : Form) (earlier : Earlier) (place : ℕ) (items : List Item) (rest : List ℕ) → are_items_after form earlier items ≡ true → length (body_spelling items ++ rest) ≤ turns → 1 ≤ length rest
    → length_of (item_at form (earlier_after_all items earlier) (at_place (place + length (body_spelling items)) rest)) ≡ None
    → items_from turns form earlier (at_place place (body_spelling items ++ rest)) ≡ record { good = items; bad = Some (place + length (body_spelling items)) }
front_again zero form earlier place [] rest are le some none = absurd (omega (arith, le, some))
front_again (suc turns) form earlier place [] rest are le some none =
    let here : place + length (body_spelling []) ≡ place = omega arith in
    bad_here turns form earlier place rest some (ap (λ (n : ℕ). length_of (item_at form earlier (at_place n rest))) (sym here) ∙ none) ∙ ap (λ (n : ℕ). let r : Items = record { good = []; bad = Some n } in r) (sym here)
front_again zero form earlier place (i ∷ items) rest are le some none = absurd (omega (arith, le, some, length-append (body_spelling (i ∷ items)) rest))
front_again (suc turns) form earlier place (i ∷ items) rest are le some none =
    let parts = both_true (is_item form earlier i) (are_items_after form (earlier_after i earlier) items) are in
    let len = length-append (item_spelling i) (body_spelling items) in
    let next = place + length (item_spelling i) in
    let end : next + length (body_spelling items) ≡ place + length (body_spelling (i ∷ items)) = omega (arith, len) in
    let split = append_assoc (item_spelling i) (body_spelling items) rest in
    let size = length-append (item_spelling i) (body_spelling items ++ rest) in
    let more = front_again turns form (earlier_after i earlier) next items rest parts.1 (omega (arith, le, some_bytes i, ap length split, size)) some
    (ap (λ (n : ℕ). length_of (item_at form (earlier_after_all items (earlier_after i earlier)) (at_place n rest))) end ∙ none) in
    ap (λ (l : List ℕ). items_from (suc turns) form earlier (at_place place l)) split
    ∙ first_is turns form earlier (at_place place (item_spelling i ++ (body_spelling items ++ rest))) i (at_place next (body_spelling items ++ rest)) (omega (arith, size, some_bytes i)) (items_again form earlier place i (body_spelling items ++ rest) parts.0)
    ∙ ap (λ (r : Items). let q : Items = record { good = i ∷ r.good; bad = r.bad } in q) more
    ∙ ap (λ (n : ℕ). let q : Items = record { good = i ∷ items; bad = Some n } in q) end

-- ---- how far reading has come

pub record ReadsTo (form : Form) (bytes : List ℕ) (n : ℕ) (late : Bool) : Type 0 where
  pub within : n ≤ length bytes
  pub keep : are_items_after form none_earlier (items_of (take n bytes)) ≡ true
  pub spelled : take n bytes ≡ body_spelling (items_of (take n bytes))
  pub late_is : late ≡ are_late (items_of (take n bytes))

-- the item after the first n bytes, of that many bytes
pub record OneMore (form : Form) (bytes : List ℕ) (n size : ℕ) : Type 0 where
  pub reads : ReadsTo form bytes (n + size) (not (nat_eq (slice_index (drop n bytes) 0) 1))
  pub some : 1 ≤ size
  pub within : n + size ≤ length bytes
  pub item : Item
  pub begins : BeginsWith (drop n bytes) item
  pub earlier_is : earlier_of (take (n + size) bytes) ≡ earlier_after item (earlier_of (take n bytes))

pub reads_none : (form : Form) (bytes : List ℕ) → ReadsTo form bytes 0 false
unfolding items_from
reads_none form bytes = record { within = omega arith; keep = refl; spelled = refl; late_is = refl }

module _ (form : Form) (no_deltas : form.deltas ≡ false) (bytes : List ℕ) (n : ℕ) (late : Bool) (reads : ReadsTo form bytes n late) where
  pub reads_body : IsBody (take n bytes)
  reads_body = record { keep = are_anywhere form none_earlier (items_of (take n bytes)) no_deltas reads.keep; spelled = reads.spelled }

  front_len : length (body_spelling (items_of (take n bytes))) ≡ n
  front_len = sym (ap length reads.spelled) ∙ omega (arith, reads.within, length-take n bytes)

  -- all bytes are good
  pub reads_all : length bytes ≤ n → GoodFront form bytes n
  reads_all all = record {
    within = reads.within;
    keep = reads.keep;
    spelled = reads.spelled;
    read = λ place. ap (λ (l : List ℕ). items_at form place l) (sym (take_all n bytes all) ∙ reads.spelled) ∙ bodies_again form place (items_of (take n bytes)) reads.keep
        ∙ ap (λ (b : Bool). let q : Items = record { good = items_of (take n bytes); bad = cond b None (Some (place + n)) } in q) (sym (eq-eqb n (length bytes) (omega (arith, all, reads.within))));
  }

  -- a bad item begins after them
  pub reads_bad : n < length bytes → ((place : ℕ) → length_of (item_at form (earlier_of (take n bytes)) (at_place place (drop n bytes))) ≡ None) → GoodFront form bytes n
  reads_bad some none = record {
    within = reads.within;
    keep = reads.keep;
    spelled = reads.spelled;
    read = λ place.
        ap (λ (l : List ℕ). items_from (length bytes) form none_earlier (at_place place l)) split
        ∙ front_again (length bytes) form none_earlier place (items_of (take n bytes)) (drop n bytes) reads.keep (omega (arith, ap length split)) (omega (arith, some, length-drop n bytes)) (none (place + length (body_spelling (items_of (take n bytes)))))
        ∙ ap (λ (k : ℕ). let q : Items = record { good = items_of (take n bytes); bad = Some (place + k) } in q) front_len
        ∙ ap (λ (b : Bool). let q : Items = record { good = items_of (take n bytes); bad = cond b None (Some (place + n)) } in q) (sym (ne_eqb n (length bytes) (omega (arith, some))));
  }
    where
      split : bytes ≡ body_spelling (items_of (take n bytes)) ++ drop n bytes
      split = sym (take-append-drop n bytes) ∙ ap (λ (l : List ℕ). l ++ drop n bytes) reads.spelled

  late_by : (item : Item) → is_item form (earlier_of (take n bytes)) item ≡ true → (drop n bytes ≡ item_spelling item ++ drop (length (item_spelling item)) (drop n bytes)) → not (nat_eq (slice_index (drop n bytes) 0) 1) ≡ (earlier_after item (earlier_of (take n bytes))).late
  late_by (Image device track recs) is parts = early_is (earlier_of (take n bytes)).late (image_rules form (earlier_of (take n bytes)) device track recs is).early (slice_index (drop n bytes) 0) (ap (λ (l : List ℕ). slice_index l 0) parts)
    where
      early_is : (late : Bool) → not late ≡ true → (tag : ℕ) → tag ≡ 1 → not (nat_eq tag 1) ≡ late
      early_is true e tag one = absurd cc
      early_is false e tag one = ap not (eq-eqb tag 1 one)
  late_by (Delta device track kind) is parts = absurd (bad form.deltas (not (earlier_of (take n bytes)).late) _ _ _ _ no_deltas is)
    where
      bad : (a b c d e f : Bool) → a ≡ false → ((a && b) && c && d && e && f) ≡ true → ⊥
      bad true b c d e f none e' = cc
      bad false b c d e f none e' = cc
  late_by (Pair version row) is parts = ap (λ (k : ℕ). not (nat_eq k 1)) (ap (λ (l : List ℕ). slice_index l 0) parts) ∙ no_image (nat_eq version 1)
    where
      no_image : (narrow : Bool) → not (nat_eq (cond narrow 3 5) 1) ≡ true
      no_image true = refl
      no_image false = refl
  late_by (Gone device) is parts = ap (λ (k : ℕ). not (nat_eq k 1)) (ap (λ (l : List ℕ). slice_index l 0) parts)

  more_by : (item : Item) (next : Left) (size : ℕ) → IsBytes bytes → item_at form (earlier_of (take n bytes)) (at_place 0 (drop n bytes)) ≡ Ok (item, next) → size ≡ length (item_spelling item) → OneMore form bytes n size
  more_by item next size fits is len =
      let taken = item_takes form (earlier_of (take n bytes)) (at_place 0 (drop n bytes)) item next (IsBytes-drop n bytes fits) is in
      let parts : drop n bytes ≡ item_spelling item ++ next.bytes = taken.takes.parts in
      let size_le : n + size ≤ length bytes = omega (arith, len, ap length parts, length-append (item_spelling item) next.bytes, length-drop n bytes, reads.within) in
      let items = items_of (take n bytes) in
      let front : take (n + size) bytes ≡ body_spelling (items ++ item ∷ []) =
      take-add n size bytes ∙ (λ i. reads.spelled i ++ take (len i) (parts i)) ∙ ap (λ (l : List ℕ). body_spelling items ++ l) (take_at (item_spelling item) next.bytes (length (item_spelling item)) refl) ∙ sym (body_push items item) in
      let pushed = are_push form none_earlier items item reads.keep taken.kept in
      let read : items_of (take (n + size) bytes) ≡ items ++ item ∷ [] = items_are (items ++ item ∷ []) (take (n + size) bytes) (are_anywhere form none_earlier (items ++ item ∷ []) no_deltas pushed) front in
      let tail : drop n bytes ≡ item_spelling item ++ drop (length (item_spelling item)) (drop n bytes) = parts ∙ ap (λ (l : List ℕ). item_spelling item ++ l) (sym (ap (λ (l : List ℕ). drop (length (item_spelling item)) l) parts ∙ drop_at (item_spelling item) next.bytes (length (item_spelling item)) refl)) in
      let earlier = earlier_of (take n bytes) in
      let pushed_is = after_push items item none_earlier in
      record {
        reads = record {
          within = size_le;
          keep = ap (λ (l : List Item). are_items_after form none_earlier l) read ∙ pushed;
          spelled = front ∙ ap body_spelling (sym read);
          late_is = late_by item taken.kept tail ∙ ap (λ (e : Earlier). e.late) (sym pushed_is) ∙ ap are_late (sym read);
        };
        some = omega (arith, len, some_bytes item);
        within = size_le;
        item = item;
        begins = record { earlier = earlier; rest = next.bytes; keeps = item_anywhere form earlier item no_deltas taken.kept; parts = parts };
        earlier_is = ap (λ (l : List Item). earlier_after_all l none_earlier) read ∙ pushed_is;
      }

  -- one item more
  pub reads_more : (size : ℕ) → IsBytes bytes → length_of (item_at form (earlier_of (take n bytes)) (at_place 0 (drop n bytes))) ≡ Some size → OneMore form bytes n size
  reads_more size fits some = by_read (item_at form (earlier_of (take n bytes)) (at_place 0 (drop n bytes))) refl some
    where
      by_read : (r : Result (Item × Left) Bad) → item_at form (earlier_of (take n bytes)) (at_place 0 (drop n bytes)) ≡ r → length_of r ≡ Some size → OneMore form bytes n size
      by_read (Ok i) is some = more_by i.0 i.1 size fits is (sym (some_is (length (item_spelling i.0)) size some))
      by_read (Err bad) is some = absurd cc
