-- Going over the items of a body in search of a track's image.
use Rattle.std.proofs.Common.{◌≡◌, ◌≢◌, ◌⊎◌, inl, inr, cond, nat_eq, ℕ, ◌+◌, ◌-◌, ◌≤◌, Bool, true, false, ◌||◌, List, [], ◌∷◌, ◌++◌, length, take, drop, slice_index, Result, Ok, Err, refl, sym, ap, ◌∙◌, append_assoc, append-nil, arith, length-append, length-drop}
use Rattle.std.specs.Int.{w16, w32, to_be_bytes}
use Rattle.std.proofs.lemmas.List.{drop_at, take_all}
use Rattle.ckd_track.specs.declared.rec.Rec.{Rec}
use Rattle.ckd_track.specs.declared.fault.ImageError.{ImageError}
use Rattle.ckd_track.specs.Images.{image, image_at, longest_image}
use Rattle.ckd_track.proofs.ImageLaws.{image_again}
use Rattle.ckd_track.proofs.Parts.{length-image}
use Rattle.xrc_journal.specs.Items.{Item, Earlier, none_earlier, earlier_after, earlier_after_all, anywhere, is_drawn, is_item, are_items_after, item_spelling, body_spelling, pair_tag}
use Rattle.xrc_journal.specs.Items.Item.{Image, Delta, Pair, Gone}
use Rattle.xrc_journal.specs.Bodies.{items_of, have_image, IsBody, BeginsWith, BeginsWithItem, draws}
use Rattle.xrc_journal.proofs.Fields.{both_true}
use Rattle.xrc_journal.proofs.ItemsAgain.{image_rules, some_bytes}

-- ---- the first item

-- the tag of an item
abbrev pub tag_of : Item → ℕ
tag_of (Image device track recs) = 1
tag_of (Delta device track kind) = 2
tag_of (Pair version row) = pair_tag version
tag_of (Gone device) = 4

pub tag_is : (bytes : List ℕ) (item : Item) → BeginsWith bytes item → slice_index bytes 0 ≡ tag_of item
tag_is bytes (Image device track recs) b = ap (λ (l : List ℕ). slice_index l 0) b.parts
tag_is bytes (Delta device track kind) b = ap (λ (l : List ℕ). slice_index l 0) b.parts
tag_is bytes (Pair version row) b = ap (λ (l : List ℕ). slice_index l 0) b.parts
tag_is bytes (Gone device) b = ap (λ (l : List ℕ). slice_index l 0) b.parts

-- A pair has one of two tags.
pub tag_split : (version : ℕ) → (pair_tag version ≡ 3) ⊎ (pair_tag version ≡ 5)
tag_split version = by (nat_eq version 1)
  where
    by : (narrow : Bool) → (let tag : ℕ = cond narrow 3 5 in (tag ≡ 3) ⊎ (tag ≡ 5))
    by true = inl refl
    by false = inr refl

-- Those of images and changes are below them.
pub tag_high : (version : ℕ) → 3 ≤ pair_tag version
tag_high version = elim (tag_split version) [
  | inl three ↦ omega (arith, three)
  | inr five ↦ omega (arith, five)
]

-- an image's item at the front
pub record ImageFirst (bytes : List ℕ) (item : Item) : Type 0 where
  pub recs : List Rec
  pub more : List ℕ
  pub read : image_at (take (length bytes - 7) (drop 7 bytes)) ≡ Ok (recs, more)
  pub size : length (item_spelling item) ≡ 7 + length (image recs)
  pub short : length (image recs) ≤ longest_image

other_tag : (n m : ℕ) → m ≢ n → n ≡ m → ⊥
other_tag n m other is = other (sym is)

pub image_first : (bytes : List ℕ) (item : Item) → slice_index bytes 0 ≡ 1 → BeginsWith bytes item → ImageFirst bytes item
image_first bytes (Image device track recs) tag b =
    let rules = image_rules anywhere b.earlier device track recs b.keeps in
    let front = 1 ∷ to_be_bytes w16 device ++ to_be_bytes w32 track in
    record {
      recs = recs;
      more = b.rest;
      read = ap (λ (l : List ℕ). image_at l) (take_all (length bytes - 7) (drop 7 bytes) (omega (arith, length-drop 7 bytes)) ∙ ap (λ (l : List ℕ). drop 7 l) (b.parts ∙ append_assoc front (image recs) b.rest)) ∙ image_again recs b.rest rules.are;
      size = omega (arith, length-append front (image recs));
      short = length-image recs rules.are;
    }
image_first bytes (Delta device track kind) tag b = absurd (omega (arith, tag, tag_is bytes (Delta device track kind) b))
image_first bytes (Pair version row) tag b = absurd (omega (arith, tag, tag_is bytes (Pair version row) b, tag_high version))
image_first bytes (Gone device) tag b = absurd (omega (arith, tag, tag_is bytes (Gone device) b))

read_is : (a b : List Rec × List ℕ) → (let x : Result (List Rec × List ℕ) ImageError = Ok a in let y : Result (List Rec × List ℕ) ImageError = Ok b in x ≡ y) → a ≡ b
read_is a b e = cc

pub image_length : (bytes : List ℕ) (item : Item) (recs : List Rec) (more : List ℕ) (n : ℕ) → slice_index bytes 0 ≡ 1 → BeginsWith bytes item → image_at (take (length bytes - 7) (drop 7 bytes)) ≡ Ok (recs, more) → n ≡ length (image recs) → (7 + n ≡ length (item_spelling item)) × (n ≤ longest_image)
image_length bytes item recs more n tag b read len =
    let first = image_first bytes item tag b in
    let same = ap (λ (p : List Rec × List ℕ). length (image p.0)) (read_is (recs, more) (first.recs, first.more) (sym read ∙ first.read)) in
    (omega (arith, len, same, first.size), omega (arith, len, same, first.short))

pub image_bad : (bytes : List ℕ) (item : Item) (bad : ImageError) → slice_index bytes 0 ≡ 1 → BeginsWith bytes item → image_at (take (length bytes - 7) (drop 7 bytes)) ≡ Err bad → ⊥
image_bad bytes item bad tag b read = clash (sym (image_first bytes item tag b).read ∙ read)
  where
    clash : {x : List Rec × List ℕ} → (let a : Result (List Rec × List ℕ) ImageError = Ok x in let z : Result (List Rec × List ℕ) ImageError = Err bad in a ≡ z) → ⊥
    clash e = cc

-- ---- images among items

pub after_push : (items : List Item) (item : Item) (earlier : Earlier) → earlier_after_all (items ++ item ∷ []) earlier ≡ earlier_after item (earlier_after_all items earlier)
after_push [] item earlier = refl
after_push (i ∷ items) item earlier = after_push items item (earlier_after i earlier)

drawn_by : (item : Item) (earlier : Earlier) (device track : ℕ) → is_drawn (earlier_after item earlier).drawn device track ≡ (draws device track item || is_drawn earlier.drawn device track)
drawn_by (Image d x recs) earlier device track = refl
drawn_by (Delta d x kind) earlier device track = refl
drawn_by (Pair version row) earlier device track = refl
drawn_by (Gone d) earlier device track = refl

or_true : (a b : Bool) → b ≡ true → (a || b) ≡ true
or_true true b e = refl
or_true false b e = e

drawn_stays : (items : List Item) (earlier : Earlier) (device track : ℕ) → is_drawn earlier.drawn device track ≡ true → is_drawn (earlier_after_all items earlier).drawn device track ≡ true
drawn_stays [] earlier device track is = is
drawn_stays (i ∷ items) earlier device track is = drawn_stays items (earlier_after i earlier) device track (drawn_by i earlier device track ∙ or_true (draws device track i) (is_drawn earlier.drawn device track) is)

after_both : (done todo : List Item) (earlier : Earlier) → earlier_after_all (done ++ todo) earlier ≡ earlier_after_all todo (earlier_after_all done earlier)
after_both [] todo earlier = refl
after_both (i ∷ done) todo earlier = after_both done todo (earlier_after i earlier)

-- how far a search has come: no item before what is left is an image of the track
pub record Scan (body rest : List ℕ) (device track : ℕ) : Type 0 where
  pub done : List Item
  pub todo : List Item
  pub whole : items_of body ≡ done ++ todo
  pub left : rest ≡ body_spelling todo
  pub keep : are_items_after anywhere (earlier_after_all done none_earlier) todo ≡ true
  pub none : have_image done device track ≡ false

pub scan_start : (body : List ℕ) (device track : ℕ) → IsBody body → Scan body body device track
scan_start body device track is = record { done = []; todo = items_of body; whole = refl; left = is.spelled; keep = is.keep; none = refl }

-- the first item of what is left
pub record ScanFirst (body rest : List ℕ) (device track : ℕ) : Type 0 where
  pub item : Item
  pub begins : BeginsWith rest item
  pub some : 1 ≤ length (item_spelling item)
  pub long : length (item_spelling item) ≤ length rest
  pub next : draws device track item ≡ false → Scan body (drop (length (item_spelling item)) rest) device track
  pub found : draws device track item ≡ true → have_image (items_of body) device track ≡ true

no_more : (todo : List Item) (rest : List ℕ) → rest ≡ body_spelling todo → length rest ≡ 0 → todo ≡ []
no_more [] rest left len = refl
no_more (i ∷ todo) rest left len = absurd (omega (arith, len, ap length left, some_bytes i, length-append (item_spelling i) (body_spelling todo)))

pub scan_end : (body rest : List ℕ) (device track : ℕ) → Scan body rest device track → length rest ≡ 0 → have_image (items_of body) device track ≡ false
scan_end body rest device track s len = ap (λ (l : List Item). have_image l device track) (s.whole ∙ ap (λ (l : List Item). s.done ++ l) (no_more s.todo rest s.left len) ∙ append-nil s.done) ∙ s.none

first_by : (body rest : List ℕ) (device track : ℕ) (done todo : List Item) → items_of body ≡ done ++ todo → rest ≡ body_spelling todo → are_items_after anywhere (earlier_after_all done none_earlier) todo ≡ true → have_image done device track ≡ false → 1 ≤ length rest → ScanFirst body rest device track
first_by body rest device track done [] whole left keep none some = absurd (omega (arith, some, ap length left))
first_by body rest device track done (i ∷ todo) whole left keep none some =
    let parts = both_true (is_item anywhere (earlier_after_all done none_earlier) i) (are_items_after anywhere (earlier_after i (earlier_after_all done none_earlier)) todo) keep in
    let pushed = after_push done i none_earlier in
    let drawn = drawn_by i (earlier_after_all done none_earlier) device track in
    record {
      item = i;
      begins = record { earlier = earlier_after_all done none_earlier; rest = body_spelling todo; keeps = parts.0; parts = left };
      some = some_bytes i;
      long = omega (arith, ap length left, length-append (item_spelling i) (body_spelling todo));
      next = λ other. record {
        done = done ++ i ∷ [];
        todo = todo;
        whole = whole ∙ sym (append_assoc done (i ∷ []) todo);
        left = ap (λ (l : List ℕ). drop (length (item_spelling i)) l) left ∙ drop_at (item_spelling i) (body_spelling todo) (length (item_spelling i)) refl;
        keep = ap (λ (e : Earlier). are_items_after anywhere e todo) pushed ∙ parts.1;
        none = ap (λ (e : Earlier). is_drawn e.drawn device track) pushed ∙ drawn ∙ (λ j. other j || none j);
      };
      found = λ is. ap (λ (l : List Item). have_image l device track) whole ∙ ap (λ (e : Earlier). is_drawn e.drawn device track) (after_both done (i ∷ todo) none_earlier)
          ∙ drawn_stays todo (earlier_after i (earlier_after_all done none_earlier)) device track (drawn ∙ ap (λ (b : Bool). b || is_drawn (earlier_after_all done none_earlier).drawn device track) is);
    }

pub scan_first : (body rest : List ℕ) (device track : ℕ) → Scan body rest device track → 1 ≤ length rest → ScanFirst body rest device track
scan_first body rest device track s some = first_by body rest device track s.done s.todo s.whole s.left s.keep s.none some

pub begins_with : (bytes : List ℕ) (item : Item) → BeginsWith bytes item → BeginsWithItem bytes
begins_with bytes item b = record { earlier = b.earlier; item = item; rest = b.rest; keeps = b.keeps; parts = b.parts }
