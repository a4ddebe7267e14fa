-- What a body's buffer holds once an item was put into it, or all were taken out.
use Rattle.std.proofs.Common.{◌≡◌, ℕ, suc, ◌+◌, ◌-◌, ◌≤◌, ◌<◌, ◌^◌, true, false, not, nat_lt, ◌&&◌, List, [], ◌∷◌, ◌++◌, length, take, drop, replicate, slice_index, refl, sym, ap, subst, ◌∙◌, append_assoc, append-nil, arith, length-append, length-take}
use Rattle.std.proofs.lemmas.Bool.{lt-ltb}
use Rattle.std.proofs.lemmas.List.{take_at, drop_at, get_or-drop, length-replicate}
use Rattle.crash_plant.specs.Bytes.{patched}
use Rattle.crash_plant.proofs.Patches.{patched_torn, patched_twice}
use Rattle.xrc_journal.specs.Items.{Item, Form, Earlier, none_earlier, earlier_after, earlier_after_all, anywhere, may_draw, is_item, are_items_after, item_spelling, body_spelling}
use Rattle.xrc_journal.specs.Reading.{Items}
use Rattle.ckd_track.specs.declared.rec.Rec.{Rec}
use Rattle.ckd_track.specs.Tracks.{is_track}
use Rattle.xrc_journal.specs.Items.Item.{Image}
use Rattle.xrc_journal.specs.Bodies.{BodyState, items_of, held_in, HoldsItems, with_item, are_late, have_image, IsNextItem}
use Rattle.xrc_journal.proofs.Fields.{both_true, and_true}
use Rattle.xrc_journal.proofs.ItemsAgain.{bodies_again}

pub body_push : (items : List Item) (item : Item) → body_spelling (items ++ item ∷ []) ≡ body_spelling items ++ item_spelling item
body_push [] item = append-nil (item_spelling item)
body_push (i ∷ items) item = ap (λ (l : List ℕ). item_spelling i ++ l) (body_push items item) ∙ sym (append_assoc (item_spelling i) (body_spelling items) (item_spelling item))

pub are_push : (form : Form) (earlier : Earlier) (items : List Item) (item : Item) → are_items_after form earlier items ≡ true → is_item form (earlier_after_all items earlier) item ≡ true → are_items_after form earlier (items ++ item ∷ []) ≡ true
are_push form earlier [] item are is = and_true (is_item form earlier item) true is refl
are_push form earlier (i ∷ items) item are is =
    let parts = both_true (is_item form earlier i) (are_items_after form (earlier_after i earlier) items) are in
    and_true (is_item form earlier i) (are_items_after form (earlier_after i earlier) (items ++ item ∷ [])) parts.0 (are_push form (earlier_after i earlier) items item parts.1 is)

-- items that are spelled at the front
pub items_are : (items : List Item) (bytes : List ℕ) → are_items_after anywhere none_earlier items ≡ true → bytes ≡ body_spelling items → items_of bytes ≡ items
items_are items bytes are spelled = ap (λ (l : List ℕ). items_of l) spelled ∙ ap (λ (r : Items). r.good) (bodies_again anywhere 0 items are)

-- a buffer with other bytes, of which the first are used
pub record Holds (used : ℕ) (buffer : List ℕ) (items : List Item) (room : ℕ) : Type 0 where
  pub holds : HoldsItems used buffer
  pub seen : held_in used buffer ≡ record { items = items; room = room }

pub holds_by : (items : List Item) (used : ℕ) (buffer : List ℕ) → are_items_after anywhere none_earlier items ≡ true → used + 1 ≤ length buffer → take used buffer ≡ body_spelling items → slice_index buffer used ≡ 0 → Holds used buffer items (length buffer - 1)
holds_by items used buffer are within spelled shut =
    let is = items_are items (take used buffer) are spelled in
    record {
      holds = record { within = within; shut = shut; keep = subst (λ (l : List Item). are_items_after anywhere none_earlier l ≡ true) (sym is) are; spelled = spelled ∙ ap body_spelling (sym is) };
      seen = ap (λ (l : List Item). let h : BodyState = record { items = l; room = length buffer - 1 } in h) is;
    }

-- what stands at a place where bytes and a 0 were put
module _ (place : ℕ) (bytes old new : List ℕ) (fits : place + length bytes + 1 ≤ length old) (is : new ≡ patched place (bytes ++ 0 ∷ []) old) where
  rest : List ℕ
  rest = drop (place + length (bytes ++ 0 ∷ [])) old

  whole : new ≡ (take place old ++ bytes) ++ 0 ∷ rest
  unfolding rest
  whole = is ∙ append_assoc (take place old) (bytes ++ 0 ∷ []) (drop (place + length (bytes ++ 0 ∷ [])) old)
      ∙ ap (λ (l : List ℕ). take place old ++ l) (append_assoc bytes (0 ∷ []) (drop (place + length (bytes ++ 0 ∷ [])) old))
      ∙ sym (append_assoc (take place old) bytes (0 ∷ drop (place + length (bytes ++ 0 ∷ [])) old))

  front_len : length (take place old ++ bytes) ≡ place + length bytes
  front_len = omega (arith, fits, length-append (take place old) bytes, length-take place old)

  pub put_front : take (place + length bytes) new ≡ take place old ++ bytes
  put_front = ap (λ (l : List ℕ). take (place + length bytes) l) whole ∙ take_at (take place old ++ bytes) (0 ∷ rest) (place + length bytes) front_len

  pub put_shut : slice_index new (place + length bytes) ≡ 0
  put_shut = ap (λ (k : ℕ). slice_index new k) (omega arith) ∙ sym (get_or-drop (place + length bytes) new 0 0)
      ∙ ap (λ (l : List ℕ). slice_index l 0) (ap (λ (l : List ℕ). drop (place + length bytes) l) whole ∙ drop_at (take place old ++ bytes) (0 ∷ rest) (place + length bytes) front_len)

  pub put_size : length new ≡ length old
  put_size = (patched_torn place (bytes ++ 0 ∷ []) old new (omega (arith, fits, length-append bytes (0 ∷ []))) is).size

-- one item more
pub holds_more : (item : Item) (used : ℕ) (bytes old new : List ℕ) → HoldsItems used old → is_item anywhere (earlier_after_all (items_of (take used old)) none_earlier) item ≡ true → bytes ≡ item_spelling item → used + length bytes + 1 ≤ length old
    → new ≡ patched used (bytes ++ 0 ∷ []) old → Holds (used + length bytes) new (items_of (take used old) ++ item ∷ []) (length old - 1)
holds_more item used bytes old new held is spelled fits put =
    let items = items_of (take used old) in
    let size = put_size used bytes old new fits put in
    let front : take (used + length bytes) new ≡ body_spelling (items ++ item ∷ []) =
    put_front used bytes old new fits put ∙ ap (λ (l : List ℕ). l ++ bytes) held.spelled ∙ ap (λ (l : List ℕ). body_spelling items ++ l) spelled ∙ sym (body_push items item) in
    subst (λ (n : ℕ). Holds (used + length bytes) new (items ++ item ∷ []) (n - 1)) size
    (holds_by (items ++ item ∷ []) (used + length bytes) new (are_push anywhere none_earlier items item held.keep is) (omega (arith, fits, size)) front (put_shut used bytes old new fits put))

-- no items
pub holds_none : (old new : List ℕ) → 1 ≤ length old → new ≡ patched 0 (0 ∷ []) old → Holds 0 new [] (length old - 1)
holds_none old new some put =
    let size = put_size 0 [] old new some put in
    subst (λ (n : ℕ). Holds 0 new [] (n - 1)) size (holds_by [] 0 new refl (omega (arith, some, size)) refl (put_shut 0 [] old new some put))

one_more : (n : ℕ) → n + 1 ≡ suc n
one_more n = omega arith

zeros_none : (n : ℕ) (buffer : List ℕ) → buffer ≡ replicate (n + 1) 0 → (slice_index buffer 0 ≡ 0) × (length buffer ≡ n + 1)
zeros_none n buffer is = let first : replicate (n + 1) 0 ≡ 0 ∷ replicate n 0 = ap (λ (k : ℕ). replicate k 0) (one_more n) in (ap (λ (l : List ℕ). slice_index l 0) (is ∙ first), ap length is ∙ length-replicate {A = ℕ} (n + 1) 0)

pub made_none : (n : ℕ) (buffer : List ℕ) → buffer ≡ replicate (n + 1) 0 → Holds 0 buffer [] n
made_none n buffer is =
    let zeros = zeros_none n buffer is in
    subst (λ (k : ℕ). Holds 0 buffer [] k) (omega (arith, zeros.1)) (holds_by [] 0 buffer refl (omega (arith, zeros.1)) refl zeros.0)

-- bytes put in three parts
pub put_thrice : (place : ℕ) (front back old one two new : List ℕ) → place + length front + length back + 1 ≤ length old → one ≡ patched place front old → two ≡ patched (place + length front) back one → new ≡ patched (place + length front + length back) (0 ∷ []) two
    → new ≡ patched place (front ++ back ++ 0 ∷ []) old
put_thrice place front back old one two new fits first second third =
    let both : two ≡ patched place (front ++ back) old = second ∙ ap (λ (l : List ℕ). patched (place + length front) back l) first ∙ patched_twice place front back old (omega (arith, fits)) in
    let end : place + length front + length back ≡ place + length (front ++ back) = omega (arith, length-append front back) in
    third ∙ (λ i. patched (end i) (0 ∷ []) (both i)) ∙ patched_twice place (front ++ back) (0 ∷ []) old (omega (arith, fits, length-append front back))

-- what a body holds once an item of two parts was put
pub record PutIn (item : Item) (held : BodyState) (used : ℕ) (old new : List ℕ) : Type 0 where
  pub size : length new ≡ length old
  pub holds : HoldsItems used new
  pub seen : held_in used new ≡ with_item item held

pub put_in : (item : Item) (held : BodyState) (used : ℕ) (front back old new : List ℕ) → held ≡ held_in used old → HoldsItems used old → is_item anywhere (earlier_after_all held.items none_earlier) item ≡ true → front ++ back ≡ item_spelling item
    → length (body_spelling held.items) + length front + length back ≤ held.room → new ≡ patched used (front ++ back ++ 0 ∷ []) old → PutIn item held (used + (length front + length back)) old new
put_in item held used front back old new view holds is spelled fits put =
    let items_is : held.items ≡ items_of (take used old) = ap (λ (h : BodyState). h.items) view in
    let room_is : held.room ≡ length old - 1 = ap (λ (h : BodyState). h.room) view in
    let used_is : length (body_spelling held.items) ≡ used = ap (λ (l : List Item). length (body_spelling l)) items_is ∙ sym (ap length holds.spelled) ∙ omega (arith, holds.within, length-take used old) in
    let len = length-append front back in
    let within : used + length (front ++ back) + 1 ≤ length old = omega (arith, fits, used_is, room_is, len, holds.within) in
    let more = holds_more item used (front ++ back) old new holds (ap (λ (l : List Item). is_item anywhere (earlier_after_all l none_earlier) item) (sym items_is) ∙ is) spelled within put in
    let end : used + length (front ++ back) ≡ used + (length front + length back) = omega (arith, len) in
    record {
      size = put_size used (front ++ back) old new within put;
      holds = subst (λ (n : ℕ). HoldsItems n new) end more.holds;
      seen = ap (λ (n : ℕ). held_in n new) (sym end) ∙ more.seen ∙ ap (λ (h : BodyState). with_item item h) (sym view);
    }

-- an image that may follow items
pub image_next : (items : List Item) (device track : ℕ) (recs : List Rec) (bytes : List ℕ) → are_late items ≡ false → have_image items device track ≡ false → device < 2 ^ 16 → track < 2 ^ 32 → is_track recs ≡ true → bytes ≡ item_spelling (Image device track recs) → IsNextItem items bytes
image_next items device track recs bytes early first device_fits track_fits are spelled = record {
  item = Image device track recs;
  keeps = and_true (not (are_late items) && nat_lt device (2 ^ 16) && nat_lt track (2 ^ 32) && may_draw anywhere (earlier_after_all items none_earlier) device track) (is_track recs)
      (and_true (not (are_late items) && nat_lt device (2 ^ 16) && nat_lt track (2 ^ 32)) (may_draw anywhere (earlier_after_all items none_earlier) device track)
      (and_true (not (are_late items) && nat_lt device (2 ^ 16)) (nat_lt track (2 ^ 32)) (and_true (not (are_late items)) (nat_lt device (2 ^ 16)) (ap not early) (lt-ltb device (2 ^ 16) device_fits)) (lt-ltb track (2 ^ 32) track_fits))
      (ap not first)) are;
  spelled = spelled;
}
