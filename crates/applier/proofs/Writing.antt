-- One item's write.
use Rattle.std.proofs.Common.{◌≡◌, ◌==◌, ◌&&◌, ◌||◌, ◌+◌, ◌≤◌, ℕ, true, false, cond, List, [], ◌∷◌, ◌++◌, length, drop, refl, sym, ◌∙◌, ap, subst, arith, Result, OnOk}
use Rattle.std.specs.Int.{w16, w32, to_be_bytes}
use Rattle.std.specs.Prelude.{slice_range}
use Rattle.std.proofs.lemmas.Bool.{eq-eqb, eqb-true}
use Rattle.std.proofs.lemmas.List.{take_rest}
use Rattle.xrc_edge.specs.declared.outcome.Failed.{Failed}
use Rattle.xrc_edge.specs.Causes.{HasCause}
use Rattle.ckd_track.specs.declared.rec.Rec.{Rec}
use Rattle.ckd_track.specs.Tracks.{IsTrack}
use Rattle.ckd_track.specs.Images.{image}
use Rattle.ckd_track.specs.SlotPlaces.{slot_place, slot_end}
use Rattle.ckd_track.proofs.Parts.{length-image}
use Rattle.crash_plant.specs.Bytes.{patched, Torn}
use Rattle.crash_plant.specs.Moments.{Standing, Follows, SamePast}
use Rattle.xrc_journal.specs.declared.reading.BodyItem.{BodyItem}
use Rattle.xrc_journal.specs.Items.{Item, anywhere, is_item, item_spelling}
use Rattle.xrc_journal.specs.Items.Item.{Image, Delta, Pair, Gone}
use Rattle.xrc_journal.specs.Views.{told}
use Rattle.xrc_journal.specs.Contents.{HasItem}
use Rattle.xrc_journal.proofs.ItemsAgain.{image_rules}
use Rattle.applier.specs.Slots.{DiffersInSlots}
use Rattle.applier.specs.Writes.{written_by, IsItemTold, Writes}
use Rattle.applier.proofs.InSlots.{torn_differs}

-- an image that is told
pub record IsImageOf (of track : ℕ) (bytes : List ℕ) (i : Item) : Type 0 where
  pub recs : List Rec
  pub is : i ≡ Image of track recs
  pub are : IsTrack recs
  pub spelled : bytes ≡ 1 ∷ to_be_bytes w16 of ++ to_be_bytes w32 track ++ image recs
  pub bytes_are : slice_range bytes 7 (length bytes) ≡ image recs

image_after : (of track : ℕ) (recs : List Rec) → drop 7 (1 ∷ to_be_bytes w16 of ++ to_be_bytes w32 track ++ image recs) ≡ image recs
image_after of track recs = refl

pub told_image : (of track : ℕ) (bytes : List ℕ) (i : Item) → IsItemTold (BodyItem.Image of track) bytes i → IsImageOf of track bytes i
told_image of track bytes i t = go i t.keeps t.told_is t.spelled
  where
    go : (i : Item) → is_item anywhere t.earlier i ≡ true → BodyItem.Image of track ≡ told i → bytes ≡ item_spelling i → IsImageOf of track bytes i
    go (Image d x r) keeps e spelled =
        let device : of ≡ d = cc in
        let place : track ≡ x = cc in
        record {
          recs = r;
          is = λ i. Image (sym device i) (sym place i) r;
          are = (image_rules anywhere t.earlier d x r keeps).are;
          spelled = spelled ∙ (λ i. 1 ∷ to_be_bytes w16 (sym device i) ++ to_be_bytes w32 (sym place i) ++ image r);
          bytes_are = take_rest bytes 7 ∙ ap (λ (l : List ℕ). drop 7 l) spelled ∙ image_after d x r;
        }
    go (Delta d x kind) keeps e spelled = absurd cc
    go (Pair version row) keeps e spelled = absurd cc
    go (Gone d) keeps e spelled = absurd cc

-- The image fits where the slot of its track lies in the device.
pub room_for : (item : BodyItem) (device of track : ℕ) (bytes : List ℕ) (i : Item) → IsImageOf of track bytes i → (of == device) ≡ true → item ≡ BodyItem.Image of track → (size : ℕ) → ((x : ℕ) → item ≡ BodyItem.Image device x → slot_end x ≤ size)
    → (place : ℕ) → place ≡ slot_place track → place + length (slice_range bytes 7 (length bytes)) ≤ size
room_for item device of track bytes i is here told size room place place_is =
    omega (arith, room track (told ∙ (λ i. BodyItem.Image (eqb-true of device here i) track)), place_is, ap length is.bytes_are, length-image is.recs is.are)

pub own_track : (device of track : ℕ) (recs : List Rec) → (of == device) ≡ true → HasItem device track (Image of track recs ∷ [])
own_track device of track recs here = λ i. (here i && eq-eqb track track refl i) || false

-- what a result says of other bytes that are the same
on_ok : {A E : Type 0} (result : Result A E) (a b c : List ℕ) → b ≡ c → OnOk result (a ≡ b) → OnOk result (a ≡ c)
on_ok result a b c same is = subst (λ (l : List ℕ). OnOk result (a ≡ l)) same is

module _ {D : Type 0} (state : D → Standing) (tells : Type 0) (device of track : ℕ) (recs : List Rec) (old new : D) (result : Result (Unit {0}) Failed) (here : (of == device) ≡ true) (are : IsTrack recs) where
  -- what a write of these bytes at this place did
  pub record Wrote (place : ℕ) (bytes : List ℕ) : Type 0 where
    pub done : tells → OnOk result ((state new).bytes ≡ patched place bytes (state old).bytes)
    pub torn : tells → Torn place (length bytes) (state old).bytes (state new).bytes
    pub past : tells → SamePast (state old) (state new)
    pub moments : tells → Follows (Torn place (length bytes)) (state old) (state new)
    pub size : (state new).length_is ≡ (state old).length_is
    pub cause : HasCause (state old).faults (state new).faults result

  image_writes : Wrote (slot_place track) (image recs) → Writes state tells device (Image of track recs) old new result
  image_writes w = record {
    length_is = w.size;
    cause = w.cause;
    idle = λ none. absurd (none track own);
    fails = λ err. (track, own);
    past = w.past;
    moments = λ told t from to c left. let m = w.moments told t from to c left in (m.0, m.1, in_slot m.0 c m.2);
    bytes = λ told. in_slot (state old).bytes (state new).bytes (w.torn told);
    done = λ told. on_ok result (state new).bytes (patched (slot_place track) (image recs) (state old).bytes) (written_by device (state old).bytes (Image of track recs))
        (λ i. cond (sym here i) (patched (slot_place track) (image recs) (state old).bytes) (state old).bytes) (w.done told);
  }
    where
      own : HasItem device track (Image of track recs ∷ [])
      own = own_track device of track recs here

      in_slot : (b c : List ℕ) → Torn (slot_place track) (length (image recs)) b c → DiffersInSlots device (Image of track recs ∷ []) b c
      in_slot b c torn = torn_differs device track (length (image recs)) (Image of track recs) b c own (omega (arith, length-image recs are)) torn

  -- the write of an image that is told
  pub item_writes : (i : Item) (place : ℕ) (bytes : List ℕ) → i ≡ Image of track recs → place ≡ slot_place track → bytes ≡ image recs → Wrote place bytes → Writes state tells device i old new result
  item_writes i place bytes is place_is bytes_are w =
      subst (λ (k : Item). Writes state tells device k old new result) (sym is)
      (image_writes (subst (λ (p : ℕ). Wrote p (image recs)) place_is (subst (λ (l : List ℕ). Wrote place l) bytes_are w)))
