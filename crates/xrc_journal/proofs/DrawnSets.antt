-- Sets of drawn tracks, with one track more.
use Rattle.std.proofs.Common.{◌≡◌, ◌≢◌, ℕ, Bool, true, false, cond, nat_lt, ◌&&◌, ◌||◌, List, ◌∷◌, take, drop, slice_index, Option, Some, None, refl, sym, ap, subst, ◌∙◌, arith}
use Rattle.std.specs.Prelude.{◌==◌}
use Rattle.std.specs.List.{list_any}
use Rattle.std.specs.Ordering.{nat_cmp, ordering_then, is_eq}
use Rattle.std.specs.declared.cmp.Ordering.{Ordering}
use Rattle.std.specs.declared.cmp.Ordering.TheVariants.{Less, Equal, Greater}
use Rattle.std.proofs.lemmas.Bool.{ltb-true, ne_eqb}
use Rattle.std.specs.Prelude.{IfSome}
use Rattle.std.specs.Int.{w16, w32, from_be_bytes}
use Rattle.pair_table.proofs.PutLaws.{number_sym}
use Rattle.xrc_journal.specs.declared.drawn.DrawnTracks.{DrawnTracks}
use Rattle.xrc_journal.specs.Items.{Item, Earlier, earlier_after, is_drawn}
use Rattle.xrc_journal.specs.Items.Item.{Image, Delta, Pair, Gone}
use Rattle.xrc_journal.specs.Bodies.{BeginsWith}
use Rattle.xrc_journal.specs.Drawn.{AreDrawn, device_and_track}
use Rattle.xrc_journal.proofs.Scans.{tag_is, tag_high}
use Rattle.xrc_journal.proofs.Told.{image_fields}

same_number : (m n : ℕ) → is_eq (nat_cmp m n) ≡ (n == m)
same_number m n = by_less (nat_lt m n) refl ∙ number_sym m n
  where
    by_equal : (b : Bool) → is_eq (cond b Equal Greater) ≡ b
    by_equal true = refl
    by_equal false = refl

    by_less : (b : Bool) → nat_lt m n ≡ b → is_eq (cond b Less (cond (m == n) Equal Greater)) ≡ (m == n)
    by_less true less = sym (ne_eqb m n (λ e. omega (arith, e, ltb-true m n less)))
    by_less false less = by_equal (m == n)

-- how the set compares two tracks of devices
abbrev pub compare : ℕ × ℕ → ℕ × ℕ → Ordering
compare a b = ordering_then (nat_cmp a.0 b.0) (nat_cmp a.1 b.1)

same_track : (a b : ℕ × ℕ) → is_eq (compare a b) ≡ (b.0 == a.0 && b.1 == a.1)
same_track a b = by_first (nat_cmp a.0 b.0) (nat_cmp a.1 b.1) ∙ (λ i. same_number a.0 b.0 i && same_number a.1 b.1 i)
  where
    by_first : (first second : Ordering) → is_eq (ordering_then first second) ≡ (is_eq first && is_eq second)
    by_first Less second = refl
    by_first Equal second = refl
    by_first Greater second = refl

is_member : (keys : List (ℕ × ℕ)) (device track : ℕ) → list_any (λ k. is_eq (compare (device, track) k)) keys ≡ is_drawn keys device track
is_member keys device track = (λ i. list_any (λ k. same_track (device, track) k i) keys)

-- One track more is in the set, and no other.
pub one_more : (old new drawn : List (ℕ × ℕ)) (d t : ℕ) → ((q : ℕ × ℕ) → list_any (λ k. is_eq (compare q k)) new ≡ cond (is_eq (compare (d, t) q)) true (list_any (λ k. is_eq (compare q k)) old))
    → ((device track : ℕ) → is_drawn old device track ≡ is_drawn drawn device track) → (device track : ℕ) → is_drawn new device track ≡ is_drawn ((d, t) ∷ drawn) device track
one_more old new drawn d t updates same device track =
    sym (is_member new device track) ∙ updates (device, track) ∙ by_test (is_eq (compare (d, t) (device, track))) (list_any (λ k. is_eq (compare (device, track) k)) old)
    ∙ (λ i. (same_track (d, t) (device, track) ∙ (λ j. number_sym device d j && number_sym track t j)) i || (is_member old device track ∙ same device track) i)
  where
    by_test : (a b : Bool) → cond a true b ≡ (a || b)
    by_test true b = refl
    by_test false b = refl

-- ---- after an item

-- the track of an image is in the set
pub after_image : (bytes fields : List ℕ) (earlier : Earlier) (known : DrawnTracks) (item : Item) → bytes ≡ 1 ∷ fields → BeginsWith bytes item → AreDrawn known (device_and_track fields ∷ earlier.drawn) → AreDrawn known (earlier_after item earlier).drawn
after_image bytes fields earlier known (Image d x recs) whole b drawn =
    let found = image_fields bytes d x recs b in
    let device : (device_and_track fields).0 ≡ d = ap (λ (l : List ℕ). from_be_bytes w16 (take 2 (drop 1 l))) (sym whole) ∙ found.0 in
    let track : (device_and_track fields).1 ≡ x = ap (λ (l : List ℕ). from_be_bytes w32 (take 4 (drop 3 l))) (sym whole) ∙ found.1 in
    subst (λ (t : ℕ × ℕ). AreDrawn known (t ∷ earlier.drawn)) (λ i. (device i, track i)) drawn
after_image bytes fields earlier known (Delta d x kind) whole b drawn = absurd (omega (arith, tag_is bytes (Delta d x kind) b, ap (λ (l : List ℕ). slice_index l 0) whole))
after_image bytes fields earlier known (Pair version row) whole b drawn = absurd (omega (arith, tag_is bytes (Pair version row) b, tag_high version, ap (λ (l : List ℕ). slice_index l 0) whole))
after_image bytes fields earlier known (Gone d) whole b drawn = absurd (omega (arith, tag_is bytes (Gone d) b, ap (λ (l : List ℕ). slice_index l 0) whole))

-- no other item draws a track
pub after_other : (bytes fields : List ℕ) (tag : ℕ) (earlier : Earlier) (known : DrawnTracks) (item : Item) → tag ≢ 1 → bytes ≡ tag ∷ fields → BeginsWith bytes item → AreDrawn known earlier.drawn → AreDrawn known (earlier_after item earlier).drawn
after_other bytes fields tag earlier known (Image d x recs) other whole b drawn = absurd (other (ap (λ (l : List ℕ). slice_index l 0) (sym whole) ∙ tag_is bytes (Image d x recs) b))
after_other bytes fields tag earlier known (Delta d x kind) other whole b drawn = drawn
after_other bytes fields tag earlier known (Pair version row) other whole b drawn = drawn
after_other bytes fields tag earlier known (Gone d) other whole b drawn = drawn

pub then_there : {P Q : Type 0} (r : Option ℕ) → IfSome r (λ n. P) → (P → Q) → IfSome r (λ n. Q)
then_there (Some n) p then = then p
then_there None p then = p

pub there : {Q : Type 0} (r : Option ℕ) → Q → IfSome r (λ n. Q)
there (Some n) q = q
there None q = tt
