-- The items of a walk are no changes: an image of a track, and what it leaves there doesn't depend on what stood there before.
use Rattle.std.proofs.Common.{◌≡◌, ◌+◌, ◌&&◌, ◌||◌, ℕ, zero, suc, Bool, true, false, not, cond, nat_eq, List, [], ◌∷◌, length, Option, Some, None, Result, Ok, Err, inl, inr, refl, sym, ◌∙◌, ap}
use Rattle.std.specs.List.{list_any}
use Rattle.std.specs.Int.{w8, w16}
use Rattle.std.proofs.lemmas.Bool.{eqb-true}
use Rattle.std.proofs.lemmas.List.Folds.{list_any-append}
use Rattle.tod_stamp.specs.Fields.{◌>>=◌, Left, Bad, bytes_at, number_at, any}
use Rattle.tod_stamp.proofs.FieldLaws.{bind_ok}
use Rattle.crash_plant.specs.declared.device.Device.TheVariants.{Journal}
use Rattle.crash_plant.specs.Moments.{PlantState}
use Rattle.control_set.specs.declared.value.Mark.{Mark}
use Rattle.control_set.proofs.Keeps.{number_kept}
use Rattle.pair_table.specs.Rows.{row_by, row_length}
use Rattle.state_set.specs.Slots.{Stored}
use Rattle.xrc_journal.specs.Items.{Item, Form, Earlier, earlier_after, may_draw, none_earlier}
use Rattle.xrc_journal.specs.Items.Item.{Image, Delta, Pair, Gone}
use Rattle.xrc_journal.specs.Bodies.{draws}
use Rattle.xrc_journal.specs.Reading.{Items, delta_item_at, first_and_rest, gone_item_at, body_image_field, image_item_at, is_tag, item_at, items_from, no_items, pair_item_at, row_or, track_at}
use Rattle.xrc_journal.specs.Records.{stretch}
use Rattle.xrc_journal.specs.Walks.{Logged}
use Rattle.xrc_journal.specs.Contents.{HasItem, is_of_track}
use Rattle.xrc_journal.proofs.Fields.{given_is}
use Rattle.xrc_journal.proofs.RecordsRead.{group_found}
use Rattle.site_means.specs.Images.{Images, Shape, shape_of}
use Rattle.site_means.specs.Walk.{WalkState, WalkStep, Walk, start, step, turns_at, walk_from, walk_in, walk_items, walk_on, with_before}
use Rattle.site_means.specs.Walk.WalkStep.{Ends, GoesOn, Breaks}
use Rattle.site_means.specs.Meaning.{chosen_in, meaning_by_mark, meaning_by_state, meaning_by_walk, stored_in}
use Rattle.site_means.specs.Sight.{walked, walked_by}
use Rattle.site_means.proofs.Goes.{ByGroup, goes_by}

abbrev pub is_delta : Item → Bool
is_delta (Image d x recs) = false
is_delta (Delta d x kind) = true
is_delta (Pair version row) = false
is_delta (Gone d) = false

-- ---- one item

module _ (form : Form) (earlier : Earlier) (left : Left) (item : Item) (next : Left) where
  image_no_delta : image_item_at form earlier left ≡ Ok (item, next) → is_delta item ≡ false
  unfolding image_item_at
  image_no_delta e =
      let one = bind_ok (track_at (may_draw form earlier) left) (λ at. body_image_field at.1 >>= (λ r. Ok (Image at.0.0 at.0.1 r.0, r.1))) (item, next) e in
      let two = bind_ok (body_image_field one.0.1) (λ r. Ok (Image one.0.0.0 one.0.0.1 r.0, r.1)) (item, next) one.2 in
      sym (ap (λ (p : Item × Left). is_delta p.0) (given_is (Image one.0.0.0 one.0.0.1 two.0.0, two.0.1) (item, next) two.2))

  pair_no_delta : (version : ℕ) → pair_item_at version left ≡ Ok (item, next) → is_delta item ≡ false
  unfolding pair_item_at
  pair_no_delta version e =
      let one = bind_ok (bytes_at (row_length version) any left) (λ t. row_or left (row_by version t.0) >>= (λ r. Ok (Pair version r, t.1))) (item, next) e in
      let two = bind_ok (row_or left (row_by version one.0.0)) (λ r. Ok (Pair version r, one.0.1)) (item, next) one.2 in
      sym (ap (λ (p : Item × Left). is_delta p.0) (given_is (Pair version two.0, one.0.1) (item, next) two.2))

  gone_no_delta : gone_item_at left ≡ Ok (item, next) → is_delta item ≡ false
  unfolding gone_item_at
  gone_no_delta e =
      let one = bind_ok (number_at w16 any left) (λ d. Ok (Gone d.0, d.1)) (item, next) e in
      sym (ap (λ (p : Item × Left). is_delta p.0) (given_is (Gone one.0.0, one.0.1) (item, next) one.2))

-- The tag of a change is none where the format has no changes.
no_tag : (late : Bool) (tag : ℕ) → nat_eq tag 1 ≡ false → nat_eq tag 2 ≡ true → is_tag false late tag ≡ true → ⊥
no_tag late tag other two kept =
    let is : tag ≡ 2 = eqb-true tag 2 two in
    let three : nat_eq tag 3 ≡ false = ap (λ (n : ℕ). nat_eq n 3) is in
    let four : nat_eq tag 4 ≡ false = ap (λ (n : ℕ). nat_eq n 4) is in
    let five : nat_eq tag 5 ≡ false = ap (λ (n : ℕ). nat_eq n 5) is in
    clash (sym kept ∙ (λ i. (other i && not late) || (two i && (false && not late)) || three i || four i || five i))
  where
    clash : true ≡ false → ⊥
    clash e = cc

item_no_delta : (form : Form) (earlier : Earlier) (left : Left) (item : Item) (next : Left) → form.deltas ≡ false → item_at form earlier left ≡ Ok (item, next) → is_delta item ≡ false
unfolding item_at
item_no_delta form earlier left item next none read =
    let one = bind_ok (number_at w8 (is_tag form.deltas earlier.late) left)
    (λ t. cond (nat_eq t.0 1) (image_item_at form earlier t.1) (cond (nat_eq t.0 2) (delta_item_at form t.1) (cond (nat_eq t.0 3) (pair_item_at 1 t.1) (cond (nat_eq t.0 5) (pair_item_at 2 t.1) (gone_item_at t.1))))) (item, next) read in
    let kept = number_kept w8 (is_tag form.deltas earlier.late) left one.0.0 one.0.1 one.1 in
    choose one.0.1 one.0.0 (ap (λ (b : Bool). is_tag b earlier.late one.0.0) (sym none) ∙ kept) (nat_eq one.0.0 1) refl (nat_eq one.0.0 2) refl (nat_eq one.0.0 3) (nat_eq one.0.0 5) one.2
  where
    choose : (after : Left) (tag : ℕ) → is_tag false earlier.late tag ≡ true → (one : Bool) → nat_eq tag 1 ≡ one → (two : Bool) → nat_eq tag 2 ≡ two → (three five : Bool)
        → cond one (image_item_at form earlier after) (cond two (delta_item_at form after) (cond three (pair_item_at 1 after) (cond five (pair_item_at 2 after) (gone_item_at after)))) ≡ Ok (item, next) → is_delta item ≡ false
    choose after tag kept true is1 two is2 three five read = image_no_delta form earlier after item next read
    choose after tag kept false is1 true is2 three five read = absurd (no_tag earlier.late tag is1 is2 kept)
    choose after tag kept false is1 false is2 true five read = pair_no_delta form earlier after item next 1 read
    choose after tag kept false is1 false is2 false true read = pair_no_delta form earlier after item next 2 read
    choose after tag kept false is1 false is2 false false read = gone_no_delta form earlier after item next read

-- ---- a body

first_no_delta : (form : Form) (earlier : Earlier) (left : Left) (read : Result (Item × Left) Bad) (rest : Item × Left → Items) → form.deltas ≡ false → item_at form earlier left ≡ read
    → ((i : Item × Left) → list_any is_delta (rest i).good ≡ false) → list_any is_delta (first_and_rest left.place read rest).good ≡ false
first_no_delta form earlier left (Err bad) rest none is more = refl
first_no_delta form earlier left (Ok i) rest none is more = (λ n. item_no_delta form earlier left i.0 i.1 none is n || more i n)

body_no_delta : (turns : ℕ) (form : Form) (earlier : Earlier) (left : Left) → form.deltas ≡ false → list_any is_delta (items_from turns form earlier left).good ≡ false
unfolding items_from
body_no_delta zero form earlier left none = refl
body_no_delta (suc turns) form earlier left none = by_end (nat_eq (length left.bytes) 0) (λ i. body_no_delta turns form (earlier_after i.0 earlier) i.1 none)
  where
    by_end : (over : Bool) → ((i : Item × Left) → list_any is_delta (items_from turns form (earlier_after i.0 earlier) i.1).good ≡ false)
        → list_any is_delta (cond over no_items (first_and_rest left.place (item_at form earlier left) (λ i. items_from turns form (earlier_after i.0 earlier) i.1))).good ≡ false
    by_end true more = refl
    by_end false more = first_no_delta form earlier left (item_at form earlier left) (λ i. items_from turns form (earlier_after i.0 earlier) i.1) none refl more

-- ---- a walk

module _ (shape : Shape) (images : Images) (none : shape.form.deltas ≡ false) where
  group_no_delta : (s n : WalkState) (groups : List Logged) (g : ByGroup shape images s groups n) → list_any is_delta g.items ≡ false
  group_no_delta s n groups g =
      let journal = images (Journal s.at.set) in
      let f = group_found shape.form shape.sets journal s.at s.last g.time g.items g.after g.found in
      let bytes = stretch (s.at.place + 22) f.head.len journal in
      ap (λ (l : Items). list_any is_delta l.good) (sym f.read) ∙ body_no_delta (length bytes) shape.form none_earlier (record { place = s.at.place + 22; bytes = bytes }) none

  step_no_delta : (s n : WalkState) (groups : List Logged) (w : Walk) → step shape images s ≡ GoesOn groups n → list_any is_delta (walk_items w) ≡ false → list_any is_delta (walk_items (with_before groups w)) ≡ false
  step_no_delta s n groups w e more = elim (goes_by shape images s groups n e) [
    | inl g ↦
        ap (λ (l : List Logged). list_any is_delta (walk_items (with_before l w))) g.groups_are
        ∙ list_any-append is_delta g.items (walk_items w) ∙ (λ i. group_no_delta s n groups g i || more i)
    | inr k ↦ ap (λ (l : List Logged). list_any is_delta (walk_items (with_before l w))) k.groups_are ∙ more
  ]

  walk_no_delta : (turns : ℕ) (s : WalkState) → list_any is_delta (walk_items (walk_from turns shape images s)) ≡ false
  unfolding walk_from
  walk_no_delta zero s = refl
  walk_no_delta (suc turns) s = by_step (step shape images s) refl (λ n. walk_no_delta turns n)
    where
      by_step : (st : WalkStep) → step shape images s ≡ st → ((n : WalkState) → list_any is_delta (walk_items (walk_from turns shape images n)) ≡ false) → list_any is_delta (walk_items (walk_on s st (λ n. walk_from turns shape images n))) ≡ false
      by_step Ends e more = refl
      by_step (Breaks place) e more = refl
      by_step (GoesOn groups n) e more = step_no_delta s n groups (walk_from turns shape images n) e (more n)

  by_bad : (m : Mark) (s : Stored) (bad : Option (ℕ × ℕ)) → list_any is_delta (walked_by (meaning_by_walk m s (walk_in shape images m s.rows) bad)) ≡ false
  by_bad m s None = walk_no_delta (turns_at m.at) (start m s.rows)
  by_bad m s (Some bad) = refl

  by_stored : (m : Mark) (r : Result Stored ℕ) → list_any is_delta (walked_by (meaning_by_state shape images m r)) ≡ false
  by_stored m (Err place) = refl
  by_stored m (Ok s) = by_bad m s (walk_in shape images m s.rows).bad

  by_chosen : (c : Result (Option Mark) ℕ) → list_any is_delta (walked_by (meaning_by_mark shape images c)) ≡ false
  by_chosen (Err place) = refl
  by_chosen (Ok None) = refl
  by_chosen (Ok (Some m)) = by_stored m (stored_in shape images m)

-- ---- its tracks

one_drawn : (device x : ℕ) (i : Item) → is_delta i ≡ false → is_of_track device x i ≡ draws device x i
one_drawn device x (Image d y recs) none = refl
one_drawn device x (Delta d y kind) none = absurd cc
one_drawn device x (Pair version row) none = refl
one_drawn device x (Gone d) none = refl

drawn : (device x : ℕ) (items : List Item) → list_any is_delta items ≡ false → list_any (is_of_track device x) items ≡ list_any (draws device x) items
drawn device x [] none = refl
drawn device x (i ∷ items) none = let parts = either_not (is_delta i) (list_any is_delta items) none in (λ n. one_drawn device x i parts.0 n || drawn device x items parts.1 n)
  where
    either_not : (a b : Bool) → (a || b) ≡ false → (a ≡ false) × (b ≡ false)
    either_not true b e = absurd cc
    either_not false b e = (refl, e)

-- A track with an item of the walk has an image among its items.
pub walked_drawn : (plant : PlantState) (images : Images) (device x : ℕ) → HasItem device x (walked plant images) → list_any (draws device x) (walked plant images) ≡ true
walked_drawn plant images device x has = sym (drawn device x (walked plant images) (by_chosen (shape_of plant) images refl (chosen_in (shape_of plant) images))) ∙ has
