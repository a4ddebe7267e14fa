-- How a walk goes on from step to step.
use Rattle.std.proofs.Common.{◌≡◌, ◌⊎◌, inl, inr, ℕ, zero, suc, ◌+◌, ◌-◌, ◌^◌, ◌<◌, Bool, true, false, cond, ◌||◌, nat_eq, List, [], ◌∷◌, ◌++◌, length, Option, Some, None, refl, sym, ap, ◌∙◌, append_assoc, arith}
use Rattle.std.proofs.lemmas.Bool.{eq-eqb, eqb-true}
use Rattle.std.proofs.lemmas.List.{length-append}
use Rattle.crash_plant.specs.declared.device.Device.TheVariants.{Journal}
use Rattle.crash_plant.specs.declared.spot.Spot.{Spot}
use Rattle.crash_plant.specs.Moments.{PlantState}
use Rattle.crash_plant.specs.Calls.{SameSite}
use Rattle.control_set.proofs.Lengths.{same_lengths}
use Rattle.pair_table.specs.declared.row.PairRow.{PairRow}
use Rattle.pair_table.specs.Tables.{are_below}
use Rattle.xrc_journal.specs.Items.{Item, item_spelling}
use Rattle.xrc_journal.specs.Records.{Found}
use Rattle.xrc_journal.specs.Records.Found.{End, Group, Switch, Damaged}
use Rattle.xrc_journal.specs.Walks.{Logged}
use Rattle.xrc_journal.proofs.Appends.{same_form}
use Rattle.site_means.specs.Images.{Images, Shape, shape_of}
use Rattle.site_means.specs.Walk.{WalkState, WalkStep, Walk, ends_at, first_unfit, fits_rows, found_at, group_step, has_entered, rows_by, rows_through, step, step_by, turns_at, unfit_in, walk_from, walk_items, walk_on, with_before}
use Rattle.site_means.specs.Walk.WalkStep.{Ends, GoesOn, Breaks}
use Rattle.site_means.proofs.Found.{group_ends, switch_leads}
use Rattle.site_means.proofs.Taking.{below_by}

-- ---- the shape of a plant

-- It is that of another with the same numbers and lengths.
pub shape_same : (old new : PlantState) → SameSite old new → shape_of new ≡ shape_of old
shape_same old new site =
    let form = same_form old new site in
    let lengths = same_lengths old new site in
    (λ i. record { form = form i; sets = site.journals i; volumes = site.volumes i; lengths = lengths i })

-- ---- one step

-- after a group
pub record ByGroup (shape : Shape) (images : Images) (s : WalkState) (groups : List Logged) (n : WalkState) : Type 0 where
  pub time : ℕ
  pub items : List Item
  pub after : Spot
  pub found : found_at shape images s ≡ Group time items after
  pub fits : unfit_in shape s items ≡ None
  pub groups_are : groups ≡ record { time = time; items = items } ∷ []
  pub next_is : n ≡ record { rows = rows_through items s.rows; entered = s.entered; at = after; last = time }

-- after a switch
pub record BySwitch (shape : Shape) (images : Images) (s : WalkState) (groups : List Logged) (n : WalkState) : Type 0 where
  pub time : ℕ
  pub after : Spot
  pub found : found_at shape images s ≡ Switch time after
  pub unentered : has_entered after.set s.entered ≡ false
  pub groups_are : groups ≡ []
  pub next_is : n ≡ record { rows = s.rows; entered = s.entered ++ after.set ∷ []; at = after; last = time }

goes_same : (a b : List Logged) (m n : WalkState) → GoesOn a m ≡ GoesOn b n → (b ≡ a) × (n ≡ m)
goes_same a b m n e = (cc, cc)

module _ (shape : Shape) (images : Images) (s : WalkState) (groups : List Logged) (n : WalkState) where
  by_unfit : (time : ℕ) (items : List Item) (after : Spot) (bad : Option ℕ) → found_at shape images s ≡ Group time items after → unfit_in shape s items ≡ bad → group_step s time items after bad ≡ GoesOn groups n → ByGroup shape images s groups n
  by_unfit time items after None found fits e =
      let same = goes_same _ groups _ n e in
      record { time = time; items = items; after = after; found = found; fits = fits; groups_are = same.0; next_is = same.1 }
  by_unfit time items after (Some place) found fits e = absurd cc

  by_entered : (time : ℕ) (after : Spot) (entered : Bool) → found_at shape images s ≡ Switch time after → has_entered after.set s.entered ≡ entered
      → cond entered (Breaks s.at.place) (GoesOn [] (record { rows = s.rows; entered = s.entered ++ after.set ∷ []; at = after; last = time })) ≡ GoesOn groups n → BySwitch shape images s groups n
  by_entered time after true found is e = absurd cc
  by_entered time after false found is e =
      let same = goes_same _ groups _ n e in
      record { time = time; after = after; found = found; unentered = is; groups_are = same.0; next_is = same.1 }

  by_found : (f : Found) → found_at shape images s ≡ f → step_by shape s f ≡ GoesOn groups n → ByGroup shape images s groups n ⊎ BySwitch shape images s groups n
  by_found End found e = absurd cc
  by_found (Group time items after) found e = inl (by_unfit time items after (unfit_in shape s items) found refl e)
  by_found (Switch time after) found e = inr (by_entered time after (has_entered after.set s.entered) found refl e)
  by_found (Damaged place items) found e = absurd cc

  pub goes_by : step shape images s ≡ GoesOn groups n → ByGroup shape images s groups n ⊎ BySwitch shape images s groups n
  goes_by e = by_found (found_at shape images s) refl e

  -- Numbers go up by one.
  pub next_number : step shape images s ≡ GoesOn groups n → n.at.number ≡ s.at.number + 1
  next_number e = elim (goes_by e) [
    | inl g ↦ ap (λ (k : WalkState). k.at.number) g.next_is ∙ (group_ends shape.form shape.sets (images (Journal s.at.set)) s.at s.last g.time g.items g.after g.found).number
    | inr w ↦ ap (λ (k : WalkState). k.at.number) w.next_is ∙ ap (λ (k : Spot). k.number) (switch_leads shape.form shape.sets (images (Journal s.at.set)) s.at s.last w.time w.after w.found)
  ]

-- ---- data sets entered

entered_front : (k : ℕ) (xs ys : List ℕ) → has_entered k xs ≡ true → has_entered k (xs ++ ys) ≡ true
entered_front k [] ys e = absurd cc
entered_front k (x ∷ xs) ys e = by_first (nat_eq x k) e (entered_front k xs ys)
  where
    by_first : (here : Bool) → (here || has_entered k xs) ≡ true → (has_entered k xs ≡ true → has_entered k (xs ++ ys) ≡ true) → (here || has_entered k (xs ++ ys)) ≡ true
    by_first true e more = refl
    by_first false e more = more e

pub entered_last : (k : ℕ) (xs : List ℕ) → has_entered k (xs ++ k ∷ []) ≡ true
entered_last k [] = ap (λ (b : Bool). b || false) (eq-eqb k k refl)
entered_last k (x ∷ xs) = by_first (nat_eq x k) (entered_last k xs)
  where
    by_first : (here : Bool) → has_entered k (xs ++ k ∷ []) ≡ true → (here || has_entered k (xs ++ k ∷ [])) ≡ true
    by_first true more = refl
    by_first false more = more

-- what was entered stays so
pub entered_next : (shape : Shape) (images : Images) (s n : WalkState) (groups : List Logged) (k : ℕ) → step shape images s ≡ GoesOn groups n → has_entered k s.entered ≡ true → has_entered k n.entered ≡ true
entered_next shape images s n groups k e is = elim (goes_by shape images s groups n e) [
  | inl g ↦ ap (λ (m : WalkState). has_entered k m.entered) g.next_is ∙ is
  | inr w ↦ ap (λ (m : WalkState). has_entered k m.entered) w.next_is ∙ entered_front k s.entered (w.after.set ∷ []) is
]

-- the data set in which the walk stands was entered
pub entered_here : (shape : Shape) (images : Images) (s n : WalkState) (groups : List Logged) → step shape images s ≡ GoesOn groups n → has_entered s.at.set s.entered ≡ true → has_entered n.at.set n.entered ≡ true
entered_here shape images s n groups e is = elim (goes_by shape images s groups n e) [
  | inl g ↦
      let ends = group_ends shape.form shape.sets (images (Journal s.at.set)) s.at s.last g.time g.items g.after g.found in
      ap (λ (m : WalkState). has_entered m.at.set m.entered) g.next_is ∙ ap (λ (k : ℕ). has_entered k s.entered) ends.set ∙ is
  | inr w ↦ ap (λ (m : WalkState). has_entered m.at.set m.entered) w.next_is ∙ entered_last w.after.set s.entered
]

pub entered_one : (k set : ℕ) → has_entered k (set ∷ []) ≡ true → k ≡ set
entered_one k set is = by_test (nat_eq set k) refl is
  where
    by_test : (b : Bool) → nat_eq set k ≡ b → (b || false) ≡ true → k ≡ set
    by_test true same here = sym (eqb-true set k same)
    by_test false same here = absurd cc

entered_split : (k : ℕ) (xs : List ℕ) (set : ℕ) → has_entered k (xs ++ set ∷ []) ≡ true → (has_entered k xs ≡ true) ⊎ (k ≡ set)
entered_split k [] set is = inr (entered_one k set is)
entered_split k (x ∷ xs) set is = by_first (nat_eq x k) is (entered_split k xs set)
  where
    by_first : (here : Bool) → (here || has_entered k (xs ++ set ∷ [])) ≡ true → (has_entered k (xs ++ set ∷ []) ≡ true → (has_entered k xs ≡ true) ⊎ (k ≡ set)) → ((here || has_entered k xs) ≡ true) ⊎ (k ≡ set)
    by_first true e more = inl refl
    by_first false e more = more e

-- What is entered after a record was entered before, or the walk stands there and has entered one more.
pub entered_more : (shape : Shape) (images : Images) (s n : WalkState) (groups : List Logged) (k : ℕ) → step shape images s ≡ GoesOn groups n → has_entered k n.entered ≡ true → (has_entered k s.entered ≡ true) ⊎ ((length s.entered < length n.entered) × (k ≡ n.at.set))
entered_more shape images s n groups k e is = elim (goes_by shape images s groups n e) [
  | inl g ↦ inl (sym (ap (λ (m : WalkState). has_entered k m.entered) g.next_is) ∙ is)
  | inr w ↦
      let entered : n.entered ≡ s.entered ++ w.after.set ∷ [] = ap (λ (m : WalkState). m.entered) w.next_is in
      let longer : length n.entered ≡ length s.entered + 1 = ap length entered ∙ length-append s.entered (w.after.set ∷ []) in
      elim (entered_split k s.entered w.after.set (ap (λ (l : List ℕ). has_entered k l) (sym entered) ∙ is)) [
        | inl before ↦ inl before
        | inr here ↦ inr (omega (arith, longer), here ∙ sym (ap (λ (m : WalkState). m.at.set) w.next_is))
      ]
]

pub entered_stays : (turns : ℕ) (shape : Shape) (images : Images) (s : WalkState) (k : ℕ) → has_entered k s.entered ≡ true → has_entered k (walk_from turns shape images s).entered ≡ true
unfolding walk_from
entered_stays zero shape images s k is = is
entered_stays (suc turns) shape images s k is = by_step (step shape images s) refl (λ n more. entered_stays turns shape images n k more)
  where
    by_step : (st : WalkStep) → step shape images s ≡ st → ((n : WalkState) → has_entered k n.entered ≡ true → has_entered k (walk_from turns shape images n).entered ≡ true) → has_entered k (walk_on s st (λ n. walk_from turns shape images n)).entered ≡ true
    by_step Ends e more = is
    by_step (Breaks place) e more = is
    by_step (GoesOn groups n) e more = more n (entered_next shape images s n groups k e is)

-- ---- rows

pub rows_append : (xs ys : List Item) (rows : List PairRow) → rows_through (xs ++ ys) rows ≡ rows_through ys (rows_through xs rows)
rows_append [] ys rows = refl
rows_append (x ∷ xs) ys rows = rows_append xs ys (rows_by x rows)

-- The rows at a walk's end are those at its start, changed by its items in turn.
pub rows_of_walk : (turns : ℕ) (shape : Shape) (images : Images) (s : WalkState) → (walk_from turns shape images s).rows ≡ rows_through (walk_items (walk_from turns shape images s)) s.rows
unfolding walk_from
rows_of_walk zero shape images s = refl
rows_of_walk (suc turns) shape images s = by_step (step shape images s) refl (λ n. rows_of_walk turns shape images n)
  where
    by_groups : (groups : List Logged) (n : WalkState) → ByGroup shape images s groups n ⊎ BySwitch shape images s groups n → (let w = walk_from turns shape images n in w.rows ≡ rows_through (walk_items w) n.rows)
        → (let w = walk_from turns shape images n in w.rows ≡ rows_through (walk_items (with_before groups w)) s.rows)
    by_groups groups n (inl g) more =
        let w = walk_from turns shape images n in
        more ∙ ap (λ (m : WalkState). rows_through (walk_items w) m.rows) g.next_is ∙ sym (rows_append g.items (walk_items w) s.rows) ∙ ap (λ (l : List Logged). rows_through (walk_items (with_before l w)) s.rows) (sym g.groups_are)
    by_groups groups n (inr k) more =
        let w = walk_from turns shape images n in
        more ∙ ap (λ (m : WalkState). rows_through (walk_items w) m.rows) k.next_is ∙ ap (λ (l : List Logged). rows_through (walk_items (with_before l w)) s.rows) (sym k.groups_are)

    by_step : (st : WalkStep) → step shape images s ≡ st → ((n : WalkState) → (walk_from turns shape images n).rows ≡ rows_through (walk_items (walk_from turns shape images n)) n.rows)
        → (let w = walk_on s st (λ n. walk_from turns shape images n) in w.rows ≡ rows_through (walk_items w) s.rows)
    by_step Ends e more = refl
    by_step (Breaks place) e more = refl
    by_step (GoesOn groups n) e more = by_groups groups n (goes_by shape images s groups n e) (more n)

-- Rows that items fit stay below.
pub below_through : (volumes place : ℕ) (rows : List PairRow) (items : List Item) → are_below volumes rows ≡ true → first_unfit volumes place rows items ≡ None → are_below volumes (rows_through items rows) ≡ true
below_through volumes place rows [] below fits = below
below_through volumes place rows (i ∷ items) below fits = by_fit (fits_rows volumes rows i) refl fits (λ does more. below_through volumes (place + length (item_spelling i)) (rows_by i rows) items (below_by volumes rows i below does) more)
  where
    by_fit : (fit : Bool) → fits_rows volumes rows i ≡ fit → cond fit (first_unfit volumes (place + length (item_spelling i)) (rows_by i rows) items) (Some place) ≡ None
        → (fits_rows volumes rows i ≡ true → first_unfit volumes (place + length (item_spelling i)) (rows_by i rows) items ≡ None → are_below volumes (rows_through items (rows_by i rows)) ≡ true) → are_below volumes (rows_through items (rows_by i rows)) ≡ true
    by_fit true is e more = more is e
    by_fit false is e more = absurd cc

-- ---- whole walks

-- the walk from where it stands
abbrev pub rest_of : Shape → Images → WalkState → Walk
rest_of shape images s = walk_from (turns_at s.at) shape images s

one_turn : (shape : Shape) (images : Images) (s : WalkState) → s.at.number < 2 ^ 64 → rest_of shape images s ≡ walk_on s (step shape images s) (λ n. walk_from (2 ^ 64 - (s.at.number + 1)) shape images n)
unfolding walk_from
one_turn shape images s lt = let left : turns_at s.at ≡ suc (2 ^ 64 - (s.at.number + 1)) = omega (arith, lt) in ap (λ (t : ℕ). walk_from t shape images s) left

pub rest_goes : (shape : Shape) (images : Images) (s n : WalkState) (groups : List Logged) → s.at.number < 2 ^ 64 → step shape images s ≡ GoesOn groups n → rest_of shape images s ≡ with_before groups (rest_of shape images n)
rest_goes shape images s n groups lt e =
    let left : 2 ^ 64 - (s.at.number + 1) ≡ turns_at n.at = omega (arith, next_number shape images s groups n e) in
    one_turn shape images s lt ∙ ap (λ (st : WalkStep). walk_on s st (λ m. walk_from (2 ^ 64 - (s.at.number + 1)) shape images m)) e ∙ ap (λ (t : ℕ). with_before groups (walk_from t shape images n)) left

pub rest_ends : (shape : Shape) (images : Images) (s : WalkState) → s.at.number < 2 ^ 64 → step shape images s ≡ Ends → rest_of shape images s ≡ ends_at s None
rest_ends shape images s lt e = one_turn shape images s lt ∙ ap (λ (st : WalkStep). walk_on s st (λ m. walk_from (2 ^ 64 - (s.at.number + 1)) shape images m)) e

pub rest_breaks : (shape : Shape) (images : Images) (s : WalkState) (place : ℕ) → s.at.number < 2 ^ 64 → step shape images s ≡ Breaks place → rest_of shape images s ≡ ends_at s (Some (s.at.set, place))
rest_breaks shape images s place lt e = one_turn shape images s lt ∙ ap (λ (st : WalkStep). walk_on s st (λ m. walk_from (2 ^ 64 - (s.at.number + 1)) shape images m)) e

pub before_both : (a b : List Logged) (w : Walk) → with_before a (with_before b w) ≡ with_before (a ++ b) w
before_both a b w = ap (λ (l : List Logged). let v : Walk = record { groups = l; rows = w.rows; entered = w.entered; at = w.at; last = w.last; bad = w.bad } in v) (sym (append_assoc a b w.groups))
