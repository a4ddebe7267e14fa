-- A walk without a bad place, read once more.
use Rattle.std.proofs.Common.{◌≡◌, ◌^◌, ◌<◌, ℕ, Bool, true, false, cond, List, [], ◌∷◌, ◌++◌, inl, inr, Ok, Err, arith, Option, Some, None, refl, sym, ◌∙◌, ap, subst, append_assoc, append-nil}
use Rattle.crash_plant.specs.declared.spot.Spot.{Spot}
use Rattle.xrc_journal.specs.Items.{Item}
use Rattle.xrc_journal.specs.Records.{Found}
use Rattle.xrc_journal.specs.Records.Found.{End, Group, Switch, Damaged}
use Rattle.site_means.specs.Images.{Images, Shape}
use Rattle.site_means.specs.Walk.{WalkState, Walk, found_at, group_step, has_entered, rows_through, step, step_by, turns_at, unfit_in, walk_items}
use Rattle.site_means.specs.Walk.WalkStep.{GoesOn, Breaks}
use Rattle.site_means.proofs.Goes.{entered_here, entered_stays, rest_breaks, rest_ends, rest_goes, rest_of}
use Rattle.site_means.proofs.Agreeing.{mark_here}
use Rattle.site_means.specs.Answers.{Enters}
use Rattle.xrecover.specs.RedoneVolumes.{Draws, HoldsTracks}
use Rattle.xrecover.proofs.Contents.{Done, done_none}
use Rattle.std.specs.Prelude.{unwrap_or}
use Rattle.xrc_journal.specs.Items.{form_of}
use Rattle.xrc_journal.specs.Records.{walk_one}
use Rattle.xrc_journal.specs.Contents.{HasItem}
use Rattle.xrc_journal.proofs.Appends.{same_form}
use Rattle.crash_plant.specs.declared.device.Device.TheVariants.{Journal}
use Rattle.crash_plant.specs.Moments.{PlantState}
use Rattle.crash_plant.specs.Calls.{SameSite}
use Rattle.control_set.specs.declared.value.Mark.{Mark}
use Rattle.applier.proofs.InSlots.{has_after, has_before}
use Rattle.site_means.specs.Images.{shape_of}
use Rattle.site_means.specs.Walk.{start}
use Rattle.site_means.specs.Meaning.{Meaning}
use Rattle.site_means.specs.Sight.{walked, walked_by}
use Rattle.site_means.proofs.Meanings.{by_walk}
use Rattle.tod_stamp.specs.declared.stamp.Stamp.{Stamp}
use Rattle.site_means.specs.declared.site_error.SiteError.{SiteError}
use Rattle.site_means.specs.declared.site_error.SiteError.TheVariants.{NoSession, Damaged as DamagedError, Fault, TooSmall, NoMemory}
use Rattle.xrecover.specs.Rereading.{FoundAgain}
use Rattle.xrecover.specs.Answers.{HasWalk}

-- the walk after a record
pub record Next (shape : Shape) (images : Images) (s : WalkState) (time : ℕ) (items : List Item) (after : Spot) : Type 0 where
  pub n : WalkState
  pub at : n.at ≡ after
  pub last : n.last ≡ time
  pub items_are : walk_items (rest_of shape images s) ≡ items ++ walk_items (rest_of shape images n)
  pub good : (rest_of shape images n).bad ≡ None
  pub entered : (rest_of shape images n).entered ≡ (rest_of shape images s).entered
  pub here : has_entered s.at.set s.entered ≡ true → has_entered n.at.set n.entered ≡ true

module _ (shape : Shape) (images : Images) (s : WalkState) (lt : s.at.number < 2 ^ 64) (good : (rest_of shape images s).bad ≡ None) where
  no_break : (place : ℕ) → step shape images s ≡ Breaks place → ⊥
  no_break place e = clash (sym good ∙ ap (λ (w : Walk). w.bad) (rest_breaks shape images s place lt e))
    where
      clash : (let none : Option (ℕ × ℕ) = None in let bad : Option (ℕ × ℕ) = Some (s.at.set, place) in none ≡ bad) → ⊥
      clash is = cc

  pub again_group : (time : ℕ) (items : List Item) (after : Spot) → found_at shape images s ≡ Group time items after → Next shape images s time items after
  again_group time items after found = by_unfit (unfit_in shape s items) refl
    where
      by_unfit : (bad : Option ℕ) → unfit_in shape s items ≡ bad → Next shape images s time items after
      by_unfit None fits =
          let n : WalkState = record { rows = rows_through items s.rows; entered = s.entered; at = after; last = time } in
          let is : step shape images s ≡ GoesOn (record { time = time; items = items } ∷ []) n = ap (λ (f : Found). step_by shape s f) found ∙ ap (λ (o : Option ℕ). group_step s time items after o) fits in
          let goes = rest_goes shape images s n (record { time = time; items = items } ∷ []) lt is in
          record { n = n; at = refl; last = refl; items_are = ap (λ (w : Walk). walk_items w) goes; good = sym (ap (λ (w : Walk). w.bad) goes) ∙ good; entered = sym (ap (λ (w : Walk). w.entered) goes); here = entered_here shape images s n (record { time = time; items = items } ∷ []) is }
      by_unfit (Some place) fits = absurd (no_break place (ap (λ (f : Found). step_by shape s f) found ∙ ap (λ (o : Option ℕ). group_step s time items after o) fits))

  pub again_switch : (time : ℕ) (after : Spot) → found_at shape images s ≡ Switch time after → Next shape images s time [] after
  again_switch time after found = by_entered (has_entered after.set s.entered) refl
    where
      n : WalkState
      n = record { rows = s.rows; entered = s.entered ++ after.set ∷ []; at = after; last = time }

      by_entered : (entered : Bool) → has_entered after.set s.entered ≡ entered → Next shape images s time [] after
      by_entered false is =
          let goes_is : step shape images s ≡ GoesOn [] n = ap (λ (f : Found). step_by shape s f) found ∙ ap (λ (b : Bool). cond b (Breaks s.at.place) (GoesOn [] n)) is in
          let goes = rest_goes shape images s n [] lt goes_is in
          record { n = n; at = refl; last = refl; items_are = ap (λ (w : Walk). walk_items w) goes; good = sym (ap (λ (w : Walk). w.bad) goes) ∙ good; entered = sym (ap (λ (w : Walk). w.entered) goes); here = entered_here shape images s n [] goes_is }
      by_entered true is = absurd (no_break s.at.place (ap (λ (f : Found). step_by shape s f) found ∙ ap (λ (b : Bool). cond b (Breaks s.at.place) (GoesOn [] n)) is))

  pub again_end : found_at shape images s ≡ End → walk_items (rest_of shape images s) ≡ []
  again_end found = ap (λ (w : Walk). walk_items w) (rest_ends shape images s lt (ap (λ (f : Found). step_by shape s f) found))

  pub never_damaged : (place : ℕ) (items : List Item) → found_at shape images s ≡ Damaged place items → ⊥
  never_damaged place items found = no_break (unwrap_or (unfit_in shape s items) place) (ap (λ (f : Found). step_by shape s f) found)

-- ---- where a walk that is read once more stands, and what was applied to the volumes that didn't fail

pub record Reads (shape : Shape) (images : Images) (items : List Item) (live : ℕ → Type 0) (first now : ℕ → List ℕ) (at : Spot) (last : ℕ) : Type 0 where
  pub s : WalkState
  pub at_is : s.at ≡ at
  pub last_is : s.last ≡ last
  pub before : List Item
  pub items_are : items ≡ before ++ walk_items (rest_of shape images s)
  pub good : (rest_of shape images s).bad ≡ None
  pub enters : (j : ℕ) → has_entered j (rest_of shape images s).entered ≡ true → Enters shape images j
  pub here : has_entered s.at.set s.entered ≡ true
  pub done : (v : ℕ) → live v → Done v before (first v) (now v)

pub reads_first : (plant : PlantState) (m : Mark) (live : ℕ → Type 0) (first : ℕ → List ℕ) → HasWalk plant m → Reads (shape_of plant) plant.bytes (walked plant plant.bytes) live first first m.at m.time.0
reads_first plant m live first h = record {
  s = start m h.stored.rows;
  at_is = refl;
  last_is = refl;
  before = [];
  items_are = ap (λ (k : Meaning). walked_by k) (by_walk (shape_of plant) plant.bytes m h.stored h.chosen h.holds None h.good);
  good = h.good;
  enters = λ j entered. record { mark = m; stored = h.stored; chosen = h.chosen; holds = h.holds; entered = entered };
  here = mark_here m h.stored.rows;
  done = λ v is. done_none v (first v);
}

module _ (shape : Shape) (images : Images) (items its : List Item) (live : ℕ → Type 0) (first now : ℕ → List ℕ) (at after : Spot) (last time : ℕ) (r : Reads shape images items live first now at last) (n : Next shape images r.s time its after) where
  pub reads_next : (more : ℕ → Type 0) (later : ℕ → List ℕ) → ((v : ℕ) → more v → Done v (r.before ++ its) (first v) (later v)) → Reads shape images items more first later after time
  reads_next more later done = record {
    s = n.n;
    at_is = n.at;
    last_is = n.last;
    before = r.before ++ its;
    items_are = r.items_are ∙ ap (λ (l : List Item). r.before ++ l) n.items_are ∙ sym (append_assoc r.before its (walk_items (rest_of shape images n.n)));
    good = n.good;
    enters = λ j entered. r.enters j (ap (λ (l : List ℕ). has_entered j l) (sym n.entered) ∙ entered);
    here = n.here r.here;
    done = done;
  }

  -- the record's items are of the walk
  pub of_walk : (device x : ℕ) → HasItem device x its → HasItem device x items
  of_walk device x has =
      let rest = walk_items (rest_of shape images n.n) in
      subst (λ (l : List Item). HasItem device x l) (sym (r.items_are ∙ ap (λ (l : List Item). r.before ++ l) n.items_are)) (has_after device x r.before (its ++ rest) (has_before device x its rest has))

-- What is found there is the same while only volumes are written.
pub found_same : (old new : PlantState) (s : WalkState) (at : Spot) (last : ℕ) → SameSite old new → new.bytes (Journal at.set) ≡ old.bytes (Journal at.set) → s.at ≡ at → s.last ≡ last → found_at (shape_of old) old.bytes s ≡ walk_one (form_of new) new.journals (new.bytes (Journal at.set)) at last
found_same old new s at last site same at_is last_is =
    let form = sym (same_form old new site) in
    let sets = sym site.journals in
    (λ i. walk_one (form_of old) old.journals (old.bytes (Journal (at_is i).set)) (at_is i) (last_is i)) ∙ (λ i. walk_one (form i) (sets i) (sym same i) at last)

module _ (shape : Shape) (images : Images) (items its : List Item) (live : ℕ → Type 0) (first now : ℕ → List ℕ) (at : Spot) (last : ℕ) (r : Reads shape images items live first now at last) (lt : at.number < 2 ^ 64) where
  lower : r.s.at.number < 2 ^ 64
  lower = omega (arith, lt, ap (λ (k : Spot). k.number) r.at_is)

  -- What was read once more is the walk's.
  pub reads_again : (time : Stamp) (after : Spot) → FoundAgain at.set (found_at shape images r.s) its (Ok (Some (time, after))) → Next shape images r.s time.0 its after
  reads_again time after found = elim found [
    | inl group ↦ again_group shape images r.s lower r.good time.0 its after group
    | inr switch ↦ subst (λ (l : List Item). Next shape images r.s time.0 l after) (sym switch.1) (again_switch shape images r.s lower r.good time.0 after switch.0)
  ]

  -- At its end all items were applied.
  pub all_again : FoundAgain at.set (found_at shape images r.s) its (Ok None) → (v : ℕ) → live v → Draws v items (first v) (now v) × HoldsTracks v items (first v) (now v)
  all_again found v is =
      let all : items ≡ r.before = r.items_are ∙ ap (λ (l : List Item). r.before ++ l) (again_end shape images r.s lower r.good found) ∙ append-nil r.before in
      subst (λ (l : List Item). Draws v l (first v) (now v) × HoldsTracks v l (first v) (now v)) (sym all) ((r.done v is).begins, (r.done v is).content)

  -- Only a fault can keep a record from being read once more.
  pub fault_again : (e : SiteError) → FoundAgain at.set (found_at shape images r.s) its (Err e) → (j : ℕ) × (e ≡ Fault (Journal j)) × Enters shape images j
  fault_again (DamagedError d place) found = absurd (never_damaged shape images r.s lower r.good place found.0 found.1)
  fault_again (Fault d) found = (
    at.set,
    ap Fault found,
    r.enters at.set (subst (λ (k : Spot). has_entered k.set (rest_of shape images r.s).entered ≡ true) r.at_is (entered_stays (turns_at r.s.at) shape images r.s r.s.at.set r.here)),
  )
  fault_again NoSession found = absurd found
  fault_again (TooSmall d needed) found = absurd found
  fault_again NoMemory found = absurd found
