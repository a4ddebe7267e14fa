-- The walk in the code, from step to step.
use Rattle.std.proofs.Common.{◌≡◌, ◌⊎◌, inl, inr, ℕ, ◌^◌, ◌<◌, true, List, [], ◌∷◌, ◌++◌, length, Option, Some, None, Result, Ok, Err, OnOk, refl, sym, ap, subst, ◌∙◌, arith}
use Rattle.crash_plant.specs.declared.device.Device.TheVariants.{Journal}
use Rattle.crash_plant.specs.declared.spot.Spot.{Spot}
use Rattle.crash_plant.specs.Moments.{PlantState, IsDurable, on}
use Rattle.crash_plant.specs.Calls.{SameSite}
use Rattle.pair_table.specs.declared.row.PairRow.{PairRow}
use Rattle.pair_table.specs.Tables.{Table, with_rows, are_below}
use Rattle.tod_stamp.specs.declared.stamp.Stamp.{Stamp}
use Rattle.xrc_journal.specs.Items.{Item}
use Rattle.xrc_journal.specs.Walks.{Logged}
use Rattle.site_means.specs.declared.site_error.SiteError.{SiteError}
use Rattle.site_means.specs.declared.site_error.SiteError.TheVariants.{NoSession, Damaged, Fault, TooSmall, NoMemory}
use Rattle.site_means.specs.declared.walking.Walking.{Walking}
use Rattle.site_means.specs.Images.{Images, Shape}
use Rattle.site_means.specs.Walk.{Walk, body_place, first_unfit, group_step, has_entered, last_time, rows_through, step, with_before}
use Rattle.site_means.specs.Walk.WalkStep.{Ends, GoesOn, Breaks}
use Rattle.site_means.specs.Steps.{AreDurable, Finishes, HasEnteredOne, WentOn, AnswersStep, AnswersWalk, WalkStands, StandsAtSpot, TakesRows, moved_on, standing_of, walk_of}
use Rattle.site_means.specs.Answers.{ReadsAll, WhereTold}
use Rattle.site_means.proofs.ReadAll.{durable_later}
use Rattle.site_means.proofs.Goes.{before_both, entered_more, entered_one, entered_stays, rest_breaks, rest_ends, rest_goes}

-- how far the walk has come
pub record Going (shape : Shape) (images : Images) (first now : Walking) : Type 0 where
  pub groups : List Logged
  pub is : walk_of shape images first ≡ with_before groups (walk_of shape images now)
  pub time : now.time.0 ≡ last_time first.time.0 groups
  pub table : now.table ≡ with_rows first.table now.table.rows

time_append : (mark : ℕ) (a b : List Logged) → last_time mark (a ++ b) ≡ last_time (last_time mark a) b
time_append mark [] b = refl
time_append mark (g ∷ a) b = time_append g.time a b

pub going_next : (shape : Shape) (images : Images) (first now next : Walking) → now.at.number < 2 ^ 64 → Going shape images first now → WentOn (step shape images (standing_of now)) now next → Going shape images first next
going_next shape images first now next lt g m = record {
  groups = g.groups ++ m.groups;
  is = g.is ∙ ap (λ (w : Walk). with_before g.groups w) (rest_goes shape images (standing_of now) (standing_of next) m.groups lt m.is) ∙ before_both g.groups m.groups (walk_of shape images next);
  time = m.time ∙ ap (λ (t : ℕ). last_time t m.groups) g.time ∙ sym (time_append first.time.0 g.groups m.groups);
  table = m.table ∙ ap (λ (t : Table). with_rows t next.table.rows) g.table;
}

-- two facts of a good answer
pub on_ok_two : {X E : Type 0} {A B C : Type 0} (r : Result X E) → (A → B → C) → OnOk r A → OnOk r B → OnOk r C
on_ok_two (Ok x) f a b = f a b
on_ok_two (Err e) f a b = tt

-- ---- where it stands

pub stands_later : (old new : PlantState) (w : Walking) → SameSite old new → WalkStands old w → WalkStands new w
stands_later old new w site s = record {
  set = omega (arith, s.set, site.journals);
  place = omega (arith, s.place, site.lengths (Journal w.at.set));
  number = s.number;
  below = ap (λ (n : ℕ). are_below n w.table.rows) site.volumes ∙ s.below;
  long = λ j lt. omega (arith, s.long j (omega (arith, lt, site.journals)), site.lengths (Journal j));
  here = s.here;
}

-- after a record
pub stands_after : (plant : PlantState) (now next : Walking) (after : Spot) (rows : List PairRow) → WalkStands plant now → StandsAtSpot after rows next → after.set < plant.journals → after.place < plant.lengths (Journal after.set) → after.number < 2 ^ 64 → are_below plant.volumes rows ≡ true → WalkStands plant next
stands_after plant now next after rows s b set place number below = record {
  set = subst (λ (k : Spot). k.set < plant.journals) (sym b.at) set;
  place = subst (λ (k : Spot). k.place < plant.lengths (Journal k.set)) (sym b.at) place;
  number = subst (λ (k : Spot). k.number < 2 ^ 64) (sym b.at) number;
  below = ap (λ (l : List PairRow). are_below plant.volumes l) b.rows_are ∙ below;
  long = s.long;
  here = ap (λ (k : Spot). has_entered k.set next.entered.items) b.at ∙ b.here;
}

-- ---- how it ends

pub going_ends : (shape : Shape) (images : Images) (first now new : Walking) → now.at.number < 2 ^ 64 → Going shape images first now → step shape images (standing_of now) ≡ Ends → new ≡ now → Finishes (walk_of shape images first) first new
going_ends shape images first now new lt g e same = subst (λ (w : Walking). Finishes (walk_of shape images first) first w) (sym same) (record {
  groups = g.groups;
  is = g.is ∙ ap (λ (w : Walk). with_before g.groups w) (rest_ends shape images (standing_of now) lt e);
  time = g.time;
  table = g.table;
})

pub going_breaks : (shape : Shape) (images : Images) (first now : Walking) (place : ℕ) → now.at.number < 2 ^ 64 → Going shape images first now → step shape images (standing_of now) ≡ Breaks place → (walk_of shape images first).bad ≡ Some (now.at.set, place)
going_breaks shape images first now place lt g e = ap (λ (w : Walk). w.bad) g.is ∙ ap (λ (w : Walk). w.bad) (rest_breaks shape images (standing_of now) place lt e)

pub going_entered : (shape : Shape) (images : Images) (first now : Walking) → Going shape images first now → has_entered now.at.set now.entered.items ≡ true → has_entered now.at.set (walk_of shape images first).entered ≡ true
going_entered shape images first now g here = ap (λ (w : Walk). has_entered now.at.set w.entered) g.is ∙ entered_stays _ shape images (standing_of now) now.at.set here

-- an error of a step is the walk's
pub going_fails : (shape : Shape) (images : Images) (first now new : Walking) (e : SiteError) → now.at.number < 2 ^ 64 → Going shape images first now → has_entered now.at.set now.entered.items ≡ true
    → AnswersStep (step shape images (standing_of now)) now new (Err e) → AnswersWalk (walk_of shape images first) first new (Err e)
going_fails shape images first now new (Damaged d place) lt g here p = (now.at.set, p.0, going_breaks shape images first now place lt g p.1)
going_fails shape images first now new (Fault d) lt g here p = (now.at.set, p, going_entered shape images first now g here)
going_fails shape images first now new NoMemory lt g here p = tt
going_fails shape images first now new NoSession lt g here p = p
going_fails shape images first now new (TooSmall d needed) lt g here p = p

-- ---- what is durable

-- Of the journals of data sets that the walk has entered each is durable, or it is the last, where that is still to be synced.
abbrev pub AreSettled : PlantState → (settled : ℕ) → Walking → Type 0
AreSettled plant settled w = (j : ℕ) → has_entered j w.entered.items ≡ true → IsDurable (on plant (Journal j)) ⊎ ((settled < length w.entered.items) × (j ≡ w.at.set))

pub settled_first : (plant : PlantState) (w : Walking) → HasEnteredOne w → AreSettled plant 0 w
settled_first plant w one j is =
    let same = entered_one j w.at.set (ap (λ (l : List ℕ). has_entered j l) (sym one) ∙ is) in
    inr (omega (arith, ap length one), same)

-- after a sync of the last
pub settled_all : (tells : Type 0) (told : tells) (a b : PlantState) (settled : ℕ) (w : Walking) → ReadsAll tells a b → AreSettled a settled w → (settled < length w.entered.items → IsDurable (on b (Journal w.at.set))) → AreDurable b w.entered.items
settled_all tells told a b settled w reads are last j is = elim (are j is) [
  | inl durable ↦ durable_later tells a b (Journal j) told reads durable
  | inr fresh ↦ subst (λ (k : ℕ). IsDurable (on b (Journal k))) (sym fresh.1) (last fresh.0)
]

-- after a record
pub settled_next : (tells : Type 0) (told : tells) (a b : PlantState) (shape : Shape) (images : Images) (now next : Walking) → ReadsAll tells a b → AreDurable a now.entered.items → WentOn (step shape images (standing_of now)) now next → AreSettled b (length now.entered.items) next
settled_next tells told a b shape images now next reads are m j is = elim (entered_more shape images (standing_of now) (standing_of next) m.groups j m.is is) [
  | inl before ↦ inl (durable_later tells a b (Journal j) told reads (are j before))
  | inr fresh ↦ inr fresh
]

-- at the end of the walk
pub ends_entered : (shape : Shape) (images : Images) (first new : Walking) → Finishes (walk_of shape images first) first new → (walk_of shape images first).entered ≡ new.entered.items
ends_entered shape images first new f = ap (λ (w : Walk). w.entered) f.is

pub breaks_entered : (shape : Shape) (images : Images) (first now : Walking) (place : ℕ) → now.at.number < 2 ^ 64 → Going shape images first now → step shape images (standing_of now) ≡ Breaks place → (walk_of shape images first).entered ≡ now.entered.items
breaks_entered shape images first now place lt g e = ap (λ (w : Walk). w.entered) g.is ∙ ap (λ (w : Walk). w.entered) (rest_breaks shape images (standing_of now) place lt e)

-- Whatever an error of a step tells lasts.
pub told_durable : (plant : PlantState) (shape : Shape) (images : Images) (first now new : Walking) (e : SiteError) → now.at.number < 2 ^ 64 → Going shape images first now → AreDurable plant now.entered.items
    → AnswersStep (step shape images (standing_of now)) now new (Err e) → (let r : Result (Unit {0}) SiteError = Err e in WhereTold r (AreDurable plant (walk_of shape images first).entered))
told_durable plant shape images first now new (Damaged d place) lt g are p = subst (λ (l : List ℕ). AreDurable plant l) (sym (breaks_entered shape images first now place lt g p.1)) are
told_durable plant shape images first now new (Fault d) lt g are p = tt
told_durable plant shape images first now new NoMemory lt g are p = tt
told_durable plant shape images first now new NoSession lt g are p = absurd p
told_durable plant shape images first now new (TooSmall d needed) lt g are p = absurd p

-- ---- a group

-- The rows took the items, and the walk stands after them.
pub group_moves : (volumes : ℕ) (time : Stamp) (after : Spot) (items : List Item) (old mid new : Walking) → mid ≡ record old { table = mid.table } → TakesRows volumes (body_place old.at) items None old.table mid.table
    → new ≡ moved_on time after (record mid { time = time }) → WentOn (group_step (standing_of old) time.0 items after (first_unfit volumes (body_place old.at) old.table.rows items)) old new
group_moves volumes time after items old mid new rest taken is = record {
  groups = record { time = time.0; items = items } ∷ [];
  is = ap (λ (b : Option ℕ). group_step (standing_of old) time.0 items after b) (sym taken.0)
      ∙ (let rows : new.table.rows ≡ rows_through items old.table.rows = ap (λ (w : Walking). w.table.rows) is ∙ ap (λ (t : Table). t.rows) (taken.1 refl) in
      let entered : new.entered ≡ old.entered = ap (λ (w : Walking). w.entered) is ∙ ap (λ (w : Walking). w.entered) rest in
      λ i. GoesOn (record { time = time.0; items = items } ∷ []) (record { rows = sym rows i; entered = (sym entered i).items; at = (sym (ap (λ (w : Walking). w.at) is)) i; last = (sym (ap (λ (w : Walking). w.last.0) is)) i }));
  time = ap (λ (w : Walking). w.time.0) is;
  table = ap (λ (w : Walking). w.table) is ∙ taken.1 refl ∙ ap (λ (l : List PairRow). with_rows old.table l) (sym (ap (λ (w : Walking). w.table.rows) is ∙ ap (λ (t : Table). t.rows) (taken.1 refl)));
}
