-- The walk in the code: how it goes on, and what it says at its end.
use Rattle.std.specs.Prelude.{◌≡◌, ◌⊎◌, ◌^◌, ℕ, min, ◌<◌, ◌≤◌, ◌+◌, List, [], ◌∷◌, length, Bool, true, false, Option, Some, None, Result, Ok, Err}
use Rattle.crash_plant.specs.declared.layout.TheConstants.{FRONT}
use Rattle.crash_plant.specs.declared.device.Device.TheVariants.{Journal}
use Rattle.crash_plant.specs.declared.spot.Spot.{Spot}
use Rattle.tod_stamp.specs.declared.stamp.Stamp.{Stamp}
use Rattle.crash_plant.specs.Moments.{PlantState, IsDurable, on}
use Rattle.control_set.specs.declared.value.Mark.{Mark}
use Rattle.pair_table.specs.declared.row.PairRow.{PairRow}
use Rattle.pair_table.specs.Tables.{Table, with_rows, are_below}
use Rattle.xrc_journal.specs.Records.{most_body}
use Rattle.xrc_journal.specs.Walks.{Logged}
use Rattle.xrc_journal.specs.Items.{AreItems, Item, anywhere, body_spelling}
use Rattle.site_means.specs.declared.site_error.SiteError.{SiteError}
use Rattle.site_means.specs.declared.site_error.SiteError.TheVariants.{NoSession, Damaged, Fault, TooSmall, NoMemory}
use Rattle.site_means.specs.declared.walking.Walking.{Walking}
use Rattle.site_means.specs.Images.{Images, Shape}
use Rattle.site_means.specs.Walk.{WalkState, WalkStep, start, Walk, walk_from, turns_at, ends_at, with_before, last_time, has_entered, first_unfit, rows_through}
use Rattle.site_means.specs.Walk.WalkStep.{Ends, GoesOn, Breaks}

-- where the walk stands
abbrev pub standing_of : Walking → WalkState
standing_of w = record { rows = w.table.rows; entered = w.entered.items; at = w.at; last = w.last.0 }

-- The buffer has room for the body of every record.
abbrev pub HoldsEveryBody : PlantState → (room : ℕ) → Type 0
HoldsEveryBody plant room = (j : ℕ) → j < plant.journals → min (plant.lengths (Journal j)) most_body ≤ room

-- No more than one of them can have.
abbrev pub IsLongest : PlantState → (room : ℕ) → Type 0
IsLongest plant room = (room ≡ 0) ⊎ ((j : ℕ) × (j < plant.journals) × (room ≡ min (plant.lengths (Journal j)) most_body))

-- The rows were changed by the items, or the place of the first that doesn't fit was given.
abbrev pub TakesRows : (volumes place : ℕ) → List Item → (bad : Option ℕ) → (old new : Table) → Type 0
TakesRows volumes place items bad old new = (bad ≡ first_unfit volumes place old.rows items) × (bad ≡ None → new ≡ with_rows old (rows_through items old.rows))

-- Where a record's items keep the rules, their places are numbers of 64 bits.
abbrev pub HavePlaces : Spot → List Item → Type 0
HavePlaces at items = AreItems anywhere items → (items ≡ []) ⊎ (at.place + FRONT + length (body_spelling items) < 2 ^ 64)

-- Only damage of a journal or want of memory.
abbrev pub IsDamage : SiteError → Type 0
IsDamage (Damaged d place) = (set : ℕ) × (d ≡ Journal set)
IsDamage NoMemory = Unit {0}
IsDamage NoSession = ⊥
IsDamage (Fault d) = ⊥
IsDamage (TooSmall d needed) = ⊥

abbrev pub OnlyDamage : Result Bool SiteError → Type 0
OnlyDamage (Ok more) = more ≡ true
OnlyDamage (Err e) = IsDamage e

-- the walk after a record
abbrev pub moved_on : Stamp → Spot → Walking → Walking
moved_on time after w = record { table = w.table; entered = w.entered; at = after; last = time; time = w.time }

-- the walk's start
pub record BeginsAt (m : Mark) (table : Table) (w : Walking) : Type 0 where
  pub standing : standing_of w ≡ start m table.rows
  pub table_is : w.table ≡ table
  pub time : w.time ≡ m.time

-- What holds where a walk stands. The spot lies in a journal, and its number has 64 bits. The rows name devices of the plant, no
-- journal is empty, and the spot's data set was entered.
pub record WalkStands (plant : PlantState) (w : Walking) : Type 0 where
  pub set : w.at.set < plant.journals
  pub place : w.at.place < plant.lengths (Journal w.at.set)
  pub number : w.at.number < 2 ^ 64
  pub below : are_below plant.volumes w.table.rows ≡ true
  pub long : (j : ℕ) → j < plant.journals → 1 ≤ plant.lengths (Journal j)
  pub here : has_entered w.at.set w.entered.items ≡ true

-- The walk has entered the data set in which it stands, and no other.
abbrev pub HasEnteredOne : Walking → Type 0
HasEnteredOne w = w.entered.items ≡ w.at.set ∷ []

-- A crash leaves of these data sets' journals what reads give.
abbrev pub AreDurable : PlantState → (entered : List ℕ) → Type 0
AreDurable plant entered = (j : ℕ) → has_entered j entered ≡ true → IsDurable (on plant (Journal j))

-- A walk stands at this spot, whose data set was entered, with these rows.
pub record StandsAtSpot (after : Spot) (rows : List PairRow) (w : Walking) : Type 0 where
  pub at : w.at ≡ after
  pub rows_are : w.table.rows ≡ rows
  pub here : has_entered after.set w.entered.items ≡ true

-- The walk went on, with these groups.
pub record WentOn (step : WalkStep) (old new : Walking) : Type 0 where
  pub groups : List Logged
  pub is : step ≡ GoesOn groups (standing_of new)
  pub time : new.time.0 ≡ last_time old.time.0 groups
  pub table : new.table ≡ with_rows old.table new.table.rows

-- The answer is what the walk does at its spot.
abbrev pub AnswersStep : WalkStep → (old new : Walking) → Result Bool SiteError → Type 0
AnswersStep step old new (Ok true) = WentOn step old new
AnswersStep step old new (Ok false) = (step ≡ Ends) × (new ≡ old)
AnswersStep step old new (Err (Damaged d place)) = (d ≡ Journal old.at.set) × (step ≡ Breaks place)
AnswersStep step old new (Err (Fault d)) = d ≡ Journal old.at.set
AnswersStep step old new (Err NoMemory) = Unit {0}
AnswersStep step old new (Err NoSession) = ⊥
AnswersStep step old new (Err (TooSmall d needed)) = ⊥

-- The walk from where it stood ends where it stands now.
pub record Finishes (w : Walk) (old new : Walking) : Type 0 where
  pub groups : List Logged
  pub is : w ≡ with_before groups (ends_at (standing_of new) None)
  pub time : new.time.0 ≡ last_time old.time.0 groups
  pub table : new.table ≡ with_rows old.table new.table.rows

-- The answer is how the walk ends.
abbrev pub AnswersWalk : Walk → (old new : Walking) → Result (Unit {0}) SiteError → Type 0
AnswersWalk w old new (Ok done) = Finishes w old new
AnswersWalk w old new (Err (Damaged d place)) = (set : ℕ) × (d ≡ Journal set) × (w.bad ≡ Some (set, place))
AnswersWalk w old new (Err (Fault d)) = (set : ℕ) × (d ≡ Journal set) × (has_entered set w.entered ≡ true)
AnswersWalk w old new (Err NoMemory) = Unit {0}
AnswersWalk w old new (Err NoSession) = ⊥
AnswersWalk w old new (Err (TooSmall d needed)) = ⊥

-- the whole walk from where it stands
abbrev pub walk_of : Shape → Images → Walking → Walk
walk_of shape images w = walk_from (turns_at w.at) shape images (standing_of w)
