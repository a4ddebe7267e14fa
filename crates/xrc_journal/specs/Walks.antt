-- The walk over a data set, group by group up to the first gate that isn't 1.
use Rattle.std.specs.Prelude.{◌≡◌, ℕ, List, [], ◌∷◌}
use Rattle.crash_plant.specs.declared.spot.Spot.{Spot}
use Rattle.xrc_journal.specs.Items.{Item, Form}
use Rattle.xrc_journal.specs.Records.{walk_one}
use Rattle.xrc_journal.specs.Records.Found.{End, Group}

-- a group of a walk
pub record Logged : Type 0 where
  pub time : ℕ
  pub items : List Item

-- The walk over this image of a data set, from a spot on, has these groups, and a gate that isn't 1 at this spot ends it. `last`
-- is the time of the record before the first, and `time` that of the last one.
abbrev pub Walks : Form → (sets : ℕ) → (image : List ℕ) → (from : Spot) → (last : ℕ) → List Logged → (to : Spot) → (time : ℕ) → Type 0
Walks form sets image from last [] to time = (walk_one form sets image from last ≡ End) × (to ≡ from) × (time ≡ last)
Walks form sets image from last (g ∷ groups) to time = (after : Spot) × (walk_one form sets image from last ≡ Group g.time g.items after) × Walks form sets image after g.time groups to time
