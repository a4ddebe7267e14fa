-- A record put at the journal's end: where it stands by its placement, what is shown while it is put, and what is meant once it was put.
use Rattle.std.specs.Prelude.{◌≡◌, ◌≢◌, ◌⊎◌, ℕ, ◌+◌, ◌-◌, ◌^◌, ◌≤◌, List, OnOk, Result}
use Rattle.crash_plant.specs.declared.device.Device.TheVariants.{Journal}
use Rattle.crash_plant.specs.declared.spot.Spot.{Spot}
use Rattle.crash_plant.specs.Choices.{AllFollow}
use Rattle.crash_plant.specs.Moments.{PlantState}
use Rattle.xrc_journal.specs.Appending.{IsWholeBody, MayGrow, room_for}
use Rattle.tod_stamp.specs.declared.stamp.Stamp.{Stamp}
use Rattle.xrc_journal.specs.Bodies.{BodyState}
use Rattle.xrc_journal.specs.Items.{Item, form_of}
use Rattle.xrc_journal.specs.Records.{next_set}
use Rattle.xrc_journal.specs.RingWalks.{AllEndThrough, spot_after_logged}
use Rattle.xrc_journal.specs.Walks.{Logged}
use Rattle.site_means.specs.declared.means.Means.{Means}
use Rattle.site_means.specs.Images.{Images, Shape, shape_of}
use Rattle.site_means.specs.Laws.{and_group, with_group}
use Rattle.site_means.specs.Walk.{Walk}
use Rattle.site_store.specs.RingPlants.{AllMean, AreSetsDurable, IsMeantAfter, and_switch_for}
use Rattle.site_store.specs.Ring.{FitsAfter, ShowsGroup, ShowsSame}
use Rattle.site_store.specs.declared.store_error.StoreError.{StoreError}
use Rattle.site_store.specs.declared.placement.Placement.{Placement}
use Rattle.site_store.specs.declared.placement.Placement.TheVariants.{Here, Switched, Marked}

-- the group of a record with this time and these items
abbrev pub group_with : (cut : ℕ) → List Item → Logged
group_with cut items = record { time = cut; items = items }

-- the same of a body's items
abbrev pub group_in : Stamp → BodyState → Logged
group_in cut body = group_with cut.0 body.items

-- ---- before the record

-- A switch leads to the next data set, in which the mark that counts doesn't stand, and the record has room there.
pub record HasRoomAfterSwitch (plant : PlantState) (from at : Spot) (items : List Item) : Type 0 where
  pub free : next_set plant.journals at.set ≢ from.set
  pub room : room_for items ≤ plant.lengths (Journal (next_set plant.journals at.set))
  pub number : at.number + 1 ≤ 2 ^ 64 - 2

-- The record has room by its placement. Once the mark that had to come first was made, a switch comes there too.
abbrev pub HasRoomBy : PlantState → Placement → (from at : Spot) → List Item → Type 0
HasRoomBy plant Here from at items = at.place + room_for items ≤ plant.lengths (Journal at.set)
HasRoomBy plant Switched from at items = HasRoomAfterSwitch plant from at items
HasRoomBy plant Marked from at items = HasRoomAfterSwitch plant from at items

-- A record may be put at the journal's end, with a cut that isn't below the time of any record there.
pub record MayPutRecord (tells : Type 0) (placement : Placement) (from at : Spot) (cut : ℕ) (items : List Item) (plant : PlantState) : Type 0 where
  pub grows : MayGrow plant at
  pub body : IsWholeBody (form_of plant) items
  pub room : HasRoomBy plant placement from at items
  pub ends : tells → AllEndThrough plant from at cut

-- ---- the walk after it

-- the walk to where the record stands
abbrev pub walk_by : (sets : ℕ) → Placement → Logged → Walk → Walk
walk_by sets Here g w = w
walk_by sets Switched g w = and_switch_for sets g w
walk_by sets Marked g w = and_switch_for sets g w

-- the walk with the record at its end
abbrev pub walk_after_record : (sets : ℕ) → Placement → Logged → Walk → Walk
walk_after_record sets placement g w = and_group g (spot_after_logged g (walk_by sets placement g w).at) (walk_by sets placement g w)

-- ---- while it is put

-- Images mean what was meant, by some walk, and each track has the content that it had. A switch may be at the walk's end.
pub record MeansStill (shape : Shape) (means : Means) (old new : Images) : Type 0 where
  pub walk : Walk
  pub shows : ShowsSame shape means walk old new

-- They mean the group more, by the walk to where it stands by its placement.
abbrev pub ShowsMore : Placement → Means → Walk → Logged → PlantState → (old new : Images) → Type 0
ShowsMore placement means w g plant old new = ShowsGroup (shape_of plant) g means (walk_by plant.journals placement g w) old new

-- At every moment what was meant is meant still, or the group more.
abbrev pub RecordIsShown : Placement → Means → Walk → Logged → (old new : PlantState) → Type 0
RecordIsShown placement means w g old new = AllFollow (λ b c. MeansStill (shape_of old) means b c ⊎ ShowsMore placement means w g old b c) old new

-- Once it was put, all means the group more.
abbrev pub RecordIsMeant : Placement → Means → Walk → Logged → (old new : PlantState) → Type 0
RecordIsMeant placement means w g old new = IsMeantAfter (ShowsMore placement means w g old) (with_group g means) (walk_after_record old.journals placement g w) old new

-- This holds of each meaning from a mark's spot whose walk ends at a spot, and whose rows a group fits.
abbrev pub OfMeanings : (from at : Spot) → Logged → PlantState → (Means → Walk → Type 0) → Type 0
OfMeanings from at g plant holds =
    (means : Means) (w : Walk) → means.from ≡ from → w.at ≡ at → AllMean plant means w → FitsAfter plant.volumes means w g → holds means w

-- So it is of each meaning whose walk ends where the record is put.
pub record ShowsRecord (tells : Type 0) (placement : Placement) (from at : Spot) (g : Logged) (old new : PlantState) (result : Result (Unit {0}) StoreError) : Type 0 where
  pub shown : tells → OfMeanings from at g old (λ means w. RecordIsShown placement means w g old new)
  pub meant : tells → OnOk result (OfMeanings from at g old (λ means w. RecordIsMeant placement means w g old new))
  -- The data sets of the walk stay durable.
  pub durable : tells → OnOk result ((w : Walk) → w.at ≡ at → AreSetsDurable old w.entered → AreSetsDurable new (walk_after_record old.journals placement g w).entered)
