-- Calls that do deeds, and what is seen at each of their moments.
use Rattle.std.specs.Prelude.{◌≡◌, ◌⊎◌, ℕ, suc, ◌<◌, ◌≤◌, List, [], ◌∷◌, ◌++◌, length, take, Option, Some, None}
use Rattle.crash_plant.specs.Calls.{Elapses, SameSite, Silent}
use Rattle.crash_plant.specs.Choices.{AtNow, IsChoice}
use Rattle.crash_plant.specs.Moments.{PlantState}
use Rattle.pair_table.specs.declared.row.PairRow.{PairRow}
use Rattle.passages.specs.Points.{GoesThrough, Passed}
use Rattle.record_rows.specs.Deeds.{Deed}
use Rattle.site_store.specs.Exceptions.{Exceptions}
use Rattle.site_store.specs.Seeing.{SeesAfter}

-- the point at which a deed is done: the deeds that are done by then, of which it is the last
abbrev pub PassedDeed : Type 0
PassedDeed = Passed (List Deed) Deed

abbrev pub deed_passed : (moment : ℕ) → (done : List Deed) → Deed → PassedDeed
deed_passed moment done deed = record { moment = moment; point = done ++ deed ∷ []; way = deed }

-- the points of the first of these deeds, where some were done before, and each of the first is done at one of these moments
abbrev pub points_of : (done : List Deed) → (moments : List ℕ) → List Deed → List PassedDeed
points_of done [] deeds = []
points_of done (t ∷ moments) [] = []
points_of done (t ∷ moments) (deed ∷ deeds) = deed_passed t done deed ∷ points_of (done ++ deed ∷ []) moments deeds

-- From one moment of a plant to another each choice shows how many of the deeds are done: between two of them it shows the one or the
-- other number, and at its own moment each is shown by all.
abbrev pub GoesThroughDeeds : (old new : PlantState) → Exceptions → List PairRow → (moments : List ℕ) → List Deed → (on_its_way : Option (List Deed)) → Type 0
GoesThroughDeeds old new excepted rows moments deeds next = GoesThrough (IsChoice new) (SeesAfter old excepted rows) old.clock [] (points_of [] moments deeds) new.clock next

-- the deeds that are done once the next one is, where so many are
abbrev pub with_next : (done : ℕ) → List Deed → List Deed
with_next done deeds = take (suc done) deeds

-- Calls do deeds, from exceptions and rows on. The past of a plant that keeps one tells the moment of each.
pub record DoesDeeds (excepted : Exceptions) (rows : List PairRow) (deeds : List Deed) (old new : PlantState) : Type 0 where
  pub site : SameSite old new
  pub elapses : Elapses old new
  pub silent : Silent old new
  pub moments : List ℕ
  pub each : length moments ≡ length deeds
  pub goes : 0 < old.clock → GoesThroughDeeds old new excepted rows moments deeds None
  pub now : AtNow (SeesAfter old excepted rows deeds) new

-- Calls do deeds as far as they come: some first ones are done, and the next one may be on its way.
pub record BeginsDeeds (excepted : Exceptions) (rows : List PairRow) (deeds : List Deed) (old new : PlantState) : Type 0 where
  pub site : SameSite old new
  pub elapses : Elapses old new
  pub silent : Silent old new
  pub moments : List ℕ
  pub few : length moments ≤ length deeds
  pub goes : 0 < old.clock → GoesThroughDeeds old new excepted rows moments deeds (Some (with_next (length moments) deeds))
  pub now : AtNow (λ c. SeesAfter old excepted rows (take (length moments) deeds) c ⊎ SeesAfter old excepted rows (with_next (length moments) deeds) c) new
