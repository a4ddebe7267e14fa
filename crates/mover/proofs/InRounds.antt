-- What rounds do, one after another.
use Rattle.std.proofs.Common.{List, Ok, Result, refl}
use Rattle.std.specs.List.{All}
use Rattle.std.specs.Prelude.{Option, ℕ}
use Rattle.crash_plant.specs.Moments.{PlantState}
use Rattle.crash_plant.proofs.Steps.{works_on_here}
use Rattle.applier.proofs.Works.{lent_of_works}
use Rattle.turn_group.specs.Seats.{MoverSeatState, TurnState}
use Rattle.site_store.specs.declared.store_error.StoreError.{StoreError}
use Rattle.site_store.specs.Sites.{SiteState}
use Rattle.mover.specs.declared.lane.Lane.{Lane}
use Rattle.mover.specs.Lanes.{MayLaneRead}
use Rattle.mover.specs.Moves.{IsOfMover}
use Rattle.mover.specs.Rounds.{DoesRounds}
use Rattle.mover.proofs.DropMade.{stays_self, stays_then}
use Rattle.mover.proofs.LanesOn.{all_none, all_then}
use Rattle.mover.proofs.MovedOn.{moved_then}
use Rattle.mover.proofs.MoverCalls.{nothing_done}
use Rattle.mover.proofs.Numbers.{numbers_none, numbers_then}
use Rattle.mover.proofs.WorkedOn.{no_work, works_then}

module _ {S : Type 0} (tells : Type 0) (left : S → Option (List ℕ)) (faults : S → ℕ) (at : TurnState) (limit : ℕ) where
  pub rounds_none : (lanes : List (Lane S)) (seat : MoverSeatState) (site : SiteState) (plant : PlantState) → All (MayLaneRead at limit) lanes → DoesRounds tells left faults at limit lanes lanes seat seat site site plant plant (Ok tt)
  rounds_none lanes seat site plant may = record {
    read = all_none left faults at limit lanes may;
    moved = nothing_done tells seat site plant;
    limited = λ before. before;
    still = stays_self seat;
    works = no_work tells site plant (Ok tt) (lent_of_works tells (IsOfMover site) plant plant (works_on_here tells (IsOfMover site) plant)) refl;
    numbers = numbers_none seat site;
  }

  pub rounds_then : (lanes between after : List (Lane S)) (seat turn next : MoverSeatState) (site mid then : SiteState) (old now new : PlantState) (result : Result (Unit {0}) StoreError) → DoesRounds tells left faults at limit lanes between seat turn site mid old now (Ok tt)
      → DoesRounds tells left faults at limit between after turn next mid then now new result → DoesRounds tells left faults at limit lanes after seat next site then old new result
  rounds_then lanes between after seat turn next site mid then old now new result first more = record {
    read = all_then left faults at limit lanes between after first.read more.read;
    moved = moved_then tells seat turn next site mid then old now new result first.moved more.moved;
    limited = λ before. more.limited (first.limited before);
    still = stays_then seat turn next first.still more.still;
    works = works_then tells site mid then old now new result first.works more.works;
    numbers = numbers_then seat turn next site mid then result first.numbers more.numbers;
  }
