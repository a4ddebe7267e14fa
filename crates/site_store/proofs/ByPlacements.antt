-- The placements of a record, for crates above, which name none.
use Rattle.site_store.specs.declared.placement.Placement.{Placement}
use Rattle.site_store.specs.declared.placement.Placement.TheVariants.{Here, Switched, Marked}

abbrev pub RecordPlacement : Type 0
RecordPlacement = Placement

abbrev pub placement_here : RecordPlacement
placement_here = Here

abbrev pub placement_switched : RecordPlacement
placement_switched = Switched

abbrev pub placement_marked : RecordPlacement
placement_marked = Marked

-- What is so of each of the three is so of any placement.
pub by_placements : (P : RecordPlacement → Type 0) → P placement_here → P placement_switched → P placement_marked → (placement : RecordPlacement) → P placement
by_placements P here switched marked Here = here
by_placements P here switched marked Switched = switched
by_placements P here switched marked Marked = marked
