-- Where a record is placed: at the journal's end, after a switch to the next data set, or after a mark and a switch.
use Rattle.std.specs.Prelude.{ℕ, ◌+◌, ◌-◌, ◌^◌, ◌==◌, ◌||◌, List, length, Bool, nat_le, nat_lt, if◌then◌else◌}
use Rattle.crash_plant.specs.declared.layout.TheConstants.{FRONT, SWITCH}
use Rattle.crash_plant.specs.declared.device.Device.TheVariants.{Journal}
use Rattle.crash_plant.specs.declared.spot.Spot.{Spot}
use Rattle.crash_plant.specs.Moments.{PlantState}
use Rattle.xrc_journal.specs.Items.{Item, body_spelling}
use Rattle.xrc_journal.specs.Records.{next_set, spot_after, spot_in}
use Rattle.site_store.specs.declared.placement.Placement.{Placement}
use Rattle.site_store.specs.declared.placement.Placement.TheVariants.{Here, Switched, Marked}
use Rattle.site_store.specs.Sites.{SiteState}

-- A group fits at a spot, with its header before the items and room for a switch after them.
abbrev pub record_has_room : PlantState → Spot → List Item → Bool
record_has_room plant at items = nat_le (at.place + FRONT + length (body_spelling items) + SWITCH) (plant.lengths (Journal at.set))

-- A switch leads to the next data set. If the mark that counts stands in it, its records aren't marked yet.
abbrev pub placement_from : PlantState → (at marked : Spot) → List Item → Placement
placement_from plant at marked items = if record_has_room plant at items then Here else (if next_set plant.journals at.set == marked.set then Marked else Switched)

abbrev pub placement_of : PlantState → SiteState → List Item → Placement
placement_of plant site items = placement_from plant site.at site.mark.at items

-- ---- numbers

-- the greatest number of a record and of a mark
abbrev pub most : ℕ
most = 2 ^ 64 - 2

-- A record that is placed so would need a number after the greatest, or the mark before it would: these are the next record's and the
-- last mark's numbers.
abbrev pub record_needs_more : Placement → (next mark : ℕ) → Bool
record_needs_more Here next mark = nat_lt most next
record_needs_more Switched next mark = nat_le most next
record_needs_more Marked next mark = nat_le most next || mark == most

-- Suspensions need no record where a mark tells them.
abbrev pub suspension_needs_more : Placement → (next mark : ℕ) → Bool
suspension_needs_more Here next mark = nat_lt most next
suspension_needs_more Switched next mark = nat_le most next
suspension_needs_more Marked next mark = mark == most

abbrev pub is_spent : Placement → SiteState → Bool
is_spent placement site = record_needs_more placement site.at.number site.mark.number

abbrev pub is_suspension_spent : Placement → SiteState → Bool
is_suspension_spent placement site = suspension_needs_more placement site.at.number site.mark.number

-- the next mark would need it
abbrev pub is_mark_spent : SiteState → Bool
is_mark_spent site = site.mark.number == most

-- ---- spots

-- the spot of the record, after a switch where one is made
abbrev pub spot_by : (journals : ℕ) → Placement → Spot → Spot
spot_by journals Here at = at
spot_by journals Switched at = spot_in (next_set journals at.set) at
spot_by journals Marked at = spot_in (next_set journals at.set) at

-- the spot after the record of these items
abbrev pub spot_after_record : (journals : ℕ) → Placement → List Item → Spot → Spot
spot_after_record journals placement items at = spot_after (spot_by journals placement at) (length (body_spelling items))
