-- The walk over a site's journals from the mark's spot, record by record, with its first bad place.
use Rattle.std.specs.Prelude.{ℕ, zero, suc, ◌+◌, ◌-◌, ◌^◌, ◌==◌, List, [], ◌∷◌, ◌++◌, length, Bool, true, Option, Some, None, unwrap_or, if◌then◌else◌}
use Rattle.crash_plant.specs.declared.layout.TheConstants.{FRONT}
use Rattle.std.specs.List.{flat_map, list_any}
use Rattle.crash_plant.specs.declared.spot.Spot.{Spot}
use Rattle.crash_plant.specs.declared.device.Device.TheVariants.{Journal}
use Rattle.control_set.specs.declared.value.Mark.{Mark}
use Rattle.pair_table.specs.declared.row.PairRow.{PairRow}
use Rattle.pair_table.specs.Tables.{is_of, with_row, without_row}
use Rattle.state_set.specs.Slots.{are_rows}
use Rattle.xrc_journal.specs.Items.{Item, item_spelling}
use Rattle.xrc_journal.specs.Items.Item.{Image, Delta, Pair, Gone}
use Rattle.xrc_journal.specs.Records.{Found, walk_one}
use Rattle.xrc_journal.specs.Records.Found.{End, Group, Switch, Damaged}
use Rattle.xrc_journal.specs.Walks.{Logged}
use Rattle.site_means.specs.Images.{Images, Shape}

-- ---- the rules over several records

-- the rows after an item: a pair's row takes the place of its device's row or goes last, and a gone device's row goes
abbrev pub rows_by : Item → List PairRow → List PairRow
rows_by (Image device track recs) rows = rows
rows_by (Delta device track kind) rows = rows
rows_by (Pair version row) rows = with_row row rows
rows_by (Gone device) rows = without_row device rows

-- the rows after items in turn
abbrev pub rows_through : List Item → List PairRow → List PairRow
rows_through [] rows = rows
rows_through (i ∷ items) rows = rows_through items (rows_by i rows)

-- The table after a pair keeps the rules over rows, and a gone device has a row.
abbrev pub fits_rows : (volumes : ℕ) → List PairRow → Item → Bool
fits_rows volumes rows (Image device track recs) = true
fits_rows volumes rows (Delta device track kind) = true
fits_rows volumes rows (Pair version row) = are_rows volumes (with_row row rows)
fits_rows volumes rows (Gone device) = list_any (is_of device) rows

-- the place of the first item that breaks one of these rules, where the first item stands at `place`
abbrev pub first_unfit : (volumes place : ℕ) → List PairRow → List Item → Option ℕ
first_unfit volumes place rows [] = None
first_unfit volumes place rows (i ∷ items) = if fits_rows volumes rows i then first_unfit volumes (place + length (item_spelling i)) (rows_by i rows) items else Some place

-- ---- one record

-- where a walk stands: the rows so far, the data sets that it has entered in order, the spot, and the time of the record before
pub record WalkState : Type 0 where
  pub rows : List PairRow
  pub entered : List ℕ
  pub at : Spot
  pub last : ℕ

-- What a walk does at a spot: it ends there, or it goes on after a record with the groups that this adds, or a rule is broken
-- at a place of this data set.
pub data WalkStep : Type 0 where
  Ends : WalkStep
  GoesOn : (groups : List Logged) → (next : WalkState) → WalkStep
  Breaks : (place : ℕ) → WalkStep

-- the place of a record's first item
abbrev pub body_place : Spot → ℕ
body_place at = at.place + FRONT

abbrev pub unfit_in : Shape → WalkState → List Item → Option ℕ
unfit_in shape s items = first_unfit shape.volumes (body_place s.at) s.rows items

abbrev pub group_step : WalkState → (time : ℕ) → List Item → Spot → Option ℕ → WalkStep
group_step s time items after None = GoesOn (record { time = time; items = items } ∷ []) (record { rows = rows_through items s.rows; entered = s.entered; at = after; last = time })
group_step s time items after (Some place) = Breaks place

-- whether a data set was entered
abbrev pub has_entered : (set : ℕ) → List ℕ → Bool
has_entered set entered = list_any (λ e. e == set) entered

-- A data set that was entered before is not entered again.
abbrev pub switch_step : WalkState → (time : ℕ) → Spot → WalkStep
switch_step s time after =
    if has_entered after.set s.entered then Breaks s.at.place else GoesOn [] (record { rows = s.rows; entered = s.entered ++ after.set ∷ []; at = after; last = time })

-- Where a record breaks rules of both kinds, the first place in byte order counts.
abbrev pub step_by : Shape → WalkState → Found → WalkStep
step_by shape s End = Ends
step_by shape s (Group time items after) = group_step s time items after (unfit_in shape s items)
step_by shape s (Switch time after) = switch_step s time after
step_by shape s (Damaged place items) = Breaks (unwrap_or (unfit_in shape s items) place)

abbrev pub found_at : Shape → Images → WalkState → Found
found_at shape images s = walk_one shape.form shape.sets (images (Journal s.at.set)) s.at s.last

abbrev pub step : Shape → Images → WalkState → WalkStep
step shape images s = step_by shape s (found_at shape images s)

-- ---- the walk

-- The groups of a walk in order; where it stood at its end; and its first bad place, if it has one: a data set and a place in it.
pub record Walk : Type 0 where
  pub groups : List Logged
  pub rows : List PairRow
  pub entered : List ℕ
  pub at : Spot
  pub last : ℕ
  pub bad : Option (ℕ × ℕ)

abbrev pub ends_at : WalkState → Option (ℕ × ℕ) → Walk
ends_at s bad = record { groups = []; rows = s.rows; entered = s.entered; at = s.at; last = s.last; bad = bad }

-- the walk with more groups before its own
abbrev pub with_before : List Logged → Walk → Walk
with_before groups w = record { groups = groups ++ w.groups; rows = w.rows; entered = w.entered; at = w.at; last = w.last; bad = w.bad }

abbrev pub walk_on : WalkState → WalkStep → (WalkState → Walk) → Walk
walk_on s Ends rest = ends_at s None
walk_on s (GoesOn groups next) rest = with_before groups (rest next)
walk_on s (Breaks place) rest = ends_at s (Some (s.at.set, place))

-- record by record, up to the first gate that isn't 1
unfoldable pub walk_from : (turns : ℕ) → Shape → Images → WalkState → Walk
walk_from zero shape images s = ends_at s None
walk_from (suc turns) shape images s = walk_on s (step shape images s) (λ n. walk_from turns shape images n)

-- Numbers go up by one with each record, and a record's number is below 2^64 - 1. So as many turns as there are numbers up to
-- 2^64 reach the end.
abbrev pub turns_at : Spot → ℕ
turns_at at = 2 ^ 64 - at.number

-- where the walk begins
abbrev pub start : Mark → List PairRow → WalkState
start m rows = record { rows = rows; entered = m.at.set ∷ []; at = m.at; last = m.time.0 }

abbrev pub walk_in : Shape → Images → Mark → List PairRow → Walk
walk_in shape images m rows = walk_from (turns_at m.at) shape images (start m rows)

-- all items of a walk, in order
abbrev pub walk_items : Walk → List Item
walk_items w = flat_map (λ g. g.items) w.groups

-- The time of the last group, or the mark's. A switch's time doesn't count.
abbrev pub last_time : (mark : ℕ) → List Logged → ℕ
last_time mark [] = mark
last_time mark (g ∷ groups) = last_time g.time groups
