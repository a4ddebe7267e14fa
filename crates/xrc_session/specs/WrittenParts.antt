-- How the volumes of a session are written in the work for a line, part by part.
use Rattle.std.specs.Prelude.{◌≡◌, ◌⊎◌, ℕ, ◌≤◌, ◌<◌, List, [], ◌∷◌, filter, not, IsTrue}
use Rattle.std.specs.List.{flat_map, list_all}
use Rattle.crash_plant.specs.declared.device.Device.TheVariants.{Volume}
use Rattle.crash_plant.specs.Moments.{PlantState}
use Rattle.pair_table.specs.declared.row.PairRow.{PairRow}
use Rattle.pair_table.specs.Rows.{is_suspended}
use Rattle.passages.specs.Points.{last_point}
use Rattle.consistency.specs.Leads.{Point}
use Rattle.consistency.specs.Ways.{PassedPoint, is_on_the_way}
use Rattle.xrc_session.specs.Frames.{DiffersInRows}

-- From a moment of a plant to another the volumes are written in slots of these rows alone.
abbrev pub WritesRows : (plant : PlantState) → (from to : ℕ) → List PairRow → Type 0
WritesRows plant from to rows = (from ≤ to) × ((d : ℕ) → d < plant.volumes → (t : ℕ) → from ≤ t → t ≤ to → (c : List ℕ) → plant.images t (Volume d) c → (b : List ℕ) × plant.images from (Volume d) b × DiffersInRows d rows b c)

-- These points were passed from a moment to another.
abbrev pub ArePassedWithin : (from to : ℕ) → List PassedPoint → Type 0
ArePassedWithin from to [] = Unit {0}
ArePassedWithin from to (n ∷ points) = (from ≤ n.moment) × (n.moment ≤ to) × ArePassedWithin from to points

-- A part of the work for a line ends at this moment, and these points are passed in it.
pub record WrittenPart : Type 0 where
  pub at : ℕ
  pub points : List PassedPoint

abbrev pub points_of_parts : List WrittenPart → List PassedPoint
points_of_parts parts = flat_map (λ part. part.points) parts

-- the rows that aren't suspended
abbrev pub rows_followed : List PairRow → List PairRow
rows_followed rows = filter (λ r. not (is_suspended r.state)) rows

-- A part begins at a moment, at which devices are at a point. Only slots of the rows that aren't suspended there are written, and only if each
-- point that is passed is on the way to the line's time. No slot is written in a part in which the line's command or the session's end comes.
abbrev pub WritesPart : (plant : PlantState) → (from : ℕ) → Point → WrittenPart → Type 0
WritesPart plant from p part = ArePassedWithin from part.at part.points × ((IsTrue (list_all is_on_the_way part.points) × WritesRows plant from part.at (rows_followed p.rows)) ⊎ WritesRows plant from part.at [])

-- Parts come in turn from a moment to another. At the first moment devices are at a point.
abbrev pub WritesInParts : (plant : PlantState) → (from to : ℕ) → Point → List WrittenPart → Type 0
WritesInParts plant from to p [] = to ≡ from
WritesInParts plant from to p (part ∷ parts) = WritesPart plant from p part × WritesInParts plant part.at to (last_point p part.points) parts

-- From a moment to another devices pass these points in parts.
abbrev pub PassesInParts : (plant : PlantState) → (from to : ℕ) → Point → List PassedPoint → Type 0
PassesInParts plant from to p points = (parts : List WrittenPart) × (points ≡ points_of_parts parts) × WritesInParts plant from to p parts
