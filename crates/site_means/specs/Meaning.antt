-- What a site's images mean, or why they mean nothing.
use Rattle.std.specs.Prelude.{ℕ, Option, Some, None, Result, Ok, Err}
use Rattle.crash_plant.specs.declared.device.Device.{Device}
use Rattle.crash_plant.specs.declared.device.Device.TheVariants.{Control, State, Journal}
use Rattle.crash_plant.specs.Moments.{PlantState}
use Rattle.control_set.specs.declared.value.Mark.{Mark}
use Rattle.control_set.specs.Slots.{chosen_mark}
use Rattle.state_set.specs.Slots.{Stored, state_of, started_table}
use Rattle.site_means.specs.declared.means.Means.{Means}
use Rattle.site_means.specs.Images.{Images, Shape, shape_of}
use Rattle.site_means.specs.Walk.{Walk, walk_in, walk_items, rows_through, last_time}

-- No gate of the control is open, or a rule is broken first at a place of a device, or the images mean something by their walk.
pub data Meaning : Type 0 where
  NoMark : Meaning
  DamagedAt : (device : Device) → (place : ℕ) → Meaning
  Meant : (means : Means) → (walk : Walk) → Meaning

-- The mark's session, spot and ended flag; the state slot's level; that slot's rows, changed by the walk's pairs and gone devices
-- in turn; and the time of the walk's last group, or the mark's.
abbrev pub means_by : Mark → Stored → Walk → Means
means_by m s w = record {
  session = m.session;
  level = s.level;
  time = record { 0 = last_time m.time.0 w.groups };
  table = started_table m.session (rows_through (walk_items w) s.rows);
  from = m.at;
  ended = m.ended;
}

abbrev pub meaning_by_walk : Mark → Stored → Walk → Option (ℕ × ℕ) → Meaning
meaning_by_walk m s w None = Meant (means_by m s w) w
meaning_by_walk m s w (Some bad) = DamagedAt (Journal bad.0) bad.1

abbrev pub meaning_by_state : Shape → Images → Mark → Result Stored ℕ → Meaning
meaning_by_state shape images m (Ok s) = let w = walk_in shape images m s.rows in meaning_by_walk m s w w.bad
meaning_by_state shape images m (Err place) = DamagedAt State place

-- what the state slot of a mark holds
abbrev pub stored_in : Shape → Images → Mark → Result Stored ℕ
stored_in shape images m = state_of shape.volumes m.session m.state_slot (images State)

abbrev pub meaning_by_mark : Shape → Images → Result (Option Mark) ℕ → Meaning
meaning_by_mark shape images (Ok (Some m)) = meaning_by_state shape images m (stored_in shape images m)
meaning_by_mark shape images (Ok None) = NoMark
meaning_by_mark shape images (Err place) = DamagedAt Control place

-- the mark that counts
abbrev pub chosen_in : Shape → Images → Result (Option Mark) ℕ
chosen_in shape images = chosen_mark shape.lengths (images Control)

abbrev pub meaning_in : Shape → Images → Meaning
meaning_in shape images = meaning_by_mark shape images (chosen_in shape images)

-- The meaning of images of a plant: by the chosen mark, what its state slot holds, and the walk from the mark's spot.
abbrev pub meaning : PlantState → Images → Meaning
meaning plant images = meaning_in (shape_of plant) images
