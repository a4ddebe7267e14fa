-- One image of each device, and what the rules take from a plant.
use Rattle.std.specs.Prelude.{ℕ, List}
use Rattle.crash_plant.specs.Choices.{Choice}
use Rattle.crash_plant.specs.Moments.{PlantState}
use Rattle.control_set.specs.Slots.{lengths_of}
use Rattle.xrc_journal.specs.Items.{Form, form_of}

-- the bytes of each device, as one crash leaves them or as reads give them
abbrev pub Images : Type 0
Images = Choice

-- what the rules take from a plant: the tracks of which items may be, the numbers of journals and of volumes, and the lengths
-- of the journals in order
pub record Shape : Type 0 where
  pub form : Form
  pub sets : ℕ
  pub volumes : ℕ
  pub lengths : List ℕ

abbrev pub shape_of : PlantState → Shape
shape_of plant = record { form = form_of plant; sets = plant.journals; volumes = plant.volumes; lengths = lengths_of plant }
