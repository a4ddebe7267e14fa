-- Worked sites: the session ABC, begun at 50 on two journals and one volume, and a group at 80.
use Rattle.std.specs.Prelude.{ℕ, zero, suc, List, [], ◌∷◌, ◌++◌, replicate, codes, false, None}
use Rattle.test_fixtures.specs.Hex.{hex}
use Rattle.crash_plant.specs.declared.device.Device.TheVariants.{Control, State, Journal, Volume}
use Rattle.pair_table.specs.declared.level.Level.TheVariants.{Volume as VolumeLevel}
use Rattle.state_set.specs.Slots.{started_table}
use Rattle.site_tests.specs.PairVectors.{abc}
use Rattle.site_tests.specs.StateVectors.{started_bytes}
use Rattle.site_tests.specs.JournalVectors.{image_item, one_volume, spot}
use Rattle.xrc_journal.specs.Walks.{Logged}
use Rattle.site_means.specs.Images.{Images, Shape}
use Rattle.site_means.specs.Meaning.{Meaning}
use Rattle.site_means.specs.Meaning.Meaning.{Meant}

-- the mark after the session began
abbrev pub control_bytes : List ℕ
control_bytes = hex (codes "01 5843544C 0000000000000001 4142432020202020 00 0000") ++ hex (codes "0000000000000000 0000000000000001 0000000000000050 00")

-- journals of a few bytes, and one volume that ends with the slot of track 3
abbrev pub small : Shape
small = record { form = one_volume 229888; sets = 2; volumes = 1; lengths = 100 ∷ 100 ∷ [] }

-- such devices, with these bytes and zeros in the journals
abbrev pub site : (first second : List ℕ) → Images
site first second Control = control_bytes ++ replicate 975 0
site first second State = started_bytes
site first second (Journal j) = journal j
  where
    journal : ℕ → List ℕ
    journal zero = first ++ replicate 24 0
    journal (suc j) = second ++ replicate 24 0
site first second (Volume v) = []

-- the group at 80 with the image, as it was logged
abbrev pub worked_group : Logged
worked_group = record { time = 0x80; items = image_item ∷ [] }

-- what is meant without rows, by these groups up to a spot
abbrev pub meant : (time : ℕ) → (groups : List Logged) → (entered : List ℕ) → (place set number last : ℕ) → Meaning
meant time groups entered place set number last = Meant
    (record { session = abc; level = VolumeLevel; time = record { 0 = time }; table = started_table abc []; from = spot 0 0 1; ended = false })
    (record { groups = groups; rows = []; entered = entered; at = spot set place number; last = last; bad = None })
