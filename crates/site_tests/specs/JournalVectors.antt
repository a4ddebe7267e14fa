-- Worked records and their bytes.
use Rattle.std.specs.Prelude.{ℕ, List, [], ◌∷◌, ◌++◌, codes, true, false, nat_lt, ◌&&◌, replicate}
use Rattle.test_fixtures.specs.Hex.{hex}
use Rattle.ckd_track.specs.declared.write.Kind.TheVariants.{Update}
use Rattle.crash_plant.specs.declared.spot.Spot.{Spot}
use Rattle.xrc_journal.specs.Items.{Item, Form, is_within}
use Rattle.xrc_journal.specs.Items.Item.{Image, Delta}
use Rattle.site_tests.specs.PairVectors.{first_bytes, narrow_bytes}

abbrev pub spot : (set place number : ℕ) → Spot
spot set place number = record { set = set; place = place; number = number }

-- one volume of this length
abbrev pub one_volume : (len : ℕ) → Form
one_volume len = record { deltas = false; has_slot = λ device track. nat_lt device 1 && is_within len track }

-- the same with changes beside images
abbrev pub and_deltas : Form → Form
and_deltas form = record { deltas = true; has_slot = form.has_slot }

-- a change of track 3 of volume 0: record 1 gets the content R
abbrev pub delta_item : Item
delta_item = Delta 0 3 (Update 1 (codes "R"))

-- track 3 of volume 0 with record 1, whose content is 5A 00
abbrev pub image_item : Item
image_item = Image 0 3 (record { number = 1; key = []; content = 90 ∷ 0 ∷ [] } ∷ [])

-- Record 1, a group at 80 with that image, and the closed gate after it.
abbrev pub group_bytes : List ℕ
group_bytes = hex (codes "01 01 0000000000000001 0000000000000080 0000000F") ++ hex (codes "01 0000 00000003 0001010000025A00 00")

-- Record 1, a group at 80 with the worked row in version 1 and in version 2, and the closed gate after it.
abbrev pub rows_bytes : List ℕ
rows_bytes = hex (codes "01 01 0000000000000001 0000000000000080 00000046") ++ 3 ∷ narrow_bytes ++ 5 ∷ first_bytes ++ 0 ∷ []

-- Record 2, a switch at 80 to the data set 1.
abbrev pub switch_bytes : List ℕ
switch_bytes = hex (codes "01 02 0000000000000002 0000000000000080 00000002 0001")

-- with as many zeros after it as a switch has bytes
abbrev pub and_zeros : List ℕ → List ℕ
and_zeros bytes = bytes ++ replicate 23 0
