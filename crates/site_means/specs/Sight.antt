-- What is seen of images: their meaning, and the content of each track by the items of their walk.
use Rattle.std.specs.Prelude.{ℕ, List, [], Option, Some, None}
use Rattle.ckd_track.specs.declared.rec.Rec.{Rec}
use Rattle.ckd_track.specs.SlotPlaces.{slot_track}
use Rattle.crash_plant.specs.declared.device.Device.TheVariants.{Volume}
use Rattle.crash_plant.specs.Moments.{PlantState}
use Rattle.xrc_journal.specs.Items.{Item}
use Rattle.xrc_journal.specs.Contents.{content_through}
use Rattle.site_means.specs.declared.means.Means.{Means}
use Rattle.site_means.specs.Images.{Images, Shape, shape_of}
use Rattle.site_means.specs.Walk.{walk_items}
use Rattle.site_means.specs.Meaning.{Meaning, meaning_in}
use Rattle.site_means.specs.Meaning.Meaning.{NoMark, DamagedAt, Meant}

-- what is meant, if anything is
abbrev pub meant_by : Meaning → Option Means
meant_by NoMark = None
meant_by (DamagedAt device place) = None
meant_by (Meant means walk) = Some means

-- the items of the walk by which it is meant
abbrev pub walked_by : Meaning → List Item
walked_by NoMark = []
walked_by (DamagedAt device place) = []
walked_by (Meant means walk) = walk_items walk

-- what images mean, if anything
abbrev pub means_in : Shape → Images → Option Means
means_in shape images = meant_by (meaning_in shape images)

-- the content of a track of a device: what its slot holds, changed by the walk's items in turn
abbrev pub content_in : Shape → Images → (device track : ℕ) → Option (List Rec)
content_in shape images device track = content_through device track (walked_by (meaning_in shape images)) (slot_track (images (Volume device)) track)

-- the same of images of a plant
abbrev pub means_of : PlantState → Images → Option Means
means_of plant images = means_in (shape_of plant) images

abbrev pub walked : PlantState → Images → List Item
walked plant images = walked_by (meaning_in (shape_of plant) images)

abbrev pub content_of : PlantState → Images → (device track : ℕ) → Option (List Rec)
content_of plant images device track = content_in (shape_of plant) images device track
