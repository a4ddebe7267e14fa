-- The jobs and buffers that a site keeps.
use Rattle.std.specs.Prelude.{◌≡◌, ℕ, suc, ◌+◌, ◌*◌, ◌==◌, ◌&&◌, List, [], ◌∷◌, Bool, true, false, is_none, IsTrue, slice_index_or, length}
use Rattle.std.specs.List.{list_any}
use Rattle.crash_plant.specs.declared.spot.Spot.{Spot}
use Rattle.xrc_journal.specs.declared.layout.TheConstants.{OF_CONTROL}
use Rattle.xrc_journal.specs.Items.{Item}
use Rattle.xrc_journal.specs.Items.Item.{Image, Delta, Pair, Gone}
use Rattle.xrc_journal.specs.declared.job.VolumeJob.{VolumeJob}
pub use Rattle.xrc_journal.specs.Jobs.{has_job_failed}

-- Each job is that of the volume at its place, which isn't lent.
abbrev pub are_home_from : {V : Type 0} → (first : ℕ) → List (VolumeJob V) → Bool
are_home_from first [] = true
are_home_from first (job ∷ jobs) = job.device == first && is_none job.disk && are_home_from (suc first) jobs

-- the most bytes of a record's body in a site of so many controllers: what its journals need, but for a record's header, its gate and a
-- switch
abbrev pub body_room : (controls : ℕ) → ℕ
body_room controls = 8146 + controls * OF_CONTROL

-- whether an item is of a track of a device
abbrev pub is_of_device : (device : ℕ) → Item → Bool
is_of_device device (Image d x recs) = d == device
is_of_device device (Delta d x kind) = d == device
is_of_device device (Pair version row) = false
is_of_device device (Gone d) = false

abbrev pub has_device : (device : ℕ) → List Item → Bool
has_device device items = list_any (is_of_device device) items

-- The jobs of a site are sound: its body has room for the largest record, the journal is marked where the mark says, the rows that the devices
-- tell are of the table's session, the jobs are at home, and where the body's items wait it knows for which volumes.
pub record AreJobsSound {V : Type 0} (controls room : ℕ) (at marked : Spot) (session told : List ℕ) (waits : Bool) (items : List Item) (due : List Bool) (jobs : List (VolumeJob V)) : Type 0 where
  pub room_is : room ≡ body_room controls
  pub marked_is : marked ≡ at
  pub told_is : told ≡ session
  pub home : IsTrue (are_home_from 0 jobs)
  pub flags : length due ≡ length jobs
  pub due_is : IsTrue waits → (d : ℕ) → slice_index_or due d false ≡ has_device d items
