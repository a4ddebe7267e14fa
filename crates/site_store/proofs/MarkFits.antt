-- A site's numbers fit the plant after calls and after a mark.
use Rattle.std.proofs.Common.{◌≡◌, ℕ, ◌+◌, ◌*◌, ◌-◌, ◌^◌, ◌≤◌, ◌<◌, ◌&&◌, Bool, true, false, nat_lt, nat_le, List, [], length, replicate, slice_index, refl, sym, ap, subst, ◌∙◌, arith, IsTrue}
use Rattle.std.specs.List.{list_all}
use Rattle.std.proofs.lemmas.List.{length-replicate}
use Rattle.crash_plant.specs.declared.device.Device.{Device}
use Rattle.crash_plant.specs.declared.device.Device.TheVariants.{Control, State, Journal, Volume}
use Rattle.crash_plant.specs.Calls.{IsPart, IsThere, NoneLent, SameSite}
use Rattle.crash_plant.specs.Choices.{IsChoice}
use Rattle.crash_plant.specs.Moments.{PlantState}
use Rattle.control_set.specs.Marks.{IsMark}
use Rattle.control_set.specs.Slots.{lengths_of}
use Rattle.control_set.proofs.Lengths.{at_is, count_is, same_lengths}
use Rattle.pair_table.specs.declared.row.PairRow.{PairRow}
use Rattle.pair_table.specs.Tables.{Table}
use Rattle.xrc_journal.specs.Items.{AreItems, Form}
use Rattle.xrc_journal.proofs.Appends.{same_form}
use Rattle.site_store.specs.Sites.{SiteState, next_mark}
use Rattle.site_store.specs.Standing.{FitsPlant, HasLengths, row_has_volume}

-- ---- after calls

pub lengths_still : (controls : ℕ) (old new : PlantState) → SameSite old new → HasLengths controls old → HasLengths controls new
lengths_still controls old new same lengths = record {
  control = omega (arith, lengths.control, same.lengths Control);
  state = omega (arith, lengths.state, same.lengths State);
  journals = (omega (arith, lengths.journals.0, same.journals), omega (arith, lengths.journals.1, same.journals));
  journal = λ j there. omega (arith, lengths.journal j (omega (arith, there, same.journals)), same.lengths (Journal j));
  volumes = omega (arith, lengths.volumes, same.volumes);
}

pub rows_still : (old new : PlantState) → SameSite old new → (rows : List PairRow) → IsTrue (list_all (row_has_volume old) rows) → IsTrue (list_all (row_has_volume new) rows)
rows_still old new same rows have = subst (λ (x : Type 0). x) (λ i. IsTrue (list_all (λ row. nat_lt row.device (sym same.volumes i) && nat_le (512 + row.cylinders * 860160) (sym (same.lengths (Volume row.device)) i)) rows)) have

-- Where numbers and lengths stay the fit does, also once more jobs have failed.
pub site_fits : (site : SiteState) (failed : List Bool) (old new : PlantState) → SameSite old new → NoneLent new → length failed ≡ length site.failed → FitsPlant site old → FitsPlant (record site { failed = failed }) new
site_fits site failed old new same home size fits = record {
  home = home;
  controls = fits.controls;
  lengths = lengths_still site.controls old new same fits.lengths;
  rows = rows_still old new same site.table.rows fits.rows;
  told = rows_still old new same site.told fits.told;
  mark = subst (λ (l : List ℕ). IsMark l site.mark) (sym (same_lengths old new same)) fits.mark;
  session = fits.session;
  started = fits.started;
  set = omega (arith, fits.set, same.journals);
  room = omega (arith, fits.room, same.lengths (Journal site.at.set));
  next = fits.next;
  time = fits.time;
  failed = size ∙ fits.failed ∙ sym same.volumes;
  written = fits.written ∙ sym same.volumes;
  items = subst (λ (f : Form). AreItems f site.waiting) (sym (same_form old new same)) fits.items;
}

-- ---- after a mark

-- A spot of the plant is one by the lengths of its journals.
spot_is : (plant : PlantState) (set place : ℕ) → set < plant.journals → place + 24 ≤ plant.lengths (Journal set) → (set < length (lengths_of plant)) × (place + 24 ≤ slice_index (lengths_of plant) set)
spot_is plant set place there room =
    let count = count_is (λ j. plant.lengths (Journal j)) 0 plant.journals in
    let size : slice_index (lengths_of plant) set ≡ plant.lengths (Journal set) = at_is (λ j. plant.lengths (Journal j)) 0 plant.journals set there ∙ ap (λ (k : ℕ). plant.lengths (Journal k)) (omega arith) in
    (omega (arith, there, count), omega (arith, room, size))

-- The next mark keeps the table of a mark.
pub next_is_mark : (site : SiteState) (ended : Bool) (plant : PlantState) → FitsPlant site plant → site.mark.number < 2 ^ 64 - 2 → IsMark (lengths_of plant) (next_mark site ended)
next_is_mark site ended plant f lt =
    let spot = spot_is plant site.at.set site.at.place f.set f.room in
    record { number = omega arith; most = omega (arith, lt); state_slot = omega arith; set = spot.0; room = spot.1; next = f.next; time = f.time }

-- the site after a mark with these rows, and this table in memory
abbrev pub marked_with : (ended : Bool) → Table → (ahead : Bool) → (rows : List PairRow) → SiteState → SiteState
marked_with ended table ahead rows site = record site {
  table = table;
  is_ahead = ahead;
  told = rows;
  mark = next_mark site ended;
  since = 0;
  waiting = [];
  written = replicate (length site.written) false;
}

pub mark_fits : (site : SiteState) (ended ahead : Bool) (table : Table) (rows : List PairRow) (plant : PlantState) → FitsPlant site plant → site.mark.number < 2 ^ 64 - 2
    → table.session ≡ site.table.session → table.is_started ≡ true → IsTrue (list_all (row_has_volume plant) table.rows) → IsTrue (list_all (row_has_volume plant) rows) → FitsPlant (marked_with ended table ahead rows site) plant
mark_fits site ended ahead table rows plant f lt session started have told = record {
  home = f.home;
  controls = f.controls;
  lengths = f.lengths;
  rows = have;
  told = told;
  mark = next_is_mark site ended plant f lt;
  session = sym session;
  started = started;
  set = f.set;
  room = f.room;
  next = f.next;
  time = f.time;
  failed = f.failed;
  written = length-replicate (length site.written) false ∙ f.written;
  items = refl;
}

-- ---- what reads give

-- A part of the plant is there where no volume is lent.
part_there : (plant : PlantState) (d : Device) → NoneLent plant → IsPart plant d → IsThere plant d
part_there plant Control home part = tt
part_there plant State home part = tt
part_there plant (Journal j) home part = part
part_there plant (Volume v) home part = (part, home v part)

-- It is a choice.
pub reads_choice : (plant : PlantState) → NoneLent plant → ((d : Device) → IsThere plant d → plant.images plant.clock d (plant.bytes d)) → IsChoice plant plant.clock plant.bytes
reads_choice plant home read d part = read d (part_there plant d home part)
