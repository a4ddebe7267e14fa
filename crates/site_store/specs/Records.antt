-- The site after a record and after a mark, and the devices on which these work.
use Rattle.std.specs.Prelude.{◌≡◌, ◌⊎◌, ℕ, ◌+◌, ◌-◌, ◌^◌, ◌==◌, List, [], length, replicate, Bool, true, false, if◌then◌else◌}
use Rattle.crash_plant.specs.declared.device.Device.{Device}
use Rattle.crash_plant.specs.declared.device.Device.TheVariants.{Control, State, Journal, Volume}
use Rattle.crash_plant.specs.Moments.{Follows, PlantState, Same, on}
use Rattle.pair_table.specs.declared.row.PairRow.{PairRow}
use Rattle.pair_table.specs.Tables.{with_rows}
use Rattle.xrc_journal.specs.Items.{Item}
pub use Rattle.site_means.specs.Answers.{IsStore}
use Rattle.site_store.specs.declared.placement.Placement.{Placement}
use Rattle.site_store.specs.declared.placement.Placement.TheVariants.{Here, Switched, Marked}
use Rattle.site_store.specs.Sites.{SiteState, next_mark, is_written}
use Rattle.site_store.specs.Placements.{spot_after_record}

-- one call more, as far as 32 bits count
abbrev pub one_more : (since : ℕ) → ℕ
one_more since = if since == 2 ^ 32 - 1 then since else since + 1

-- the site after a mark with these rows, once these jobs have failed; nothing waits and no volume was written since
abbrev pub after_mark : (ended : Bool) → (rows : List PairRow) → (failed : List Bool) → SiteState → SiteState
after_mark ended rows failed site = record site {
  table = with_rows site.table rows;
  is_ahead = false;
  told = rows;
  mark = next_mark site ended;
  since = 0;
  waiting = [];
  failed = failed;
  written = replicate (length site.written) false;
}

-- the site after the mark that is made before a record, where one is
abbrev pub after_placement : Placement → SiteState → SiteState
after_placement Here site = site
after_placement Switched site = site
after_placement Marked site = after_mark site.mark.ended site.told site.failed site

-- the site after a record of these items, which was placed so and leaves these rows
abbrev pub after_record : (journals : ℕ) → Placement → (cut : ℕ) → List Item → (rows : List PairRow) → (failed : List Bool) → SiteState → SiteState
after_record journals placement cut items rows failed site = record (after_placement placement site) {
  table = with_rows site.table rows;
  is_ahead = false;
  told = rows;
  time = cut;
  at = spot_after_record journals placement items site.at;
  failed = failed;
}

-- ---- devices

abbrev pub IsVolume : Device → Type 0
IsVolume Control = ⊥
IsVolume State = ⊥
IsVolume (Journal j) = ⊥
IsVolume (Volume v) = Unit {0}

-- the devices on which a mark works: control, state, and the volumes that were written since the last one
abbrev pub IsOfMark : SiteState → Device → Type 0
IsOfMark site Control = Unit {0}
IsOfMark site State = Unit {0}
IsOfMark site (Journal j) = ⊥
IsOfMark site (Volume v) = is_written site v ≡ true

abbrev pub IsJournal : Device → Type 0
IsJournal Control = ⊥
IsJournal State = ⊥
IsJournal (Journal j) = Unit {0}
IsJournal (Volume v) = ⊥

-- the devices on which a record works, with the switch and the mark that may come before it
abbrev pub IsOfRecord : SiteState → Device → Type 0
IsOfRecord site d = IsJournal d ⊎ IsOfMark site d

-- Each volume holds what it held, and at every moment a crash leaves on it what it could leave before.
pub record VolumesStay (tells : Type 0) (old new : PlantState) : Type 0 where
  pub bytes : tells → (d : ℕ) → new.bytes (Volume d) ≡ old.bytes (Volume d)
  pub images : tells → (d : ℕ) → Follows Same (on old (Volume d)) (on new (Volume d))
