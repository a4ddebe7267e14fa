-- A site as its callers see it.
use Rattle.std.specs.Prelude.{ℕ, ◌+◌, ◌-◌, List, [], replicate, Bool, false, nat_le, slice_index_or}
use Rattle.tod_stamp.specs.declared.stamp.Stamp.{Stamp}
use Rattle.crash_plant.specs.declared.spot.Spot.{Spot}
use Rattle.control_set.specs.declared.value.Mark.{Mark}
use Rattle.pair_table.specs.declared.level.Level.{Level}
use Rattle.pair_table.specs.declared.row.PairRow.{PairRow}
use Rattle.pair_table.specs.Tables.{Table}
use Rattle.state_set.specs.Slots.{started_table}
use Rattle.xrc_journal.specs.Items.{Item}
use Rattle.site_means.specs.declared.means.Means.{Means}

-- what a site is to its callers
pub record SiteState : Type 0 where
  -- the number of controllers that it was made for
  pub controls : ℕ
  pub level : Level
  -- the session's pairs, in memory
  pub table : Table
  -- whether a change of them waits to be logged
  pub is_ahead : Bool
  -- the rows that the devices tell: those of the table, unless a change waits
  pub told : List PairRow
  -- the time of the last record, else of the mark
  pub time : ℕ
  -- the mark that counts
  pub mark : Mark
  -- the spot of the next record
  pub at : Spot
  -- how often a group was logged since the mark
  pub since : ℕ
  -- the items of the last group, where these wait to be applied
  pub waiting : List Item
  -- of each volume, whether its job has failed, and whether it was written since the mark
  pub failed : List Bool
  pub written : List Bool

-- whether the job of a volume has failed
abbrev pub has_failed : SiteState → (device : ℕ) → Bool
has_failed site device = slice_index_or site.failed device false

-- whether a volume was written since the mark
abbrev pub is_written : SiteState → (device : ℕ) → Bool
is_written site device = slice_index_or site.written device false

-- whether a mark is due: a group was logged since the last one
abbrev pub is_mark_due : SiteState → Bool
is_mark_due site = nat_le 1 site.since

-- what the devices are to mean for the site
abbrev pub meant_for : SiteState → Means
meant_for site = record {
  session = site.table.session;
  level = site.level;
  time = record { 0 = site.time };
  table = started_table site.table.session site.told;
  from = site.mark.at;
  ended = site.mark.ended;
}

-- ---- the first mark, and the next one

abbrev pub first_spot : Spot
first_spot = record { set = 0; place = 0; number = 1 }

-- the mark with which a session starts at a time
abbrev pub first_mark : (session : List ℕ) → (at : Stamp) → Mark
first_mark session at = record { number = 1; session = session; state_slot = 0; at = first_spot; time = at; ended = false }

-- a site that has started, with so many volumes
abbrev pub new_site : (controls volumes : ℕ) → (session : List ℕ) → Level → (at : Stamp) → SiteState
new_site controls volumes session level at = record {
  controls = controls;
  level = level;
  table = started_table session [];
  is_ahead = false;
  told = [];
  time = at.0;
  mark = first_mark session at;
  at = first_spot;
  since = 0;
  waiting = [];
  failed = replicate volumes false;
  written = replicate volumes false;
}

-- The next mark: one number more, the other state slot, and the spot of the next record.
abbrev pub next_mark : SiteState → (ended : Bool) → Mark
next_mark site ended = record {
  number = site.mark.number + 1;
  session = site.table.session;
  state_slot = 1 - site.mark.state_slot;
  at = site.at;
  time = record { 0 = site.time };
  ended = ended;
}
