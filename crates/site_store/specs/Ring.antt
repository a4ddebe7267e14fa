-- A site's walk as one through the ring of data sets, and what images show after a record at its end.
use Rattle.std.specs.Prelude.{◌≡◌, ℕ, ◌++◌, ◌<◌, ◌≤◌, ◌^◌, List, [], ◌∷◌, None}
use Rattle.std.specs.List.{flat_map}
use Rattle.crash_plant.specs.declared.spot.Spot.{Spot}
use Rattle.pair_table.specs.declared.row.PairRow.{PairRow}
use Rattle.xrc_journal.specs.Contents.{content_through}
use Rattle.xrc_journal.specs.Items.{Item}
use Rattle.xrc_journal.specs.Records.{next_set, spot_in}
use Rattle.xrc_journal.specs.Walks.{Logged}
use Rattle.xrc_journal.specs.RingWalks.{WalkPlace, WalkRecord, WalksThrough, journal_images, spot_after_logged, walk_at}
use Rattle.xrc_journal.specs.RingWalks.WalkRecord.{OfGroup, OfSwitch}
use Rattle.site_means.specs.declared.means.Means.{Means}
use Rattle.site_means.specs.Images.{Images, Shape}
use Rattle.site_means.specs.Walk.{Walk, first_unfit, rows_through}
use Rattle.site_means.specs.Laws.{FitRows, and_group, with_group}
use Rattle.site_means.specs.Meaning.{meaning_in}
use Rattle.site_means.specs.Meaning.Meaning.{Meant}
use Rattle.site_means.specs.Sight.{content_in}

-- ---- walks

-- the groups among records, in turn
abbrev pub groups_among : List WalkRecord → List Logged
groups_among [] = []
groups_among (OfGroup g ∷ records) = g ∷ groups_among records
groups_among (OfSwitch time ∷ records) = groups_among records

-- the site's walk that these records lead to a place, with these rows at its start
abbrev pub walk_with : List PairRow → List WalkRecord → (to : WalkPlace) → Walk
walk_with rows records to =
    let groups = groups_among records in
    record { groups = groups; rows = rows_through (flat_map (λ g. g.items) groups) rows; entered = to.entered; at = to.at; last = to.last; bad = None }

-- where a site's walk ends
abbrev pub walk_end : Walk → WalkPlace
walk_end w = walk_at w.entered w.at w.last

-- A site's walk is one through the data sets from this place, with the same end, and its groups are those among the records. They fit
-- the rows.
pub record IsThrough (shape : Shape) (images : Images) (rows : List PairRow) (from : WalkPlace) (w : Walk) : Type 0 where
  pub records : List WalkRecord
  pub walks : WalksThrough shape.form shape.sets (journal_images images) from records (walk_end w)
  pub groups : w.groups ≡ groups_among records
  pub fits : FitRows shape.volumes rows w.groups

-- ---- a record at the end

-- the walk with a switch at its end
abbrev pub and_switch : (time : ℕ) → (after : Spot) → Walk → Walk
and_switch time after w = record { groups = w.groups; rows = w.rows; entered = w.entered ++ after.set ∷ []; at = after; last = time; bad = None }

-- the spot after a switch at a walk's end
abbrev pub switched_from : (sets : ℕ) → Walk → Spot
switched_from sets w = spot_in (next_set sets w.at.set) w.at

-- Images mean this by this walk, and each track has the content that these items leave of what it has in other images.
pub record ShowsAfter (shape : Shape) (items : List Item) (means : Means) (w : Walk) (old new : Images) : Type 0 where
  pub meant : meaning_in shape new ≡ Meant means w
  pub content : (d x : ℕ) → content_in shape new d x ≡ content_through d x items (content_in shape old d x)

-- They show what was meant by this walk.
abbrev pub ShowsSame : Shape → Means → Walk → (old new : Images) → Type 0
ShowsSame shape means w old new = ShowsAfter shape [] means w old new

-- They show a group more: its time, the rows changed by its items, and the content that these leave.
abbrev pub ShowsGroup : Shape → Logged → Means → Walk → (old new : Images) → Type 0
ShowsGroup shape g means w old new = ShowsAfter shape g.items (with_group g means) (and_group g (spot_after_logged g w.at) w) old new

-- They show a switch more: the same is meant, by the walk with it.
abbrev pub ShowsSwitch : Shape → (time : ℕ) → Means → Walk → (old new : Images) → Type 0
ShowsSwitch shape time means w old new = ShowsAfter shape [] means (and_switch time (switched_from shape.sets w) w) old new

-- The group may come after the walk: its time isn't below that of the walk's last record, and its items fit the rows.
pub record FitsAfter (volumes : ℕ) (means : Means) (w : Walk) (g : Logged) : Type 0 where
  pub number : means.from.number < 2 ^ 64
  pub later : w.last ≤ g.time
  pub fits : first_unfit volumes 0 means.table.rows g.items ≡ None
