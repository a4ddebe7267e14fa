-- A record of rows alone: the deed that it is, and the site after it, over plain states.
use Rattle.std.proofs.Common.{◌≡◌, ℕ, ◌++◌, List, [], append-nil, sym, ap, subst, ◌∙◌}
use Rattle.ckd_track.specs.SlotPlaces.{slot_track}
use Rattle.crash_plant.specs.declared.device.Device.TheVariants.{Volume}
use Rattle.crash_plant.specs.Moments.{PlantState}
use Rattle.pair_table.specs.declared.row.PairRow.{PairRow}
use Rattle.record_rows.specs.Deeds.Deed.{Changed}
use Rattle.site_store.specs.Deeds.{with_time_and_rows}
use Rattle.site_store.specs.Exceptions.{Exceptions}
use Rattle.site_means.specs.Sight.{content_of}
use Rattle.xrc_journal.specs.Items.{Item}
use Rattle.site_store.specs.declared.placement.Placement.{Placement}
use Rattle.site_store.specs.Changing.{Lead}
use Rattle.site_store.specs.Sites.{SiteState, meant_for}
use Rattle.site_store.specs.Standing.{SiteStands}
use Rattle.site_store.proofs.LogPut.{MakesDeed, site_after}
use Rattle.site_store.proofs.RowItems.{AreRowItems, content_before, content_still, item_before}

-- the site after the record of these items, which leaves these rows
abbrev pub with_logged_rows : (journals : ℕ) → Placement → (cut : ℕ) → List Item → List PairRow → SiteState → SiteState
with_logged_rows journals placement cut items rows site = site_after journals placement cut items rows site.since site.waiting site

-- Items of rows alone that lead from the rows on the devices to these are a change of them.
pub rows_make : (tells : Type 0) (cut : ℕ) (site : SiteState) (plant : PlantState) (items : List Item) (rows : List PairRow) → AreRowItems items → Lead plant.volumes items site.told rows → MakesDeed tells (Changed cut rows) cut site rows plant items
rows_make tells cut site plant items rows are lead = record {
  lead = lead.leads;
  fit = lead.fit;
  same = ap (λ (l : List PairRow). with_time_and_rows cut l (meant_for site)) (sym lead.leads);
  leaves = λ told e stands read b here d x lt kept. (b, here, content_still d x items (content_of plant b d x) are);
}

-- They needn't wait: they leave each volume as it is.
pub rows_stand : (e : Exceptions) (sets : ℕ) (placement : Placement) (cut : ℕ) (items : List Item) (rows : List PairRow) (site : SiteState) (new : PlantState) → AreRowItems items → site.waiting ≡ [] → SiteStands e (site_after sets placement cut items rows site.since items site) new
    → SiteStands e (with_logged_rows sets placement cut items rows site) new
rows_stand e sets placement cut items rows site new are idle stands = subst (λ (waiting : List Item). SiteStands e (site_after sets placement cut items rows site.since waiting site) new) (sym idle) (record {
  walk = stands.walk;
  meant = stands.meant;
  chosen = stands.chosen;
  at = stands.at;
  last = stands.last;
  control = stands.control;
  state = stands.state;
  journals = stands.journals;
  done = stands.done ++ items;
  items = stands.items ∙ sym (append-nil (stands.done ++ items));
  applied = λ d lt good x kept. stands.applied d lt good x kept ∙ sym (content_before d x stands.done items (slot_track (new.bytes (Volume d)) x) are);
  unwritten = λ d lt not x has. stands.unwritten d lt not x (item_before d x stands.done items are has);
})
