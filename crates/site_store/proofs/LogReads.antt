-- Volumes that were only read: what stood stands, and jobs that failed meanwhile are told.
use Rattle.std.proofs.Common.{◌≡◌, inl, inr, ℕ, ◌+◌, ◌*◌, ◌≤◌, ◌&&◌, Bool, true, false, List, [], ◌∷◌, length, map, nat_le, nat_lt, refl, sym, ap, subst, ◌∙◌, arith}
use Rattle.std.specs.Prelude.{slice_index_or}
use Rattle.std.specs.List.{list_all}
use Rattle.ckd_track.specs.SlotPlaces.{slot_track}
use Rattle.crash_plant.specs.declared.device.Device.{Device}
use Rattle.crash_plant.specs.declared.device.Device.TheVariants.{Control, State, Journal, Volume}
use Rattle.crash_plant.specs.Calls.{IsPart, NoneLent, SameSite}
use Rattle.crash_plant.specs.Choices.{AllFollow, Choice, IsChoice}
use Rattle.crash_plant.specs.Moments.{Follows, IsDurable, PlantState, Same, on}
use Rattle.crash_plant.proofs.Choices.{all_follow, part_cases}
use Rattle.control_set.specs.Marks.{IsMark}
use Rattle.pair_table.specs.declared.row.PairRow.{PairRow}
use Rattle.pending_queue.specs.Groups.{FormedGroup}
use Rattle.image_former.specs.Changes.{changed_through}
use Rattle.xrc_journal.specs.Contents.{content_through}
use Rattle.xrc_journal.specs.Items.{AreItems, Item}
use Rattle.site_store.specs.Exceptions.{Exceptions}
use Rattle.site_means.specs.Images.{Shape, shape_of}
use Rattle.site_means.specs.Meaning.{chosen_in, meaning_in}
use Rattle.site_means.proofs.Goes.{shape_same}
use Rattle.site_store.specs.Logging.{AreItemsOf}
use Rattle.site_store.specs.Sites.{SiteState, has_failed}
use Rattle.site_store.specs.Standing.{AreApplied, FitsPlant, HasLengths, SiteStands, row_has_volume}

-- the site once these jobs have failed
abbrev pub with_failed : List Bool → SiteState → SiteState
with_failed failed site = record site { failed = failed }

module _ (old new : PlantState) (same : SameSite old new) where
  -- ---- numbers

  pub lengths_still : (controls : ℕ) → HasLengths controls old → HasLengths controls new
  lengths_still controls has = record {
    control = omega (arith, has.control, same.lengths Control);
    state = omega (arith, has.state, same.lengths State);
    journals = (omega (arith, has.journals.0, same.journals), omega (arith, has.journals.1, same.journals));
    journal = λ j lt. let long = has.journal j (omega (arith, lt, same.journals)) in omega (arith, long, same.lengths (Journal j));
    volumes = omega (arith, has.volumes, same.volumes);
  }

  has_still : (r : PairRow) → row_has_volume new r ≡ row_has_volume old r
  has_still r = λ i. nat_lt r.device (same.volumes i) && nat_le (512 + r.cylinders * 860160) (same.lengths (Volume r.device) i)

  pub rows_still : (rows : List PairRow) → list_all (row_has_volume new) rows ≡ list_all (row_has_volume old) rows
  rows_still [] = refl
  rows_still (r ∷ rows) = λ i. has_still r i && rows_still rows i

  pub form_still : (items : List Item) → AreItems (shape_of old).form items → AreItems (shape_of new).form items
  form_still items keep = subst (λ (s : Shape). AreItems s.form items) (sym (shape_same old new same)) keep

  -- A site's numbers fit the plant still.
  pub fits_still : (site : SiteState) → NoneLent new → FitsPlant site old → FitsPlant site new
  fits_still site home fits = record {
    home = home;
    controls = fits.controls;
    lengths = lengths_still site.controls fits.lengths;
    rows = rows_still site.table.rows ∙ fits.rows;
    told = rows_still site.told ∙ fits.told;
    mark = subst (λ (s : Shape). IsMark s.lengths site.mark) (sym (shape_same old new same)) fits.mark;
    session = fits.session;
    started = fits.started;
    set = omega (arith, fits.set, same.journals);
    room = omega (arith, fits.room, same.lengths (Journal site.at.set));
    next = fits.next;
    time = fits.time;
    failed = fits.failed ∙ sym same.volumes;
    written = fits.written ∙ sym same.volumes;
    items = form_still site.waiting fits.items;
  }

-- So they do once more jobs have failed.
pub fits_failed : (site : SiteState) (plant : PlantState) (failed : List Bool) → length failed ≡ length site.failed → FitsPlant site plant → FitsPlant (with_failed failed site) plant
fits_failed site plant failed size fits = record {
  home = fits.home;
  controls = fits.controls;
  lengths = fits.lengths;
  rows = fits.rows;
  told = fits.told;
  mark = fits.mark;
  session = fits.session;
  started = fits.started;
  set = fits.set;
  room = fits.room;
  next = fits.next;
  time = fits.time;
  failed = size ∙ fits.failed;
  written = fits.written;
  items = fits.items;
}

-- ---- the items that were formed

-- Where volumes hold the same, the items are those of the group there too.
pub items_still : (tells : Type 0) (group : FormedGroup) (failed : List Bool) (before after : List PairRow) (old new : PlantState) (items : List Item) → SameSite old new → (tells → (d : ℕ) → new.bytes (Volume d) ≡ old.bytes (Volume d))
    → AreItemsOf tells group failed before after old items → AreItemsOf tells group failed before after new items
items_still tells group failed before after old new items same bytes are = record {
  images = are.images;
  pairs = are.pairs;
  parts = are.parts;
  are_images = are.are_images;
  are_pairs = are.are_pairs;
  keep = form_still old new same items are.keep;
  lead = are.lead;
  tracks = are.tracks;
  content = λ told d x within good has.
      subst (λ (l : List ℕ). content_through d x are.images (slot_track l x) ≡ changed_through before d x group.entries (map (λ e. e.kind) group.entries) (slot_track l x)) (sym (bytes told d))
      (are.content told d x (omega (arith, within, same.volumes)) good has);
}

-- ---- what a crash leaves

module _ (old mid : PlantState) (same : SameSite old mid) (bytes : (d : Device) → mid.bytes d ≡ old.bytes d) (moments : (d : Device) → Follows Same (on old d) (on mid d)) (later : old.clock ≤ mid.clock) where
  same_choices : AllFollow (λ b c. c ≡ b) old mid
  same_choices t from to c is =
      let all = all_follow (λ d. Same) old mid same (λ d part. moments d) t from to c is in
      (all.0, all.1, (λ i d. (each d (all.0 d) (c d) (all.2 d)) i))
    where
      each : (d : Device) (b c : List ℕ) → (IsPart old d → c ≡ b) × (¬ IsPart old d → c ≡ b) → c ≡ b
      each d b c is = elim (part_cases old d) [ inl part ↦ is.0 part | inr out ↦ is.1 out ]

  choice_before : (c : Choice) → IsChoice mid mid.clock c → IsChoice old old.clock c
  choice_before c is = let came = same_choices mid.clock later (omega arith) c is in subst (λ (b : Choice). IsChoice old old.clock b) (sym came.2) came.1

  durable_then : (d : Device) → IsDurable (on old d) → IsDurable (on mid d)
  durable_then d durable image left = let came = moments d mid.clock later (omega arith) image left in came.2 ∙ durable came.0 came.1 ∙ sym (bytes d)

  -- What stood stands, once more jobs have failed.
  pub stands_read : (e : Exceptions) (site : SiteState) (failed : List Bool) → ((d : ℕ) → slice_index_or failed d false ≡ false → has_failed site d ≡ false) → ((d : ℕ) → has_failed site d ≡ true → slice_index_or failed d false ≡ true)
      → SiteStands e site old → SiteStands e (with_failed failed site) mid
  stands_read e site failed good bad stands = record {
    walk = stands.walk;
    meant = λ c is. ap (λ (s : Shape). meaning_in s c) (shape_same old mid same) ∙ stands.meant c (choice_before c is);
    chosen = λ c is. ap (λ (s : Shape). chosen_in s c) (shape_same old mid same) ∙ stands.chosen c (choice_before c is);
    at = stands.at;
    last = stands.last;
    control = durable_then Control stands.control;
    state = durable_then State stands.state;
    journals = λ j has. durable_then (Journal j) (stands.journals j has);
    done = stands.done;
    items = stands.items;
    applied = λ d lt fine. subst (λ (l : List ℕ). AreApplied (e d) stands.done d l) (sym (bytes (Volume d))) (stands.applied d (omega (arith, lt, same.volumes)) (good d fine));
    unwritten = λ d lt not x has. elim (stands.unwritten d (omega (arith, lt, same.volumes)) not x has) [
      | inl was ↦ inl (bad d was)
      | inr excepted ↦ inr excepted
    ];
  }
