-- A group's record formed, alone or after a mark that is made first, over plain states.
use Rattle.std.proofs.Common.{◌≡◌, ◌≢◌, inl, inr, ℕ, ◌+◌, ◌*◌, ◌-◌, ◌^◌, ◌≤◌, ◌<◌, ◌==◌, Bool, true, false, cond, ◌||◌, List, [], ◌∷◌, length, get_or, None, Some, Ok, Err, Result, refl, sym, ap, subst, ◌∙◌, arith}
use Rattle.std.specs.Prelude.{find, IsErrOf, IsSomeAnd, OnOk, if◌then◌else◌}
use Rattle.std.specs.List.{All, list_all, list_any}
use Rattle.std.proofs.lemmas.Bool.{eqb-false, leb-false, leb-true, ltb-false}
use Rattle.crash_plant.specs.declared.device.Device.TheVariants.{Control, Journal, Volume}
use Rattle.crash_plant.specs.declared.spot.Spot.{Spot}
use Rattle.crash_plant.specs.Calls.{NoneLent, WorksOn}
use Rattle.crash_plant.specs.Moments.{PlantState}
use Rattle.applier.specs.Returns.{OnlyReads, WorksOnLent}
use Rattle.applier.proofs.Works.{lent_of_works, works_lent_more, works_lent_trans}
use Rattle.pair_table.specs.declared.row.PairRow.{PairRow}
use Rattle.pair_table.specs.declared.row.SuspendCause.TheVariants.{Device as ByDevice}
use Rattle.pair_table.specs.Devices.{is_among}
use Rattle.pair_table.specs.Tables.{in_state}
use Rattle.pending_queue.specs.declared.head.EntryHead.{EntryHead}
use Rattle.pending_queue.specs.Entries.{WaitingEntry}
use Rattle.pending_queue.specs.Groups.{FormedGroup}
use Rattle.image_former.specs.Entries.{is_device, is_row_of, row_device}
use Rattle.row_changes.specs.Changes.{since}
use Rattle.xrc_journal.specs.Items.{Item, body_spelling}
use Rattle.xrc_journal.specs.Records.{next_set}
use Rattle.record_rows.specs.Deeds.{Deed}
use Rattle.record_rows.specs.Deeds.Deed.{Logged, Marked}
use Rattle.record_rows.specs.Hits.{hit_now, is_down, rows_marked}
use Rattle.record_rows.specs.Records.{rows_with_record}
use Rattle.record_rows.specs.ToldRows.{AreTold}
use Rattle.site_store.specs.DoneDeeds.{DoesDeeds}
use Rattle.site_store.specs.Exceptions.{Exceptions, excepted_by_deed}
use Rattle.site_store.proofs.ComesFirst.{ComesFirst}
use Rattle.site_store.proofs.Composing.{go_on}
use Rattle.site_store.proofs.Moments.{have_begun, more_follow}
use Rattle.site_means.specs.Walk.{first_unfit}
use Rattle.site_store.specs.declared.store_error.StoreError.{StoreError}
use Rattle.site_store.specs.declared.store_error.StoreError.TheVariants.{Spent}
use Rattle.site_store.specs.declared.placement.Placement.{Placement}
use Rattle.site_store.specs.declared.placement.Placement.TheVariants.{Here, Switched, Marked as MarkedFirst}
use Rattle.site_store.specs.Causes.{FailByCounts}
use Rattle.site_store.specs.Jobs.{body_room}
use Rattle.site_store.specs.Logging.{AreItemsOf, FailByEntries, FailedBetween, HasEntryOn, FormsFirst, IsOfLog, IsOfSomeRow, LogsBy, LogsGroup, is_entry_of_device, failed_before, log_deeds, rows_before, rows_logged}
use Rattle.site_store.specs.Marking.{MakesMark}
use Rattle.site_store.specs.Recording.{HasRoomBy}
use Rattle.site_store.specs.Records.{IsOfMark, after_mark, after_record, after_placement, one_more}
use Rattle.site_store.specs.Sites.{SiteState}
use Rattle.site_store.specs.Standing.{FitsPlant, HasLengths, Leaves, SiteStands, none_excepted, row_has_volume}
use Rattle.site_store.specs.Placements.{is_spent, most, record_has_room, record_needs_more, placement_from, placement_of}
use Rattle.site_store.proofs.LogFails.{fails_between, stays_failed, was_good}
use Rattle.site_store.proofs.LogContent.{group_leaves, items_lead, logged_means}
use Rattle.site_store.proofs.LogPut.{logged_site}
use Rattle.site_store.proofs.LogReads.{fits_failed, fits_still, items_still, rows_still, stands_read, with_failed}
use Rattle.site_store.proofs.LogRows.{kept_good}
use Rattle.site_store.proofs.LogStage.{IsGroupReady, PutStage, site_back, stands_more}
use Rattle.site_store.proofs.RecordPuts.{on_ok}
use Rattle.site_store.proofs.MarkFirst.{begins_after_none, does_after_none, first_begins, fits_front, mark_begins, mark_does, next_there, reads_do}

-- ---- the record's room

pub record HasPlace (plant : PlantState) (placement : Placement) (from at : Spot) (items : List Item) : Type 0 where
  pub room : HasRoomBy plant placement from at items
  pub number : at.number ≤ 2 ^ 64 - 2

-- By a placement without a mark the record has room, and a number.
pub plain_place : (controls mark : ℕ) (plant : PlantState) (at from : Spot) (items : List Item) (placement : Placement) → HasLengths controls plant → at.set < plant.journals → length (body_spelling items) ≤ body_room controls → placement ≡ placement_from plant at from items → placement ≢ MarkedFirst
    → record_needs_more placement at.number mark ≡ false → HasPlace plant placement from at items
plain_place controls mark plant at from items placement lengths there short placement_is plain enough = by_room (record_has_room plant at items) refl placement_is
  where
    place_at : (w : Placement) → placement ≡ w → HasPlace plant w from at items → HasPlace plant placement from at items
    place_at w is place = subst (λ (v : Placement). HasPlace plant v from at items) (sym is) place

    number_at : (w : Placement) → placement ≡ w → record_needs_more w at.number mark ≡ false
    number_at w is = subst (λ (v : Placement). record_needs_more v at.number mark ≡ false) is enough

    by_next : record_has_room plant at items ≡ false → (b : Bool) → (next_set plant.journals at.set == from.set) ≡ b → placement ≡ (if b then MarkedFirst else Switched) → HasPlace plant placement from at items
    by_next full true same is = absurd (plain is)
    by_next full false apart is =
        let less = leb-false most at.number (number_at Switched is) in
        place_at Switched is (record {
          room = record {
            free = eqb-false (next_set plant.journals at.set) from.set apart;
            room = fits_front controls plant items (next_set plant.journals at.set) lengths (next_there plant.journals at.set there) short;
            number = omega (arith, less);
          };
          number = omega (arith, less);
        })

    by_room : (b : Bool) → record_has_room plant at items ≡ b → placement ≡ (if b then Here else (if next_set plant.journals at.set == from.set then MarkedFirst else Switched)) → HasPlace plant placement from at items
    by_room true has is =
        let long = leb-true (at.place + 22 + length (body_spelling items) + 24) (plant.lengths (Journal at.set)) has in
        let low = ltb_low at.number (number_at Here is) in
        place_at Here is (record { room = omega (arith, long); number = low })
      where
        ltb_low : (n : ℕ) → record_needs_more Here n mark ≡ false → n ≤ 2 ^ 64 - 2
        ltb_low n is = ltb-false most n is
    by_room false full is = by_next full (next_set plant.journals at.set == from.set) refl is

-- ---- the record that was formed

module _ (tells : Type 0) (group : FormedGroup) (site : SiteState) (old mid : PlantState) (failed : List Bool) (items : List Item) (after : List PairRow) (fits : FitsPlant site old) (idle : site.waiting ≡ []) (late : site.time ≤ group.cut.0)
    (are : AreItemsOf tells group failed site.told after old items) (fit : first_unfit old.volumes 0 site.told items ≡ None) (have : list_all (row_has_volume old) after ≡ true) (told_by : AreTold failed group.cut.0 site.told after)
    (works : WorksOnLent tells (λ device. (d : ℕ) × (device ≡ Volume d) × HasEntryOn site.table.rows group.entries d) old mid) (reads : OnlyReads tells old mid) (home : NoneLent mid) (fails : FailByCounts site.failed failed old.faults mid.faults)
    (short : length (body_spelling items) ≤ body_room site.controls) where
  -- The site's numbers fit the plant then.
  pub fits_formed : FitsPlant (with_failed failed site) mid
  fits_formed = fits_failed site mid failed fails.size (fits_still old mid works.site site home fits)

  -- It is ready, where it has room.
  pub formed_ready : (placement : Placement) → HasPlace mid placement site.mark.at site.at items → IsGroupReady tells group placement (with_failed failed site) after mid items
  formed_ready placement place =
      let last = with_failed failed site in
      let are_there : AreItemsOf tells group failed site.told after mid items = items_still tells group failed site.told after old mid items works.site (λ told d. reads.bytes told (Volume d)) are in
      record {
        place = record { fits = fits_formed; idle = idle; late = late; keep = are_there.keep; have = rows_still old mid works.site after ∙ have; room = place.room; number = place.number; short = omega (arith, short, fits.controls.1) };
        items_are = are_there;
        makes = record {
          lead = items_lead tells group last after mid items are_there;
          fit = ap (λ (n : ℕ). first_unfit n 0 site.told items) works.site.volumes ∙ fit;
          same = logged_means tells group last after mid items are_there;
          leaves = λ told e stands read. group_leaves tells group last after mid items are_there told e stands idle read (λ d is. kept_good failed group.cut.0 d site.told after told_by is);
        };
      }

  -- What stood stands.
  pub formed_stands : tells → (e : Exceptions) → SiteStands e site old → SiteStands e (with_failed failed site) mid
  formed_stands told e stands =
      stands_read old mid works.site (reads.bytes told) (reads.moments told) ((works.elapses told).kept Control).later e site failed (was_good site.failed failed old.faults mid.faults fails) (stays_failed site.failed failed old.faults mid.faults fails) stands

-- ---- without a mark

plain_before : (placement : Placement) (site : SiteState) (early : List Bool) → placement ≢ MarkedFirst → site.told ≡ rows_before placement site early
plain_before Here site early plain = refl
plain_before Switched site early plain = refl
plain_before MarkedFirst site early plain = absurd (plain refl)

plain_after : (placement : Placement) (site : SiteState) (group : FormedGroup) (early failed : List Bool) → placement ≢ MarkedFirst → rows_with_record site.level group failed site.told ≡ rows_logged placement site group early failed
plain_after Here site group early failed plain = refl
plain_after Switched site group early failed plain = refl
plain_after MarkedFirst site group early failed plain = absurd (plain refl)

plain_deeds : (placement : Placement) (site : SiteState) (group : FormedGroup) (early failed : List Bool) → placement ≢ MarkedFirst → (let deed : Deed = Logged group.cut.0 group.entries (rows_with_record site.level group failed site.told) in deed ∷ [] ≡ log_deeds placement site group early failed)
plain_deeds Here site group early failed plain = refl
plain_deeds Switched site group early failed plain = refl
plain_deeds MarkedFirst site group early failed plain = absurd (plain refl)

plain_failed : (placement : Placement) (site : SiteState) (early : List Bool) → placement ≢ MarkedFirst → site.failed ≡ failed_before placement site early
plain_failed Here site early plain = refl
plain_failed Switched site early plain = refl
plain_failed MarkedFirst site early plain = absurd (plain refl)

plain_next : (placement : Placement) (sets cut : ℕ) (site : SiteState) (items : List Item) (after : List PairRow) (failed : List Bool) → placement ≢ MarkedFirst
    → logged_site sets placement cut items after (one_more site.since) (with_failed failed site) ≡ record (after_record sets placement cut items after failed site) { since = one_more (after_placement placement site).since; waiting = items }
plain_next Here sets cut site items after failed plain = refl
plain_next Switched sets cut site items after failed plain = refl
plain_next MarkedFirst sets cut site items after failed plain = absurd (plain refl)

module _ (tells : Type 0) (group : FormedGroup) (placement : Placement) (site : SiteState) (old mid : PlantState) (failed : List Bool) (items : List Item) (plain : placement ≢ MarkedFirst)
    (works : WorksOnLent tells (λ device. (d : ℕ) × (device ≡ Volume d) × HasEntryOn site.table.rows group.entries d) old mid) (reads : OnlyReads tells old mid) (fails : FailByCounts site.failed failed old.faults mid.faults)
    (enters : FailByEntries site.table.rows group.entries site.failed failed) (ready : IsGroupReady tells group placement (with_failed failed site) (rows_with_record site.level group failed site.told) mid items)
    (stands : tells → (e : Exceptions) → SiteStands e site old → SiteStands e (with_failed failed site) mid) where
  reads_first : ComesFirst tells [] site (with_failed failed site) old mid
  reads_first = record { does = λ told e stood. reads_do tells _ old mid works reads told e site.told; stands = stands; after = stands; rows = refl }

  pub plain_stage : PutStage tells group placement site (with_failed failed site) (rows_with_record site.level group failed site.told) old mid items
  plain_stage = record {
    ready = ready;
    early = failed;
    early_failed = record { before = stays_failed site.failed failed old.faults mid.faults fails; after = λ d is. is };
    by_entries = subst (λ (f : List Bool). FailByEntries site.table.rows group.entries f failed) (plain_failed placement site failed plain) enters;
    before_is = plain_before placement site failed plain;
    after_is = plain_after placement site group failed failed plain;
    bytes = λ told d. reads.bytes told (Volume d);
    next_is = λ sets. plain_next placement sets group.cut.0 site items (rows_with_record site.level group failed site.told) failed plain;
    first = [];
    before = reads_first;
    deeds_are = plain_deeds placement site group failed failed plain;
    works = works_lent_more tells _ (IsOfLog site group) old mid (λ d is. inr is) works;
  }

-- ---- entries after a mark

-- A mark leaves the device of an entry's row.
marked_row_device : (head : EntryHead) (hit : List ℕ) (time : ℕ) (rows : List PairRow) → row_device (find (is_row_of head) (rows_marked time hit rows)) ≡ row_device (find (is_row_of head) rows)
marked_row_device head hit time [] = refl
marked_row_device head hit time (r ∷ rows) = by_among (is_among r.device hit) (marked_row_device head hit time rows)
  where
    by_here : (s : PairRow) → s.device ≡ r.device → (here : Bool) → row_device (find (is_row_of head) (rows_marked time hit rows)) ≡ row_device (find (is_row_of head) rows)
        → row_device (cond here (Some s) (find (is_row_of head) (rows_marked time hit rows))) ≡ row_device (cond here (Some r) (find (is_row_of head) rows))
    by_here s same true more = ap Some same
    by_here s same false more = more

    by_among : (b : Bool) → row_device (find (is_row_of head) (rows_marked time hit rows)) ≡ row_device (find (is_row_of head) rows)
        → row_device (find (is_row_of head) (cond b (in_state (since ByDevice time) r) r ∷ rows_marked time hit rows)) ≡ row_device (find (is_row_of head) (r ∷ rows))
    by_among true more = by_here (in_state (since ByDevice time) r) refl (is_row_of head r) more
    by_among false more = by_here r refl (is_row_of head r) more

has_on_still : (hit : List ℕ) (time : ℕ) (rows : List PairRow) (entries : List WaitingEntry) (d : ℕ) → list_any (is_entry_of_device (rows_marked time hit rows) d) entries ≡ list_any (is_entry_of_device rows d) entries
has_on_still hit time rows [] d = refl
has_on_still hit time rows (e ∷ entries) d = λ i. is_device d (marked_row_device e.head hit time rows i) || has_on_still hit time rows entries d i

-- What has an entry after a mark has it before.
pub entry_before : (early : List Bool) (site marked_site : SiteState) (entries : List WaitingEntry) → site.told ≡ site.table.rows → marked_site ≡ after_mark site.mark.ended (rows_before MarkedFirst site early) early site → (d : ℕ) → HasEntryOn marked_site.table.rows entries d → HasEntryOn site.table.rows entries d
entry_before early site marked_site entries told_is is d has =
    ap (λ (rows : List PairRow). list_any (is_entry_of_device rows d) entries) (sym told_is) ∙ sym (has_on_still (hit_now early site.told) site.time site.told entries d)
    ∙ sym (ap (λ (s : SiteState). list_any (is_entry_of_device s.table.rows d) entries) is) ∙ has

-- A mark leaves the cylinders of an entry's row.
marked_row_within : (head : EntryHead) (hit : List ℕ) (time : ℕ) (rows : List PairRow) → IsSomeAnd (find (is_row_of head) rows) (λ row. head.track < row.cylinders * 15) → IsSomeAnd (find (is_row_of head) (rows_marked time hit rows)) (λ row. head.track < row.cylinders * 15)
marked_row_within head hit time [] within = within
marked_row_within head hit time (r ∷ rows) within = by_among (is_among r.device hit) (marked_row_within head hit time rows)
  where
    by_here : (s : PairRow) → s.cylinders ≡ r.cylinders → (here : Bool) → IsSomeAnd (cond here (Some r) (find (is_row_of head) rows)) (λ row. head.track < row.cylinders * 15)
        → (IsSomeAnd (find (is_row_of head) rows) (λ row. head.track < row.cylinders * 15) → IsSomeAnd (find (is_row_of head) (rows_marked time hit rows)) (λ row. head.track < row.cylinders * 15))
        → IsSomeAnd (cond here (Some s) (find (is_row_of head) (rows_marked time hit rows))) (λ row. head.track < row.cylinders * 15)
    by_here s same true lies more = subst (λ (n : ℕ). head.track < n * 15) (sym same) lies
    by_here s same false lies more = more lies

    by_among : (b : Bool) → (IsSomeAnd (find (is_row_of head) rows) (λ row. head.track < row.cylinders * 15) → IsSomeAnd (find (is_row_of head) (rows_marked time hit rows)) (λ row. head.track < row.cylinders * 15))
        → IsSomeAnd (find (is_row_of head) (cond b (in_state (since ByDevice time) r) r ∷ rows_marked time hit rows)) (λ row. head.track < row.cylinders * 15)
    by_among true more = by_here (in_state (since ByDevice time) r) refl (is_row_of head r) within more
    by_among false more = by_here r refl (is_row_of head r) within more

-- Each entry has a row among a mark's rows too.
pub marked_entries : (hit : List ℕ) (time : ℕ) (rows : List PairRow) (entries : List WaitingEntry) → All (IsOfSomeRow rows) entries → All (IsOfSomeRow (rows_marked time hit rows)) entries
marked_entries hit time rows entries all k e lt = marked_row_within (get_or entries k e).head hit time rows (all k e lt)

-- ---- after a mark

module _ (tells : Type 0) (group : FormedGroup) (site : SiteState) (early : List Bool) where
  -- the rows of the mark that is made first, once these jobs have failed
  abbrev pub mark_rows : List PairRow
  mark_rows = rows_before MarkedFirst site early

  abbrev pub mark_deed : Deed
  mark_deed = Marked site.at site.mark.ended mark_rows

  -- A mark was made first, or failed.
  module _ (old marked : PlantState) (marked_site : SiteState) (result : Result (Unit {0}) StoreError) (idle : site.waiting ≡ []) (makes : MakesMark tells site.mark.ended mark_rows site marked_site old marked result)
      (works_mark : WorksOn tells (IsOfMark site) old marked) (fails_mark : FailByCounts site.failed early old.faults marked.faults) where
    pub marked_works : WorksOnLent tells (IsOfLog site group) old marked
    marked_works = works_lent_more tells (IsOfMark site) (IsOfLog site group) old marked (λ d is. inl (inr is)) (lent_of_works tells (IsOfMark site) old marked works_mark)

    -- Where the mark fails, it may have begun.
    pub mark_fails : (next : SiteState) (error : StoreError) → result ≡ Err error → next.failed ≡ early → LogsBy tells group MarkedFirst site next old marked (Err error)
    mark_fails next error fails_is is = record {
      early = early;
      early_failed = record {
        before = stays_failed site.failed early old.faults marked.faults fails_mark;
        after = λ d down. subst (λ (f : List Bool). is_down f d ≡ true) (sym is) down;
      };
      by_entries = λ d down. inl (subst (λ (f : List Bool). is_down f d ≡ true) is down);
      items = tt;
      next_is = tt;
      does = record {
        begins = λ told e stood. first_begins old marked e site.told mark_deed (Logged group.cut.0 group.entries (rows_logged MarkedFirst site group early next.failed)) (mark_begins tells site.mark.ended mark_rows site marked_site old marked result makes idle told e stood);
        does = λ told. tt;
      };
    }

    -- The mark was made, and the record formed after it.
    module _ (last : PlantState) (made : result ≡ Ok tt) (told_is : site.told ≡ site.table.rows) (failed_last : List Bool) (items_last : List Item) (after : List PairRow)
        (is : marked_site ≡ after_mark site.mark.ended mark_rows early site) (leaves : Leaves tells (λ e. none_excepted) site marked_site old marked)
        (works_last : WorksOnLent tells (λ device. (d : ℕ) × (device ≡ Volume d) × HasEntryOn marked_site.table.rows group.entries d) marked last) (reads_last : OnlyReads tells marked last) (fails_last : FailByCounts early failed_last marked.faults last.faults)
        (enters_last : FailByEntries marked_site.table.rows group.entries early failed_last)
        (after_is : after ≡ rows_logged MarkedFirst site group early failed_last) (ready : IsGroupReady tells group MarkedFirst (with_failed failed_last marked_site) after last items_last)
        (stands_last : tells → (e : Exceptions) → SiteStands e marked_site marked → SiteStands e (with_failed failed_last marked_site) last) where
      told_marked : marked_site.told ≡ mark_rows
      told_marked = ap (λ (s : SiteState). s.told) is

      does_mark : (told : tells) (e : Exceptions) → SiteStands e site old → DoesDeeds e site.told (mark_deed ∷ []) old last
      does_mark told e stood =
          let did : DoesDeeds e site.told (mark_deed ∷ []) old marked = subst (λ (r : Result (Unit {0}) StoreError). OnOk r (DoesDeeds e site.told (mark_deed ∷ []) old marked)) made (mark_does tells site.mark.ended mark_rows site marked_site old marked result makes idle told e stood) in
          go_on old marked last e site.told (mark_deed ∷ []) [] did (reads_do tells _ marked last works_last reads_last told (excepted_by_deed site.told mark_deed e) mark_rows)

      stands_marked : (f : Exceptions) → tells → (e : Exceptions) → SiteStands e site old → SiteStands f (with_failed failed_last marked_site) last
      stands_marked f told e stood = stands_more f none_excepted (with_failed failed_last marked_site) last (λ d x kept. refl) (stands_last told none_excepted (leaves.stands told e stood))

      mark_comes : ComesFirst tells (mark_deed ∷ []) site (with_failed failed_last marked_site) old last
      mark_comes = record {
        does = does_mark;
        stands = λ told e stood. stands_marked e told e stood;
        after = λ told e stood. stands_marked (excepted_by_deed site.told mark_deed e) told e stood;
        rows = sym told_marked;
      }

      has_entry : (d : ℕ) → HasEntryOn marked_site.table.rows group.entries d → HasEntryOn site.table.rows group.entries d
      has_entry = entry_before early site marked_site group.entries told_is is

      pub marked_stage : PutStage tells group MarkedFirst site (with_failed failed_last marked_site) after old last items_last
      marked_stage = record {
        ready = ready;
        early = early;
        early_failed = fails_between site.failed early failed_last old.faults marked.faults last.faults fails_mark fails_last;
        by_entries = λ d down. elim (enters_last d down) [
          | inl was ↦ inl was
          | inr has ↦ inr (has_entry d has)
        ];
        before_is = told_marked;
        after_is = after_is;
        bytes = λ told d. reads_last.bytes told (Volume d) ∙ makes.volumes.bytes told d;
        next_is = λ sets. ap (λ (s : SiteState). logged_site sets MarkedFirst group.cut.0 items_last after (one_more s.since) (with_failed failed_last s)) is;
        first = mark_deed ∷ [];
        before = mark_comes;
        deeds_are = ap (λ (rows : List PairRow). mark_deed ∷ Logged group.cut.0 group.entries rows ∷ []) after_is;
        works = works_lent_trans tells (IsOfLog site group) old marked last marked_works (works_lent_more tells _ (IsOfLog site group) marked last (λ d is. inr (is.0, is.1, has_entry is.0 is.2)) works_last);
      }

-- ---- the record as it was formed first

pub record FirstForm (tells : Type 0) (group : FormedGroup) (site : SiteState) (old : PlantState) (placement : Placement) (failed : List Bool) (items : List Item) : Type 0 where
  pub are : AreItemsOf tells group failed site.told (rows_with_record site.level group failed site.told) old items
  pub by_entries : FailByEntries site.table.rows group.entries site.failed failed
  pub placement_is : placement ≡ placement_of old site items

-- It decides the placement, and whether the group is logged at all.
pub forms_first : (tells : Type 0) (group : FormedGroup) (placement : Placement) (site next : SiteState) (old mid new : PlantState) (failed : List Bool) (items : List Item) (result : Result (Unit {0}) StoreError) → FirstForm tells group site old placement failed items → is_spent placement site ≡ false → ¬ IsErrOf result Spent
    → FailByCounts site.failed failed old.faults mid.faults → FailByCounts failed next.failed mid.faults new.faults → (placement ≢ MarkedFirst → OnOk result (next.waiting ≡ items)) → FormsFirst tells group site next old placement result
forms_first tells group placement site next old mid new failed items result first enough unspent one two here = record {
  failed = failed;
  failed_by_then = fails_between site.failed failed next.failed old.faults mid.faults new.faults one two;
  by_entries = first.by_entries;
  items = items;
  are = first.are;
  placement_is = first.placement_is;
  spent = (λ is. absurd (unspent is), λ is. absurd (cc (is, enough)));
  here = here;
}

module _ (tells : Type 0) (group : FormedGroup) (site next : SiteState) (old mid : PlantState) (failed : List Bool) (works : WorksOnLent tells (λ device. (d : ℕ) × (device ≡ Volume d) × HasEntryOn site.table.rows group.entries d) old mid)
    (reads : OnlyReads tells old mid) (fails : FailByCounts site.failed failed old.faults mid.faults) where
  -- Where the numbers don't suffice, nothing is logged.
  pub logs_spent : (placement : Placement) (items : List Item) → is_spent placement site ≡ true → FirstForm tells group site old placement failed items → next.failed ≡ failed → LogsGroup tells group site next old mid (Err Spent)
  logs_spent placement items spent first is = record {
    placement = placement;
    first = record { failed = failed; failed_by_then = between; by_entries = first.by_entries; items = items; are = first.are; placement_is = first.placement_is; spent = (λ e. spent, λ e. refl); here = λ other. tt };
    logs = record {
      early = failed;
      early_failed = between;
      by_entries = subst (λ (f : List Bool). FailByEntries site.table.rows group.entries (failed_before placement site failed) f) (sym is) (by_placement placement first.by_entries);
      items = tt;
      next_is = tt;
      does = record {
        begins = λ told e stood. more_follow old mid e site.told [] (log_deeds placement site group failed next.failed) (have_begun old mid e site.told [] (reads_do tells _ old mid works reads told e site.told));
        does = λ told. tt;
      };
    };
    early_has = λ marked d down. down;
  }
    where
      between : FailedBetween site.failed failed next.failed
      between = record { before = stays_failed site.failed failed old.faults mid.faults fails; after = λ d down. subst (λ (f : List Bool). is_down f d ≡ true) (sym is) down }

      by_placement : (w : Placement) → FailByEntries site.table.rows group.entries site.failed failed → FailByEntries site.table.rows group.entries (failed_before w site failed) failed
      by_placement Here enters = enters
      by_placement Switched enters = enters
      by_placement MarkedFirst enters = λ d down. inl down

  -- What is logged after a mark from there on is logged from the start.
  module _ (new : PlantState) (result : Result (Unit {0}) StoreError) (stands : tells → (e : Exceptions) → SiteStands e site old → SiteStands e (with_failed failed site) mid) (logs : LogsBy tells group MarkedFirst (with_failed failed site) next mid new result)
      (later : FailByCounts failed next.failed mid.faults new.faults) where
    before_mark : (d : ℕ) → is_down site.failed d ≡ true → is_down logs.early d ≡ true
    before_mark d down = logs.early_failed.before d (stays_failed site.failed failed old.faults mid.faults fails d down)

    items_before : (r : Result (Unit {0}) StoreError) → OnOk r (AreItemsOf tells group next.failed (rows_before MarkedFirst site logs.early) next.told mid next.waiting) → OnOk r (AreItemsOf tells group next.failed (rows_before MarkedFirst site logs.early) next.told old next.waiting)
    items_before r = on_ok r (items_still tells group next.failed (rows_before MarkedFirst site logs.early) next.told mid old next.waiting (site_back old mid works.site) (λ told d. sym (reads.bytes told (Volume d))))

    next_before : (r : Result (Unit {0}) StoreError)
        → OnOk r (next ≡ record (after_record mid.journals MarkedFirst group.cut.0 next.waiting (rows_logged MarkedFirst site group logs.early next.failed) next.failed site) { since = one_more 0; waiting = next.waiting })
        → OnOk r (next ≡ record (after_record old.journals MarkedFirst group.cut.0 next.waiting (rows_logged MarkedFirst site group logs.early next.failed) next.failed site) { since = one_more 0; waiting = next.waiting })
    next_before r = on_ok r (λ is. is ∙ ap (λ (sets : ℕ). record (after_record sets MarkedFirst group.cut.0 next.waiting (rows_logged MarkedFirst site group logs.early next.failed) next.failed site) { since = one_more 0; waiting = next.waiting }) works.site.journals)

    pub logs_before : LogsBy tells group MarkedFirst site next old new result
    logs_before = record {
      early = logs.early;
      early_failed = record { before = before_mark; after = logs.early_failed.after };
      by_entries = logs.by_entries;
      items = items_before result logs.items;
      next_is = next_before result logs.next_is;
      does = record {
        begins = λ told e stood. begins_after_none old mid new e site.told (log_deeds MarkedFirst site group logs.early next.failed) (reads_do tells _ old mid works reads told e site.told) (logs.does.begins told e (stands told e stood));
        does = λ told. on_ok result (λ (does : (x : Exceptions) → SiteStands x (with_failed failed site) mid → DoesDeeds x site.told (log_deeds MarkedFirst site group logs.early next.failed) mid new) e stood.
            does_after_none old mid new e site.told (log_deeds MarkedFirst site group logs.early next.failed) (reads_do tells _ old mid works reads told e site.told) (does e (stands told e stood))) (logs.does.does told);
      };
    }

    -- So its numbers and the record as it was formed first say.
    pub group_after_mark : (items : List Item) → FirstForm tells group site old MarkedFirst failed items → is_spent MarkedFirst site ≡ false → ¬ IsErrOf result Spent → LogsGroup tells group site next old new result
    unfolding forms_first logs_before
    group_after_mark items first enough unspent = record {
      placement = MarkedFirst;
      first = forms_first tells group MarkedFirst site next old mid new failed items result first enough unspent fails later (λ other. absurd (other refl));
      logs = logs_before;
      early_has = λ marked d down. logs.early_failed.before d down;
    }
