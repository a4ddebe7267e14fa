-- How a group's logging ends, by what its parts answer, over plain states.
use Rattle.std.proofs.Common.{◌≡◌, ◌≢◌, ℕ, ◌*◌, ◌-◌, ◌^◌, ◌≤◌, ◌<◌, Bool, true, false, List, [], length, Ok, Err, Result, refl, sym, ap, subst, ◌∙◌, arith}
use Rattle.std.specs.Prelude.{IsErrOf, OnOk}
use Rattle.std.specs.List.{All}
use Rattle.ckd_track.specs.declared.layout.TheConstants.{WRITES_OF_RUN}
use Rattle.crash_plant.specs.declared.device.Device.TheVariants.{Volume}
use Rattle.crash_plant.specs.declared.spot.Spot.{Spot}
use Rattle.crash_plant.specs.Calls.{NoneLent, WorksOn}
use Rattle.crash_plant.specs.Choices.{IsChoice}
use Rattle.crash_plant.specs.Moments.{PlantState}
use Rattle.applier.specs.Returns.{OnlyReads, WorksOnLent}
use Rattle.pair_table.specs.declared.level.Level.{Level}
use Rattle.pair_table.specs.declared.level.Level.TheVariants.{Volume as VolumeLevel}
use Rattle.pair_table.specs.declared.row.PairRow.{PairRow}
use Rattle.pending_queue.specs.Groups.{FormedGroup}
use Rattle.record_rows.specs.ChangedRows.{rows_in_states}
use Rattle.record_rows.specs.Hits.{hit_now}
use Rattle.record_rows.specs.Records.{rows_after_mark, rows_with_record}
use Rattle.xrc_journal.specs.Bodies.{BodyState}
use Rattle.xrc_journal.specs.Items.{Item, body_spelling}
use Rattle.site_store.specs.Exceptions.{Exceptions}
use Rattle.site_store.specs.declared.hits.Hits.{Hits}
use Rattle.site_store.specs.declared.store_error.StoreError.{StoreError}
use Rattle.site_store.specs.declared.store_error.StoreError.TheVariants.{Spent}
use Rattle.site_store.specs.declared.placement.Placement.{Placement}
use Rattle.site_store.specs.declared.placement.Placement.TheVariants.{Marked as MarkedFirst}
use Rattle.site_store.specs.Causes.{FailByCounts}
use Rattle.site_store.specs.Hits.{AreHits, with_group_and_hits}
use Rattle.site_store.specs.Jobs.{body_room}
use Rattle.site_store.specs.Logging.{FailByEntries, FormsRecord, HasEntryOn, IsOfSomeRow, LogsBy, LogsGroup, MayLog, StaysUnwritten, rows_before, rows_logged}
use Rattle.site_store.specs.Marking.{MakesMark, after_next_mark, rows_at_mark}
use Rattle.site_store.specs.Recording.{HasRoomAfterSwitch, ShowsRecord, group_with}
use Rattle.site_store.specs.Records.{IsJournal, IsOfMark, after_mark, one_more}
use Rattle.site_store.specs.Sites.{SiteState}
use Rattle.site_store.specs.Standing.{FitsPlant, Leaves, MayRecord, SiteStands, none_excepted}
use Rattle.site_store.specs.Placements.{is_spent, placement_from}
use Rattle.site_store.proofs.LogForms.{FirstForm, HasPlace, fits_formed, formed_ready, formed_stands, forms_first, group_after_mark, logs_spent, marked_entries, marked_stage, plain_place, plain_stage}
use Rattle.site_store.proofs.LogPut.{logged_site}
use Rattle.site_store.proofs.LogReads.{with_failed}
use Rattle.site_store.proofs.LogStage.{IsGroupReady, PutStage, put_leaves, put_logs}
use Rattle.site_store.proofs.LogStart.{FormedBy, first_formed, first_rows, formed_short, marked_formed, marked_rows, placement_still}
use Rattle.site_store.proofs.MarkFirst.{room_after_mark}
use Rattle.site_store.proofs.MarkRows.{hits_alone}
use Rattle.site_store.proofs.NextMark.{after_level, makes_alone}
use Rattle.site_store.proofs.RecordPuts.{on_ok}

-- ---- a record put, from any stage

module _ (tells : Type 0) (group : FormedGroup) (placement : Placement) (site last : SiteState) (after : List PairRow) (old plant new : PlantState) (items : List Item) (stage : PutStage tells group placement site last after old plant items)
    (read : tells → IsChoice plant plant.clock plant.bytes) (works : WorksOn tells IsJournal plant new) (next : SiteState) (next_is : next ≡ logged_site plant.journals placement group.cut.0 items after (one_more last.since) last)
    (shows : ShowsRecord tells placement last.mark.at last.at (group_with group.cut.0 items) plant new (Ok tt)) where
  pub end_logs : LogsBy tells group placement site next old new (Ok tt)
  end_logs = subst (λ (n : SiteState). LogsBy tells group placement site n old new (Ok tt)) (sym next_is) (put_logs tells group placement site last after old plant new items stage read works shows)

  pub end_leaves : Leaves tells (λ e. e) site next old new
  end_leaves = subst (λ (n : SiteState). Leaves tells (λ e. e) site n old new) (sym next_is) (put_leaves tells group placement site last after old plant new items stage read works shows)

-- ---- the record that was formed first

pub record IsFirst (tells : Type 0) (group : FormedGroup) (site : SiteState) (old mid : PlantState) (failed : List Bool) (items : List Item) (placement : Placement) : Type 0 where
  pub ready : MayRecord tells site old
  pub may : MayLog site group
  pub told_is : site.told ≡ site.table.rows
  pub by : FormedBy tells group site old failed items (rows_with_record site.level group failed site.told)
  pub works : WorksOnLent tells (λ device. (d : ℕ) × (device ≡ Volume d) × HasEntryOn site.table.rows group.entries d) old mid
  pub reads : OnlyReads tells old mid
  pub home : NoneLent mid
  pub fails : FailByCounts site.failed failed old.faults mid.faults
  pub by_entries : FailByEntries site.table.rows group.entries site.failed failed
  pub short : length (body_spelling items) ≤ body_room site.controls
  pub placement_is : placement ≡ placement_from mid site.at site.mark.at items

module _ (tells : Type 0) (group : FormedGroup) (site : SiteState) (old mid : PlantState) (held now : BodyState) (due was failed : List Bool) (hits : Hits) (ready : MayRecord tells site old) (told_is : site.told ≡ site.table.rows)
    (forms : FormsRecord tells group site.table.rows old held now due failed hits) (are : AreHits site.level group.cut failed [] site.table.rows hits) where
  forms_told : FormsRecord tells group site.told old held now due failed hits
  forms_told = subst (λ (rows : List PairRow). FormsRecord tells group rows old held now due failed hits) (sym told_is) forms

  hits_told : AreHits site.level group.cut failed [] site.told hits
  hits_told = subst (λ (rows : List PairRow). AreHits site.level group.cut failed [] rows hits) (sym told_is) are

  -- the rows after it
  pub first_after : rows_in_states (with_group_and_hits group hits) site.table.rows ≡ rows_with_record site.level group failed site.told
  first_after = ap (λ (rows : List PairRow). rows_in_states (with_group_and_hits group hits) rows) (sym told_is) ∙ first_rows tells group site old held now due failed hits forms_told ready.fast.fits hits_told

  pub is_first : (placement : Placement) → MayLog site group → was ≡ site.failed → FailByCounts was failed old.faults mid.faults → FailByEntries site.table.rows group.entries was failed → OnlyReads tells old mid → NoneLent mid → WorksOnLent tells (λ device. (d : ℕ) × (device ≡ Volume d) × HasEntryOn site.table.rows group.entries d) old mid
      → length group.entries ≤ WRITES_OF_RUN * group.controls → placement ≡ placement_from mid site.at site.mark.at now.items → IsFirst tells group site old mid failed now.items placement
  is_first placement may was_is fails enters reads home works few placement_is = record {
    ready = ready;
    may = may;
    told_is = told_is;
    by = first_formed tells group site old held now due failed hits forms_told ready.fast.fits hits_told;
    works = works;
    reads = reads;
    home = home;
    fails = subst (λ (f : List Bool). FailByCounts f failed old.faults mid.faults) was_is fails;
    by_entries = subst (λ (f : List Bool). FailByEntries site.table.rows group.entries f failed) was_is enters;
    short = formed_short site.controls group.controls group.entries now.items may.controls few forms.short;
    placement_is = placement_is;
  }

module _ (tells : Type 0) (group : FormedGroup) (site : SiteState) (old mid : PlantState) (failed : List Bool) (items : List Item) (placement : Placement) (first : IsFirst tells group site old mid failed items placement) where
  first_form : FirstForm tells group site old placement failed items
  first_form = record { are = first.by.are; by_entries = first.by_entries; placement_is = first.placement_is ∙ placement_still old mid site.at site.mark.at items first.works.site }

  fits_then : FitsPlant (with_failed failed site) mid
  fits_then =
      fits_formed tells group site old mid failed items (rows_with_record site.level group failed site.told) first.ready.fast.fits first.ready.idle first.may.cut first.by.are first.by.fit first.by.have first.by.told_by first.works first.reads first.home first.fails first.short

  stands_then : tells → (e : Exceptions) → SiteStands e site old → SiteStands e (with_failed failed site) mid
  stands_then =
      formed_stands tells group site old mid failed items (rows_with_record site.level group failed site.told) first.ready.fast.fits first.ready.idle first.may.cut first.by.are first.by.fit first.by.have first.by.told_by first.works first.reads first.home first.fails first.short

  pub some_stands : tells → (e : Exceptions) × SiteStands e (with_failed failed site) mid
  some_stands told = let at = first.ready.fast.stands told in (at.0, stands_then told at.0 at.1)

  -- ---- the numbers don't suffice

  pub spent_logged : (next : SiteState) → next.failed ≡ failed → is_spent placement site ≡ true → LogsGroup tells group site next old mid (Err Spent)
  spent_logged next failed_is spent = logs_spent tells group site next old mid failed first.works first.reads first.fails placement items spent first_form failed_is

  -- Nothing was written then, and what stood stands.
  pub spent_stays : (next : SiteState) → next ≡ with_failed failed site → StaysUnwritten tells site next old mid
  spent_stays next next_is = subst (λ (n : SiteState). StaysUnwritten tells site n old mid) (sym next_is) (record { same = refl; reads = first.reads; leaves = record { fits = fits_then; stands = stands_then } })

  -- ---- after a mark

  pub mark_ready : (now : SiteState) → now ≡ with_failed failed site → MayRecord tells now mid
  mark_ready now is = subst (λ (s : SiteState). MayRecord tells s mid) (sym is) (record { fast = record { fits = fits_then; stands = some_stands }; level = first.ready.level; idle = first.ready.idle })

  pub mark_may : (now : SiteState) → now ≡ with_failed failed site → MayLog now group
  mark_may now is = subst (λ (s : SiteState). MayLog s group) (sym is) (record { controls = first.may.controls; entries = first.may.entries; cut = first.may.cut })

  module _ (next now : SiteState) (new : PlantState) (result : Result (Unit {0}) StoreError) (now_is : now ≡ with_failed failed site) where
    pub logged_after_mark : placement ≡ MarkedFirst → is_spent placement site ≡ false → LogsBy tells group MarkedFirst now next mid new result → FailByCounts now.failed next.failed mid.faults new.faults → ¬ IsErrOf result Spent → LogsGroup tells group site next old new result
    logged_after_mark placement_is enough logs fails unspent =
        group_after_mark tells group site next old mid failed first.works first.reads first.fails new result stands_then (subst (λ (s : SiteState). LogsBy tells group MarkedFirst s next mid new result) now_is logs)
        (subst (λ (s : SiteState). FailByCounts s.failed next.failed mid.faults new.faults) now_is fails) items (subst (λ (w : Placement). FirstForm tells group site old w failed items) placement_is first_form) (subst (λ (w : Placement). is_spent w site ≡ false) placement_is enough) unspent

    leaves_then : Leaves tells (λ e. e) now next mid new → Leaves tells (λ e. e) site next old new
    leaves_then leaves =
        let here : Leaves tells (λ e. e) (with_failed failed site) next mid new = subst (λ (s : SiteState). Leaves tells (λ e. e) s next mid new) now_is leaves in
        record { fits = here.fits; stands = λ told e stood. here.stands told e (stands_then told e stood) }

    pub after_leaves : OnOk result (Leaves tells (λ e. e) now next mid new) → OnOk result (Leaves tells (λ e. e) site next old new)
    after_leaves = on_ok result leaves_then

  -- ---- without a mark

  module _ (plain : placement ≢ MarkedFirst) (enough : is_spent placement site ≡ false) where
    pub plain_ready : IsGroupReady tells group placement (with_failed failed site) (rows_with_record site.level group failed site.told) mid items
    plain_ready =
        formed_ready tells group site old mid failed items (rows_with_record site.level group failed site.told) first.ready.fast.fits first.ready.idle first.may.cut first.by.are first.by.fit first.by.have first.by.told_by first.works first.reads first.home first.fails first.short
        placement (plain_place site.controls site.mark.number mid site.at site.mark.at items placement fits_then.lengths fits_then.set first.short first.placement_is plain enough)

    pub plain_put : PutStage tells group placement site (with_failed failed site) (rows_with_record site.level group failed site.told) old mid items
    plain_put = plain_stage tells group placement site old mid failed items plain first.works first.reads first.fails first.by_entries plain_ready stands_then

    -- The group is logged as the parts say.
    pub plain_group : (next : SiteState) (new : PlantState) (result : Result (Unit {0}) StoreError) → ¬ IsErrOf result Spent → FailByCounts failed next.failed mid.faults new.faults → (placement ≢ MarkedFirst → OnOk result (next.waiting ≡ items)) → LogsBy tells group placement site next old new result → LogsGroup tells group site next old new result
    plain_group next new result unspent fails here by = record { placement = placement; first = forms_first tells group placement site next old mid new failed items result first_form enough unspent first.fails fails here; logs = by; early_has = λ marked. absurd (plain marked) }

-- ---- after a mark that was made first

-- What a mark that was made leaves.
pub record MadeMark (tells : Type 0) (site marked_site : SiteState) (old marked : PlantState) : Type 0 where
  pub is : marked_site ≡ after_mark site.mark.ended (rows_before MarkedFirst site marked_site.failed) marked_site.failed site
  pub leaves : Leaves tells (λ e. none_excepted) site marked_site old marked
  pub makes : MakesMark tells site.mark.ended (rows_before MarkedFirst site marked_site.failed) site marked_site old marked (Ok tt)
  pub works : WorksOn tells (IsOfMark site) old marked
  pub fails : FailByCounts site.failed marked_site.failed old.faults marked.faults

-- So it is where no change waits to be logged: the mark's rows tell the hits alone.
pub made_mark : (tells : Type 0) (site marked_site : SiteState) (old marked : PlantState) → site.is_ahead ≡ false → marked_site ≡ after_next_mark site.mark.ended (rows_at_mark VolumeLevel site marked_site.failed) marked_site.failed site → Leaves tells (λ e. none_excepted) site marked_site old marked
    → MakesMark tells site.mark.ended (rows_at_mark VolumeLevel site marked_site.failed) site marked_site old marked (Ok tt) → WorksOn tells (IsOfMark site) old marked → FailByCounts site.failed marked_site.failed old.faults marked.faults → MadeMark tells site marked_site old marked
made_mark tells site marked_site old marked level is leaves makes works fails = record {
  is = is ∙ after_level site.mark.ended (rows_at_mark VolumeLevel site marked_site.failed) marked_site.failed site level ∙ ap (λ (rows : List PairRow). after_mark site.mark.ended rows marked_site.failed site) (hits_alone site.time marked_site.failed site.told);
  leaves = leaves;
  makes = makes_alone tells site.mark.ended marked_site.failed site marked_site old marked (Ok tt) makes;
  works = works;
  fails = fails;
}

-- the rows after the record
abbrev pub rows_after : FormedGroup → (site marked_site : SiteState) → (failed : List Bool) → List PairRow
rows_after group site marked_site failed = rows_after_mark marked_site.level (hit_now marked_site.failed site.told) group failed marked_site.told

-- The record was formed after the mark.
pub record IsAfter (tells : Type 0) (group : FormedGroup) (site marked_site : SiteState) (old marked last : PlantState) (failed : List Bool) (items : List Item) : Type 0 where
  pub idle : site.waiting ≡ []
  pub late : site.time ≤ group.cut.0
  pub told_is : site.told ≡ site.table.rows
  pub stands : tells → (e : Exceptions) × SiteStands e site old
  pub number : site.at.number < 2 ^ 64 - 2
  pub mark : MadeMark tells site marked_site old marked
  pub by : FormedBy tells group marked_site marked failed items (rows_after group site marked_site failed)
  pub works : WorksOnLent tells (λ device. (d : ℕ) × (device ≡ Volume d) × HasEntryOn marked_site.table.rows group.entries d) marked last
  pub reads : OnlyReads tells marked last
  pub home : NoneLent last
  pub fails : FailByCounts marked_site.failed failed marked.faults last.faults
  pub by_entries : FailByEntries marked_site.table.rows group.entries marked_site.failed failed
  pub short : length (body_spelling items) ≤ body_room marked_site.controls

module _ (tells : Type 0) (group : FormedGroup) (site marked_site : SiteState) (old marked : PlantState) (ready : MayRecord tells site old) (may : MayLog site group) (told_is : site.told ≡ site.table.rows) (mark : MadeMark tells site marked_site old marked) where
  -- A mark's rows are those of its table.
  pub after_told : marked_site.told ≡ marked_site.table.rows
  after_told = ap (λ (s : SiteState). s.told) mark.is ∙ sym (ap (λ (s : SiteState). s.table.rows) mark.is)

  -- Each entry has its row there, too.
  pub after_entries : All (IsOfSomeRow marked_site.table.rows) group.entries
  after_entries =
      subst (λ (s : SiteState). All (IsOfSomeRow s.table.rows) group.entries) (sym mark.is)
      (marked_entries (hit_now marked_site.failed site.told) site.time site.told group.entries (subst (λ (rows : List PairRow). All (IsOfSomeRow rows) group.entries) (sym told_is) may.entries))

  after_few : group.controls ≤ marked_site.controls
  after_few = omega (arith, may.controls, ap (λ (s : SiteState). s.controls) mark.is)

  module _ (last : PlantState) (held now : BodyState) (due was failed : List Bool) (hits : Hits) (forms : FormsRecord tells group marked_site.table.rows marked held now due failed hits) (are : AreHits marked_site.level group.cut failed (hit_now marked_site.failed site.told) marked_site.table.rows hits) where
    told_forms : FormsRecord tells group marked_site.told marked held now due failed hits
    told_forms = subst (λ (rows : List PairRow). FormsRecord tells group rows marked held now due failed hits) (sym after_told) forms

    told_hits : AreHits marked_site.level group.cut failed (hit_now marked_site.failed site.told) marked_site.told hits
    told_hits = subst (λ (rows : List PairRow). AreHits marked_site.level group.cut failed (hit_now marked_site.failed site.told) rows hits) (sym after_told) are

    -- the rows after it
    pub rows_come_after : rows_in_states (with_group_and_hits group hits) marked_site.table.rows ≡ rows_after group site marked_site failed
    rows_come_after =
        ap (λ (rows : List PairRow). rows_in_states (with_group_and_hits group hits) rows) (sym after_told)
        ∙ marked_rows tells group marked_site marked held now due failed hits told_forms mark.leaves.fits (hit_now marked_site.failed site.told) told_hits

    pub is_after : site.at.number < 2 ^ 64 - 2 → was ≡ marked_site.failed → FailByCounts was failed marked.faults last.faults → FailByEntries marked_site.table.rows group.entries was failed → OnlyReads tells marked last → NoneLent last
        → WorksOnLent tells (λ device. (d : ℕ) × (device ≡ Volume d) × HasEntryOn marked_site.table.rows group.entries d) marked last → length group.entries ≤ WRITES_OF_RUN * group.controls → IsAfter tells group site marked_site old marked last failed now.items
    is_after number was_is fails enters reads home works few = record {
      idle = ready.idle;
      late = may.cut;
      told_is = told_is;
      stands = ready.fast.stands;
      number = number;
      mark = mark;
      by = marked_formed tells group marked_site marked held now due failed hits told_forms mark.leaves.fits (hit_now marked_site.failed site.told) told_hits;
      works = works;
      reads = reads;
      home = home;
      fails = subst (λ (f : List Bool). FailByCounts f failed marked.faults last.faults) was_is fails;
      by_entries = subst (λ (f : List Bool). FailByEntries marked_site.table.rows group.entries f failed) was_is enters;
      short = formed_short marked_site.controls group.controls group.entries now.items after_few few forms.short;
    }

module _ (tells : Type 0) (group : FormedGroup) (site marked_site : SiteState) (old marked last : PlantState) (failed : List Bool) (items : List Item) (b : IsAfter tells group site marked_site old marked last failed items) where
  after_idle : marked_site.waiting ≡ []
  after_idle = ap (λ (s : SiteState). s.waiting) b.mark.is

  after_late : marked_site.time ≤ group.cut.0
  after_late = omega (arith, b.late, ap (λ (s : SiteState). s.time) b.mark.is)

  fits_last : FitsPlant (with_failed failed marked_site) last
  fits_last = fits_formed tells group marked_site marked last failed items (rows_after group site marked_site failed) b.mark.leaves.fits after_idle after_late b.by.are b.by.fit b.by.have b.by.told_by b.works b.reads b.home b.fails b.short

  stands_last : tells → (e : Exceptions) → SiteStands e marked_site marked → SiteStands e (with_failed failed marked_site) last
  stands_last = formed_stands tells group marked_site marked last failed items (rows_after group site marked_site failed) b.mark.leaves.fits after_idle after_late b.by.are b.by.fit b.by.have b.by.told_by b.works b.reads b.home b.fails b.short

  pub last_stands : tells → (e : Exceptions) × SiteStands e (with_failed failed marked_site) last
  last_stands told = let at = b.stands told in (none_excepted, stands_last told none_excepted (b.mark.leaves.stands told at.0 at.1))

  mark_there : marked_site.mark.at ≡ marked_site.at
  mark_there = ap (λ (s : SiteState). s.mark.at) b.mark.is ∙ sym (ap (λ (s : SiteState). s.at) b.mark.is)

  low_number : marked_site.at.number < 2 ^ 64 - 2
  low_number = omega (arith, b.number, ap (λ (s : SiteState). s.at.number) b.mark.is)

  place : HasPlace last MarkedFirst marked_site.mark.at marked_site.at items
  place = record {
    room = subst (λ (f : Spot). HasRoomAfterSwitch last f marked_site.at items) (sym mark_there) (room_after_mark marked_site.controls last marked_site.at items fits_last.lengths fits_last.set (omega (arith, low_number)) b.short);
    number = omega (arith, low_number);
  }

  pub last_ready : IsGroupReady tells group MarkedFirst (with_failed failed marked_site) (rows_after group site marked_site failed) last items
  last_ready =
      formed_ready tells group marked_site marked last failed items (rows_after group site marked_site failed) b.mark.leaves.fits after_idle after_late b.by.are b.by.fit b.by.have b.by.told_by b.works b.reads b.home b.fails b.short
      MarkedFirst place

  after_logged : rows_after group site marked_site failed ≡ rows_logged MarkedFirst site group marked_site.failed failed
  after_logged =
      ap (λ (rows : List PairRow). rows_after_mark marked_site.level (hit_now marked_site.failed site.told) group failed rows) (ap (λ (s : SiteState). s.told) b.mark.is)
      ∙ ap (λ (level : Level). rows_after_mark level (hit_now marked_site.failed site.told) group failed (rows_before MarkedFirst site marked_site.failed)) (ap (λ (s : SiteState). s.level) b.mark.is)

  pub last_put : PutStage tells group MarkedFirst site (with_failed failed marked_site) (rows_after group site marked_site failed) old last items
  last_put =
      marked_stage tells group site marked_site.failed old marked marked_site (Ok tt) b.idle b.mark.makes b.mark.works b.mark.fails last refl b.told_is failed items (rows_after group site marked_site failed) b.mark.is b.mark.leaves b.works b.reads b.fails b.by_entries after_logged last_ready stands_last
