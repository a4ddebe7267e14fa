-- How a record by a plan ends, by what its parts answer, over plain states: for a group, and for rows.
use Rattle.std.proofs.Common.{◌≡◌, ◌≢◌, ◌⊎◌, inl, inr, ℕ, ◌^◌, ◌<◌, Bool, true, false, cond, List, [], length, Ok, Err, Result, refl, sym, ap, subst, ◌∙◌, arith}
use Rattle.std.specs.Prelude.{IsErrOf, OnOk}
use Rattle.crash_plant.specs.declared.device.Device.{Device}
use Rattle.crash_plant.specs.declared.device.Device.TheVariants.{Journal}
use Rattle.crash_plant.specs.Calls.{WorksOn}
use Rattle.crash_plant.specs.Choices.{IsChoice}
use Rattle.crash_plant.specs.Moments.{PlantState}
use Rattle.applier.specs.Returns.{WorksOnLent}
use Rattle.applier.proofs.Works.{lent_of_works, works_lent_more, works_lent_trans}
use Rattle.pair_table.specs.declared.command.Change.{Change}
use Rattle.pair_table.specs.declared.row.PairRow.{PairRow}
use Rattle.tod_stamp.specs.declared.stamp.Stamp.{Stamp}
use Rattle.record_rows.specs.Records.{rows_with_hits, rows_with_record}
use Rattle.xrc_journal.specs.Bodies.{BodyState}
use Rattle.xrc_journal.specs.Items.{Item}
use Rattle.pending_queue.specs.Groups.{FormedGroup}
use Rattle.site_store.specs.declared.store_error.StoreError.{StoreError}
use Rattle.site_store.specs.declared.store_error.StoreError.TheVariants.{Spent}
use Rattle.site_store.specs.declared.placement.Placement.{Placement}
use Rattle.site_store.specs.declared.placement.Placement.TheVariants.{Marked}
use Rattle.site_store.specs.declared.plan.Plan.{Plan}
use Rattle.site_store.specs.declared.plan.Plan.TheVariants.{Group, Command}
use Rattle.site_store.specs.Causes.{FailByCounts, HasStoreCause}
use Rattle.site_store.specs.Changing.{IsAfterChange, told_by_mark}
use Rattle.site_store.specs.InTurn.{DoesInTurn}
use Rattle.site_store.specs.Logging.{HasEntryOn, IsOfEntries, LogsBy, LogsGroup}
use Rattle.site_store.specs.Marking.{MakesMark, after_next_mark, rows_at_mark}
use Rattle.site_store.specs.Plans.{IsLeftByForming, IsOfPlan, IsRecorded, IsRecordedAfterMark, IsPlanUnwritten, LogsAfterMark, LogsByPlan, LogsRowsAfterMark, MayLogByPlan, planned_cut, planned_entries, follows_mark, items_wait, reach_by, since_after}
use Rattle.site_store.specs.Recording.{MayPutRecord, ShowsRecord, group_with}
use Rattle.site_store.specs.Records.{IsJournal, IsOfMark, IsOfRecord, one_more}
use Rattle.site_store.specs.RowRecords.{IsAfterRows, LogsRecord, are_rows_spent, names_rows, rows_deeds}
use Rattle.site_store.specs.Sites.{SiteState}
use Rattle.site_store.specs.Standing.{Leaves, none_excepted}
use Rattle.site_store.proofs.ChangeEnds as rows
use Rattle.site_store.proofs.ComesFirst.{mark_done}
use Rattle.site_store.proofs.LogExits as group
use Rattle.site_store.proofs.LogFails.{cause_then, fails_still, fails_trans, none_by_journals, none_fails, quiet_ok, quiet_reads, quiet_trans, spent_cause}
use Rattle.site_store.proofs.LogForms as forms
use Rattle.site_store.proofs.LogPut.{logged_site, may_put, site_after}
use Rattle.site_store.proofs.LogReads.{with_failed}
use Rattle.site_store.proofs.LogStage.{put_fails}
use Rattle.site_store.proofs.MarkFirst.{mark_begins, suffice}
use Rattle.site_store.proofs.NextMark.{after_level, makes_alone}
use Rattle.site_store.proofs.PlanForms.{AreRowsAfter, IsAfterOf, IsFirstOf, IsFirstRows, IsMarked, IsRead, rows_first, rows_later}
use Rattle.site_store.proofs.RecordPuts.{on_ok}
use Rattle.site_store.proofs.RowEnds.{mark_leaves, with_told_mark}
use Rattle.site_store.proofs.Shutting.{on_ok_both}
use Rattle.site_store.proofs.VolumesStaying.{stay_after, stay_logged, stay_read, stay_then}

-- the site after the record of these items, which leaves these rows
abbrev pub plan_site : (sets : ℕ) → Placement → Plan → List Item → List PairRow → SiteState → SiteState
plan_site sets placement plan items rows site = site_after sets placement (planned_cut plan).0 items rows (since_after plan site.since) (cond (items_wait plan) items []) site

-- What is so of the site after a record is so of the site that is it.
leaves_there : (tells : Type 0) (site then next : SiteState) (old new : PlantState) (result : Result (Unit {0}) StoreError) → OnOk result (then ≡ next) → OnOk result (Leaves tells (λ e. e) site next old new) → OnOk result (Leaves tells (λ e. e) site then old new)
leaves_there tells site then next old new result is leaves = on_ok_both result (λ (e : then ≡ next) (l : Leaves tells (λ e. e) site next old new). subst (λ (s : SiteState). Leaves tells (λ e. e) site s old new) (sym e) l) is leaves

-- Rows have no entries.
of_rows : (site : SiteState) (d : Device) → IsOfRecord site d ⊎ IsOfEntries site.table.rows [] d → IsOfRecord site d
of_rows site d (inl is) = is
of_rows site d (inr is) = absurd (let no = is.2 in cc no)

pub rows_works : (tells : Type 0) (site : SiteState) (old new : PlantState) → WorksOnLent tells (λ d. IsOfRecord site d ⊎ IsOfEntries site.table.rows [] d) old new → WorksOnLent tells (IsOfRecord site) old new
rows_works tells site old new works = works_lent_more tells _ (IsOfRecord site) old new (of_rows site) works

-- ---- the record as it is formed first

-- It may be put.
pub first_may : {P : Type 0} (state : P → PlantState) (tells : Type 0) (plan : Plan) (site : SiteState) (old mid : P) (failed : List Bool) (now : BodyState) (placement : Placement) → IsFirstOf state tells plan site old mid failed now placement → placement ≢ Marked → are_rows_spent (follows_mark plan site.table.rows) placement site ≡ false
    → (tells → IsChoice (state mid) (state mid).clock (state mid).bytes) → (tells → length ((state mid).bytes (Journal site.at.set)) ≡ (state mid).lengths (Journal site.at.set)) → MayPutRecord tells placement site.mark.at site.at (planned_cut plan).0 now.items (state mid)
first_may state tells (Group formed) site old mid failed now placement first plain enough read size =
    may_put formed.now.cut.0 placement (with_failed failed site) (rows_with_record site.level formed.now failed site.told) (state mid) now.items (group.plain_ready tells formed.now site (state old) (state mid) failed now.items placement first plain enough).place tells (group.some_stands tells formed.now site (state old) (state mid) failed now.items placement first) read size
first_may state tells (Command cut change) site old mid failed now placement first plain enough read size =
    subst (λ (x : Type 0). x) (λ i. (tells → IsChoice (state (sym first.plant_is i)) (state (sym first.plant_is i)).clock (state (sym first.plant_is i)).bytes) → (tells → length ((state (sym first.plant_is i)).bytes (Journal site.at.set)) ≡ (state (sym first.plant_is i)).lengths (Journal site.at.set)) → MayPutRecord tells placement site.mark.at site.at cut.0 now.items (state (sym first.plant_is i)))
    (rows.may_put tells cut change.now site (state old) first.may.may failed first.held now first.forms first.failed_is placement first.placement_is plain enough) read size

module _ (tells : Type 0) (plan : Plan) (site : SiteState) (old mid : PlantState) (failed : List Bool) (r : IsRead tells plan site old mid failed) where
  first_works : WorksOnLent tells (IsOfPlan site plan) old mid
  first_works = works_lent_more tells _ (IsOfPlan site plan) old mid (λ d is. inr is) r.works

  -- What is done after it is done from the start.
  pub works_then : (new : PlantState) → WorksOnLent tells (IsOfPlan site plan) mid new → WorksOnLent tells (IsOfPlan site plan) old new
  works_then new works = works_lent_trans tells (IsOfPlan site plan) old mid new first_works works

  pub cause_from : (new : PlantState) (result : Result (Unit {0}) StoreError) → HasStoreCause mid.faults new.faults result → HasStoreCause old.faults new.faults result
  cause_from new result cause = cause_then old.faults mid.faults new.faults result (quiet_reads tells (λ d. HasEntryOn site.table.rows (planned_entries plan) d) old mid r.works) cause

put_works : (tells : Type 0) (plan : Plan) (site : SiteState) (mid new : PlantState) → WorksOn tells IsJournal mid new → WorksOnLent tells (IsOfPlan site plan) mid new
put_works tells plan site mid new works = works_lent_more tells IsJournal (IsOfPlan site plan) mid new (λ d is. inl (inl is)) (lent_of_works tells IsJournal mid new works)

-- ---- the numbers are spent

spent_logged : {P : Type 0} (state : P → PlantState) (tells : Type 0) (plan : Plan) (site next : SiteState) (old mid : P) (failed : List Bool) (now : BodyState) (placement : Placement) → IsFirstOf state tells plan site old mid failed now placement → are_rows_spent (follows_mark plan site.table.rows) placement site ≡ true → next.failed ≡ failed → LogsByPlan tells plan site next (state old) (state mid) (Err Spent)
spent_logged state tells (Group formed) site next old mid failed now placement first spent is = group.spent_logged tells formed.now site (state old) (state mid) failed now.items placement first next is spent
spent_logged state tells (Command cut change) site next old mid failed now placement first spent is =
    subst (λ (x : Type 0). x) (λ i. LogsRecord tells cut.0 change.now site next (state old) (state (sym first.plant_is i)) (Err Spent)) (rows.spent_logs tells cut change.now site (state old) first.may.may failed first.held now first.forms first.failed_is placement first.placement_is next spent)

pub spent_recorded : {P : Type 0} (state : P → PlantState) (tells : Type 0) (plan : Plan) (site next : SiteState) (old mid : P) (failed : List Bool) (now : BodyState) (placement : Placement) → IsFirstOf state tells plan site old mid failed now placement → IsRead tells plan site (state old) (state mid) failed → are_rows_spent (follows_mark plan site.table.rows) placement site ≡ true → next.failed ≡ failed
    → IsRecorded tells plan site next (state old) (state mid) (Err Spent)
spent_recorded state tells plan site next old mid failed now placement first r spent is = record {
  logged = spent_logged state tells plan site next old mid failed now placement first spent is;
  leaves = tt;
  works = first_works tells plan site (state old) (state mid) failed r;
  volumes = stay_read tells (state old) (state mid) r.reads;
  cause = spent_cause (state old).faults (state mid).faults (quiet_reads tells (λ d. HasEntryOn site.table.rows (planned_entries plan) d) (state old) (state mid) r.works);
  failed = subst (λ (f : List Bool). FailByCounts site.failed f (state old).faults (state mid).faults) (sym is) r.fails;
}

-- Nothing was written then.
pub spent_unwritten : {P : Type 0} (state : P → PlantState) (tells : Type 0) (plan : Plan) (site next : SiteState) (old mid : P) (failed : List Bool) (now : BodyState) (placement : Placement) (was is : P) (before : List Bool) → IsFirstOf state tells plan site old mid failed now placement → next ≡ with_failed failed site → IsLeftByForming plan was is before failed
    → IsPlanUnwritten tells plan site next (state old) (state mid) was is
spent_unwritten state tells (Group formed) site next old mid failed now placement was is before first next_is left = group.spent_stays tells formed.now site (state old) (state mid) failed now.items placement first next next_is
spent_unwritten state tells (Command cut change) site next old mid failed now placement was is before first next_is left = (next_is ∙ ap (λ (f : List Bool). with_failed f site) first.failed_is, left.0)

-- ---- the numbers suffice, and no mark comes first

module _ (tells : Type 0) (g : FormedGroup) (site next : SiteState) (old mid new : PlantState) (failed : List Bool) (items : List Item) (placement : Placement) (first : group.IsFirst tells g site old mid failed items placement) (plain : placement ≢ Marked) (enough : are_rows_spent true placement site ≡ false)
    (read : tells → IsChoice mid mid.clock mid.bytes) (works : WorksOn tells IsJournal mid new) (is_failed : next.failed ≡ failed) where
  abbrev after : List PairRow
  after = rows_with_record site.level g failed site.told

  later : FailByCounts failed next.failed mid.faults new.faults
  later = subst (λ (f : List Bool). FailByCounts failed f mid.faults new.faults) (sym is_failed) (none_fails failed mid.faults new.faults (none_by_journals tells mid new works))

  group_put : (result : Result (Unit {0}) StoreError) → ¬ IsErrOf result Spent → ShowsRecord tells placement site.mark.at site.at (group_with g.cut.0 items) mid new result → OnOk result (next ≡ logged_site mid.journals placement g.cut.0 items after (one_more site.since) (with_failed failed site))
      → LogsGroup tells g site next old new result × OnOk result (Leaves tells (λ e. e) site next old new)
  group_put (Ok value) unspent shows next_is =
      let stage = group.plain_put tells g site old mid failed items placement first plain enough in
      let by = group.end_logs tells g placement site (with_failed failed site) after old mid new items stage read works next next_is shows in
      (group.plain_group tells g site old mid failed items placement first plain enough next new (Ok tt) unspent later (λ other. ap (λ (s : SiteState). s.waiting) next_is) by, group.end_leaves tells g placement site (with_failed failed site) after old mid new items stage read works next next_is shows)
  group_put (Err error) unspent shows next_is =
      let stage = group.plain_put tells g site old mid failed items placement first plain enough in
      let by = put_fails tells g placement site (with_failed failed site) after old mid new items stage read works next error is_failed shows in
      (group.plain_group tells g site old mid failed items placement first plain enough next new (Err error) unspent later (λ other. tt) by, tt)

module _ {P : Type 0} (state : P → PlantState) (tells : Type 0) (cut : Stamp) (change : Change) (site next : SiteState) (old : P) (new : PlantState) (failed : List Bool) (now : BodyState) (placement : Placement) (result : Result (Unit {0}) StoreError) where
  -- What is asked and left of the plant where it is put.
  abbrev RowsPut : PlantState → Type 0
  RowsPut plant = (tells → IsChoice plant plant.clock plant.bytes) → WorksOn tells IsJournal plant new → ShowsRecord tells placement site.mark.at site.at (group_with cut.0 now.items) plant new result
      → OnOk result (next ≡ site_after plant.journals placement cut.0 now.items (rows_with_hits site.level cut.0 failed site.table.rows) site.since [] (with_failed failed site)) → LogsRecord tells cut.0 change site next (state old) new result × OnOk result (Leaves tells (λ e. e) site next (state old) new)

  rows_put : (mid : P) → IsFirstRows state tells cut change site old mid failed now placement → placement ≢ Marked → are_rows_spent (names_rows change site.table.rows) placement site ≡ false → ¬ IsErrOf result Spent → next.failed ≡ failed → RowsPut (state mid)
  rows_put mid first plain enough unspent is_failed = subst (λ (m : P). RowsPut (state m)) (sym first.plant_is) here
    where
      here : RowsPut (state old)
      here read works shows next_is =
          let may = first.may.may in
          let is = on_ok result (λ (e : next ≡ site_after (state old).journals placement cut.0 now.items (rows_with_hits site.level cut.0 failed site.table.rows) site.since [] (with_failed failed site)).
          e ∙ (λ i. site_after (state old).journals placement cut.0 now.items (rows_with_hits site.level cut.0 failed site.table.rows) site.since (sym may.idle i) (with_failed (first.failed_is i) site))) next_is in (
            rows.record_logs tells cut change site (state old) may failed first.held now first.forms first.failed_is placement first.placement_is plain enough read new works result shows next unspent is_failed is,
            leaves_there tells site next (rows.next tells cut change site (state old) may failed first.held now first.forms first.failed_is placement first.placement_is plain enough read new works result shows) (state old) new result is
                (rows.record_leaves tells cut change site (state old) may failed first.held now first.forms first.failed_is placement first.placement_is plain enough read new works result shows),
          )

plan_put : {P : Type 0} (state : P → PlantState) (tells : Type 0) (plan : Plan) (site next : SiteState) (old mid : P) (new : PlantState) (failed : List Bool) (now : BodyState) (placement : Placement) (result : Result (Unit {0}) StoreError) → IsFirstOf state tells plan site old mid failed now placement → placement ≢ Marked → are_rows_spent (follows_mark plan site.table.rows) placement site ≡ false
    → ¬ IsErrOf result Spent → next.failed ≡ failed → (tells → IsChoice (state mid) (state mid).clock (state mid).bytes) → WorksOn tells IsJournal (state mid) new → ShowsRecord tells placement site.mark.at site.at (group_with (planned_cut plan).0 now.items) (state mid) new result
    → OnOk result (next ≡ plan_site (state mid).journals placement plan now.items (rows_first plan site failed) (with_failed failed site)) → LogsByPlan tells plan site next (state old) new result × OnOk result (Leaves tells (λ e. e) site next (state old) new)
plan_put state tells (Group formed) site next old mid new failed now placement result first plain enough unspent is_failed read works shows next_is = group_put tells formed.now site next (state old) (state mid) new failed now.items placement first plain enough read works is_failed result unspent shows next_is
plan_put state tells (Command cut change) site next old mid new failed now placement result first plain enough unspent is_failed read works shows next_is = rows_put state tells cut change.now site next old new failed now placement result mid first plain enough unspent is_failed read works shows next_is

-- It is put, or isn't.
pub put_recorded : {P : Type 0} (state : P → PlantState) (tells : Type 0) (plan : Plan) (site next : SiteState) (old mid : P) (new : PlantState) (failed : List Bool) (now : BodyState) (placement : Placement) (result : Result (Unit {0}) StoreError) → IsFirstOf state tells plan site old mid failed now placement → IsRead tells plan site (state old) (state mid) failed → placement ≢ Marked
    → are_rows_spent (follows_mark plan site.table.rows) placement site ≡ false → ¬ IsErrOf result Spent → next.failed ≡ failed → (tells → IsChoice (state mid) (state mid).clock (state mid).bytes) → WorksOn tells IsJournal (state mid) new → ShowsRecord tells placement site.mark.at site.at (group_with (planned_cut plan).0 now.items) (state mid) new result
    → OnOk result (next ≡ plan_site (state mid).journals placement plan now.items (rows_first plan site failed) (with_failed failed site)) → HasStoreCause (state mid).faults new.faults result → IsRecorded tells plan site next (state old) new result
put_recorded state tells plan site next old mid new failed now placement result first r plain enough unspent is_failed read works shows next_is cause =
    let put = plan_put state tells plan site next old mid new failed now placement result first plain enough unspent is_failed read works shows next_is in
    record {
      logged = put.0;
      leaves = put.1;
      works = works_then tells plan site (state old) (state mid) failed r new (put_works tells plan site (state mid) new works);
      volumes = stay_logged tells (IsOfEntries site.table.rows (planned_entries plan)) (state old) (state mid) new r.reads r.works works;
      cause = cause_from tells plan site (state old) (state mid) failed r new result cause;
      failed = subst (λ (f : List Bool). FailByCounts site.failed f (state old).faults new.faults) (sym is_failed) (fails_still site.failed failed (state old).faults (state mid).faults new.faults r.fails (none_by_journals tells (state mid) new works));
    }

-- ---- a mark comes first

-- What may be logged may be logged once it was formed.
pub first_again : {P : Type 0} (state : P → PlantState) (tells : Type 0) (plan : Plan) (site at : SiteState) (old mid : P) (failed : List Bool) (now : BodyState) (placement : Placement) → MayLogByPlan tells plan site (state old) → IsFirstOf state tells plan site old mid failed now placement → at ≡ with_failed failed site → MayLogByPlan tells plan at (state mid)
first_again state tells (Group formed) site at old mid failed now placement may first is = record {
  ready = group.mark_ready tells formed.now site (state old) (state mid) failed now.items placement first at is;
  may = group.mark_may tells formed.now site (state old) (state mid) failed now.items placement first at is;
  few = may.few;
}
first_again state tells (Command cut change) site at old mid failed now placement may first is = subst (λ (x : Type 0). x) (λ i. MayLogByPlan tells (Command cut change) (sym (is ∙ ap (λ (f : List Bool). with_failed f site) first.failed_is) i) (state (sym first.plant_is i))) may

marked_logged : {P : Type 0} (state : P → PlantState) (tells : Type 0) (plan : Plan) (site at next : SiteState) (old mid : P) (new : PlantState) (failed : List Bool) (now : BodyState) (placement : Placement) (result : Result (Unit {0}) StoreError) → IsFirstOf state tells plan site old mid failed now placement → at ≡ with_failed failed site → placement ≡ Marked
    → are_rows_spent (follows_mark plan site.table.rows) placement site ≡ false → ¬ IsErrOf result Spent → FailByCounts at.failed next.failed (state mid).faults new.faults → LogsAfterMark tells plan at next (state mid) new result → LogsByPlan tells plan site next (state old) new result
marked_logged state tells (Group formed) site at next old mid new failed now placement result first is marked enough unspent fails logs = group.logged_after_mark tells formed.now site (state old) (state mid) failed now.items placement first next at new result is marked enough logs fails unspent
marked_logged state tells (Command cut change) site at next old mid new failed now placement result first is marked enough unspent fails logs =
    let there : at ≡ site = is ∙ ap (λ (f : List Bool). with_failed f site) first.failed_is in
    let by : LogsRowsAfterMark tells cut.0 change.now site next (state old) new result = subst (λ (x : Type 0). x) (λ i. LogsRowsAfterMark tells cut.0 change.now (there i) next (state (first.plant_is i)) new result) logs in
    rows.marked_logs tells cut change.now site (state old) first.may.may failed first.held now first.forms first.failed_is placement first.placement_is enough next new result unspent marked by.after by.does

marked_leaves : {P : Type 0} (state : P → PlantState) (tells : Type 0) (plan : Plan) (site at next : SiteState) (old mid : P) (new : PlantState) (failed : List Bool) (now : BodyState) (placement : Placement) (result : Result (Unit {0}) StoreError) → IsFirstOf state tells plan site old mid failed now placement → at ≡ with_failed failed site → OnOk result (Leaves tells (λ e. e) at next (state mid) new)
    → OnOk result (Leaves tells (λ e. e) site next (state old) new)
marked_leaves state tells (Group formed) site at next old mid new failed now placement result first is leaves = group.after_leaves tells formed.now site (state old) (state mid) failed now.items placement first next at new result is leaves
marked_leaves state tells (Command cut change) site at next old mid new failed now placement result first is leaves =
    let there : at ≡ site = is ∙ ap (λ (f : List Bool). with_failed f site) first.failed_is in
    subst (λ (x : Type 0). x) (λ i. OnOk result (Leaves tells (λ e. e) (there i) next (state (first.plant_is i)) new)) leaves

-- What a record after a mark leaves is left from the start.
pub marked_recorded : {P : Type 0} (state : P → PlantState) (tells : Type 0) (plan : Plan) (site at next : SiteState) (old mid : P) (new : PlantState) (failed : List Bool) (now : BodyState) (placement : Placement) (result : Result (Unit {0}) StoreError) → IsFirstOf state tells plan site old mid failed now placement → IsRead tells plan site (state old) (state mid) failed → at ≡ with_failed failed site
    → placement ≡ Marked → are_rows_spent (follows_mark plan site.table.rows) placement site ≡ false → ¬ IsErrOf result Spent → IsRecordedAfterMark tells plan at next (state mid) new result → IsRecorded tells plan site next (state old) new result
marked_recorded state tells plan site at next old mid new failed now placement result first r is marked enough unspent k =
    let works : WorksOnLent tells (IsOfPlan site plan) (state mid) new = subst (λ (s : SiteState). WorksOnLent tells (IsOfPlan s plan) (state mid) new) is k.works in
    record {
      logged = marked_logged state tells plan site at next old mid new failed now placement result first is marked enough unspent k.failed k.logged;
      leaves = marked_leaves state tells plan site at next old mid new failed now placement result first is k.leaves;
      works = works_then tells plan site (state old) (state mid) failed r new works;
      volumes = stay_then tells (state old) (state mid) new r.works.elapses works.elapses (stay_read tells (state old) (state mid) r.reads) k.volumes;
      cause = cause_from tells plan site (state old) (state mid) failed r new result k.cause;
      failed = fails_trans site.failed failed next.failed (state old).faults (state mid).faults new.faults r.fails (subst (λ (s : SiteState). FailByCounts s.failed next.failed (state mid).faults new.faults) is k.failed);
    }

-- ---- the mark

module _ (tells : Type 0) (site next : SiteState) (old new : PlantState) (idle : site.waiting ≡ []) where
  rows_by_mark : (follows : Bool) (cut : ℕ) (error : StoreError) → MakesMark tells site.mark.ended (rows_at_mark (reach_by follows site.level) site next.failed) site next old new (Err error) → DoesInTurn tells (rows_deeds follows Marked site cut next.failed) site old new (Err error)
  rows_by_mark true cut error makes = rows.mark_fails tells cut site next old new error idle (makes_alone tells site.mark.ended next.failed site next old new (Err error) makes)
  rows_by_mark false cut error makes = record { begins = λ told e stands. mark_begins tells site.mark.ended (rows_at_mark site.level site next.failed) site next old new (Err error) makes idle told e stands; does = λ told. tt }

  failed_logged : (plan : Plan) (error : StoreError) → MakesMark tells site.mark.ended (rows_at_mark (reach_by (follows_mark plan site.table.rows) site.level) site next.failed) site next old new (Err error) → WorksOn tells (IsOfMark site) old new → FailByCounts site.failed next.failed old.faults new.faults
      → LogsAfterMark tells plan site next old new (Err error)
  failed_logged (Group formed) error makes works fails = forms.mark_fails tells formed.now site next.failed old new next (Err error) idle (makes_alone tells site.mark.ended next.failed site next old new (Err error) makes) works fails next error refl refl
  failed_logged (Command cut change) error makes works fails = record { after = tt; does = rows_by_mark (names_rows change.now site.table.rows) cut.0 error makes }

  mark_works : (plan : Plan) → WorksOn tells (IsOfMark site) old new → WorksOnLent tells (IsOfPlan site plan) old new
  mark_works plan works = works_lent_more tells (IsOfMark site) (IsOfPlan site plan) old new (λ d is. inl (inr is)) (lent_of_works tells (IsOfMark site) old new works)

  -- It isn't made.
  pub failed_recorded : (plan : Plan) (follows : Bool) (error : StoreError) → follows ≡ follows_mark plan site.table.rows → MakesMark tells site.mark.ended (rows_at_mark (reach_by follows site.level) site next.failed) site next old new (Err error) → WorksOn tells (IsOfMark site) old new → HasStoreCause old.faults new.faults (Err error)
      → FailByCounts site.failed next.failed old.faults new.faults → IsRecordedAfterMark tells plan site next old new (Err error)
  failed_recorded plan follows error is makes works cause fails = record {
    logged = failed_logged plan error (subst (λ (f : Bool). MakesMark tells site.mark.ended (rows_at_mark (reach_by f site.level) site next.failed) site next old new (Err error)) is makes) works fails;
    leaves = tt;
    works = mark_works plan works;
    volumes = makes.volumes;
    cause = cause;
    failed = fails;
  }

  alone_logged : (plan : Plan) → MayLogByPlan tells plan site old → false ≡ follows_mark plan site.table.rows → next ≡ after_next_mark site.mark.ended (rows_at_mark site.level site next.failed) next.failed site → MakesMark tells site.mark.ended (rows_at_mark site.level site next.failed) site next old new (Ok tt) → LogsAfterMark tells plan site next old new (Ok tt)
  alone_logged (Group formed) may is made makes = absurd cc
  alone_logged (Command cut change) may is made makes =
      let told_rows = rows_at_mark site.level site next.failed in
      record {
        after = subst (λ (f : Bool). IsAfterRows f cut.0 change.now Marked [] site next old) is (made ∙ after_level site.mark.ended told_rows next.failed site (may.level (sym is)));
        does = subst (λ (f : Bool). DoesInTurn tells (rows_deeds f Marked site cut.0 next.failed) site old new (Ok tt)) is (record {
          begins = λ told e stands. mark_begins tells site.mark.ended told_rows site next old new (Ok tt) makes idle told e stands;
          does = λ told. mark_done tells site next old new site.mark.ended told_rows idle (Ok tt) makes told;
        });
      }

  -- It is made, and tells all.
  pub alone_recorded : (plan : Plan) → MayLogByPlan tells plan site old → false ≡ follows_mark plan site.table.rows → next ≡ after_next_mark site.mark.ended (rows_at_mark site.level site next.failed) next.failed site → MakesMark tells site.mark.ended (rows_at_mark site.level site next.failed) site next old new (Ok tt)
      → Leaves tells (λ e. none_excepted) site next old new → WorksOn tells (IsOfMark site) old new → HasStoreCause old.faults new.faults (Ok tt) → FailByCounts site.failed next.failed old.faults new.faults → IsRecordedAfterMark tells plan site next old new (Ok tt)
  alone_recorded plan may is made makes leaves works cause fails = record {
    logged = alone_logged plan may is made makes;
    leaves = mark_leaves tells site next old new (Ok tt) leaves;
    works = mark_works plan works;
    volumes = makes.volumes;
    cause = cause;
    failed = fails;
  }

-- ---- the record after it

rows_low : {P : Type 0} (state : P → PlantState) (tells : Type 0) (cut : Stamp) (change : Change) (site marked_site : SiteState) (old : PlantState) (marked last : P) (failed : List Bool) (now : BodyState) → AreRowsAfter state tells cut change site marked_site old marked last failed now → site.at.number < 2 ^ 64
rows_low state tells cut change site marked_site old marked last failed now b = let numbers = suffice site.at.number site.mark.number b.may.may.fast.fits.mark.most b.enough in let next = numbers.next_is in omega (arith, next)

-- It may be put.
pub after_may : {P : Type 0} (state : P → PlantState) (tells : Type 0) (plan : Plan) (site marked_site : SiteState) (old : PlantState) (marked last : P) (failed : List Bool) (now : BodyState) → IsAfterOf state tells plan site marked_site old marked last failed now → (tells → IsChoice (state last) (state last).clock (state last).bytes)
    → (tells → length ((state last).bytes (Journal marked_site.at.set)) ≡ (state last).lengths (Journal marked_site.at.set)) → MayPutRecord tells Marked marked_site.mark.at marked_site.at (planned_cut plan).0 now.items (state last)
after_may state tells (Group formed) site marked_site old marked last failed now b read size =
    may_put formed.now.cut.0 Marked (with_failed failed marked_site) (group.rows_after formed.now site marked_site failed) (state last) now.items (group.last_ready tells formed.now site marked_site old (state marked) (state last) failed now.items b).place tells (group.last_stands tells formed.now site marked_site old (state marked) (state last) failed now.items b) read size
after_may state tells (Command cut change) site marked_site old marked last failed now b read size =
    subst (λ (x : Type 0). x) (λ i. (tells → IsChoice (state (sym b.plant_is i)) (state (sym b.plant_is i)).clock (state (sym b.plant_is i)).bytes) → (tells → length ((state (sym b.plant_is i)).bytes (Journal (sym b.there i).at.set)) ≡ (state (sym b.plant_is i)).lengths (Journal (sym b.there i).at.set)) → MayPutRecord tells Marked (sym b.there i).mark.at (sym b.there i).at cut.0 now.items (state (sym b.plant_is i)))
    (λ here long. rows.may_put_after tells cut change.now site old b.may.may failed b.held now b.forms (rows_low state tells cut change.now site marked_site old marked last failed now b) b.choice (state marked) b.enough b.works b.makes b.leaves here long) read size

module _ (tells : Type 0) (g : FormedGroup) (site marked_site next : SiteState) (old marked last new : PlantState) (failed : List Bool) (items : List Item) (b : group.IsAfter tells g site marked_site old marked last failed items) (read : tells → IsChoice last last.clock last.bytes) (works : WorksOn tells IsJournal last new) where
  group_after : (result : Result (Unit {0}) StoreError) → next.failed ≡ failed → ShowsRecord tells Marked marked_site.mark.at marked_site.at (group_with g.cut.0 items) last new result
      → OnOk result (next ≡ logged_site last.journals Marked g.cut.0 items (group.rows_after g site marked_site failed) (one_more marked_site.since) (with_failed failed marked_site)) → LogsBy tells g Marked site next old new result × OnOk result (Leaves tells (λ e. e) site next old new)
  group_after (Ok value) is_failed shows next_is =
      let stage = group.last_put tells g site marked_site old marked last failed items b in (
        group.end_logs tells g Marked site (with_failed failed marked_site) (group.rows_after g site marked_site failed) old last new items stage read works next next_is shows,
        group.end_leaves tells g Marked site (with_failed failed marked_site) (group.rows_after g site marked_site failed) old last new items stage read works next next_is shows,
      )
  group_after (Err error) is_failed shows next_is =
      let stage = group.last_put tells g site marked_site old marked last failed items b in
      (put_fails tells g Marked site (with_failed failed marked_site) (group.rows_after g site marked_site failed) old last new items stage read works next error is_failed shows, tt)

module _ {P : Type 0} (state : P → PlantState) (tells : Type 0) (cut : Stamp) (change : Change) (site marked_site next : SiteState) (old : PlantState) (marked last : P) (new : PlantState) (failed : List Bool) (now : BodyState) (result : Result (Unit {0}) StoreError) (b : AreRowsAfter state tells cut change site marked_site old marked last failed now) (is_failed : next.failed ≡ failed) where
  -- What is asked and left of the site and the plant after the mark.
  abbrev RowsPutAfter : SiteState → PlantState → Type 0
  RowsPutAfter at plant = (tells → IsChoice plant plant.clock plant.bytes) → WorksOn tells IsJournal plant new → ShowsRecord tells Marked at.mark.at at.at (group_with cut.0 now.items) plant new result
      → OnOk result (next ≡ site_after plant.journals Marked cut.0 now.items (rows_with_hits at.level cut.0 failed at.table.rows) at.since [] (with_failed failed at)) → LogsRowsAfterMark tells cut.0 change site next old new result × OnOk result (Leaves tells (λ e. e) site next old new)

  rows_after_put : RowsPutAfter marked_site (state last)
  rows_after_put = subst (λ (x : Type 0). x) (λ i. RowsPutAfter (sym b.there i) (state (sym b.plant_is i))) here
    where
      here : RowsPutAfter (with_told_mark (told_by_mark failed site) failed site) (state marked)
      here read works shows next_is =
          let may = b.may.may in
          let low = rows_low state tells cut change site marked_site old marked last failed now b in
          let after : OnOk result (IsAfterChange cut.0 change Marked site next old) = rows.change_after tells cut change site old may failed b.held now b.forms low b.choice (state marked) b.enough b.works b.makes b.leaves read next result is_failed next_is in (
            record {
              after = subst (λ (f : Bool). OnOk result (IsAfterRows f cut.0 change Marked [] site next old)) (sym b.follow) after;
              does = subst (λ (f : Bool). DoesInTurn tells (rows_deeds f Marked site cut.0 next.failed) site old new result) (sym b.follow)
                  (rows.after_done tells cut change site old may failed b.held now b.forms low b.choice (state marked) b.enough b.works b.makes b.leaves read new works result shows next is_failed);
            },
            leaves_there tells site next (rows.next_on tells cut change site old may failed b.held now b.forms low b.choice (state marked) b.enough b.works b.makes b.leaves read new works result shows) old new result next_is
                (rows.after_leaves tells cut change site old may failed b.held now b.forms low b.choice (state marked) b.enough b.works b.makes b.leaves read new works result shows),
          )

after_put : {P : Type 0} (state : P → PlantState) (tells : Type 0) (plan : Plan) (site marked_site next : SiteState) (old : PlantState) (marked last : P) (new : PlantState) (failed : List Bool) (now : BodyState) (result : Result (Unit {0}) StoreError) → IsAfterOf state tells plan site marked_site old marked last failed now → next.failed ≡ failed → (tells → IsChoice (state last) (state last).clock (state last).bytes)
    → WorksOn tells IsJournal (state last) new → ShowsRecord tells Marked marked_site.mark.at marked_site.at (group_with (planned_cut plan).0 now.items) (state last) new result → OnOk result (next ≡ plan_site (state last).journals Marked plan now.items (rows_later plan site marked_site failed) (with_failed failed marked_site))
    → LogsAfterMark tells plan site next old new result × OnOk result (Leaves tells (λ e. e) site next old new)
after_put state tells (Group formed) site marked_site next old marked last new failed now result b is_failed read works shows next_is = group_after tells formed.now site marked_site next old (state marked) (state last) new failed now.items b read works result is_failed shows next_is
after_put state tells (Command cut change) site marked_site next old marked last new failed now result b is_failed read works shows next_is = rows_after_put state tells cut change.now site marked_site next old marked last new failed now result b is_failed read works shows next_is

-- The devices with entries have them before the mark, too.
same_entries : {P : Type 0} (state : P → PlantState) (tells : Type 0) (plan : Plan) (site marked_site : SiteState) (old : PlantState) (marked last : P) (failed : List Bool) (now : BodyState) → IsAfterOf state tells plan site marked_site old marked last failed now → (d : Device) → IsOfEntries marked_site.table.rows (planned_entries plan) d → IsOfEntries site.table.rows (planned_entries plan) d
same_entries state tells (Group formed) site marked_site old marked last failed now b d is = (is.0, is.1, forms.entry_before marked_site.failed site marked_site formed.now.entries b.told_is b.mark.is is.0 is.2)
same_entries state tells (Command cut change) site marked_site old marked last failed now b d is = is

-- It is put, or isn't.
pub after_recorded : {P : Type 0} (state : P → PlantState) (tells : Type 0) (plan : Plan) (site marked_site next : SiteState) (old : PlantState) (marked last : P) (new : PlantState) (failed : List Bool) (now : BodyState) (result : Result (Unit {0}) StoreError) → IsMarked tells site marked_site old (state marked) → IsAfterOf state tells plan site marked_site old marked last failed now
    → IsRead tells plan marked_site (state marked) (state last) failed → site.waiting ≡ [] → next.failed ≡ failed → (tells → IsChoice (state last) (state last).clock (state last).bytes) → WorksOn tells IsJournal (state last) new → ShowsRecord tells Marked marked_site.mark.at marked_site.at (group_with (planned_cut plan).0 now.items) (state last) new result
    → OnOk result (next ≡ plan_site (state last).journals Marked plan now.items (rows_later plan site marked_site failed) (with_failed failed marked_site)) → HasStoreCause (state last).faults new.faults result → IsRecordedAfterMark tells plan site next old new result
after_recorded state tells plan site marked_site next old marked last new failed now result m b r idle is_failed read works shows next_is cause =
    let put = after_put state tells plan site marked_site next old marked last new failed now result b is_failed read works shows next_is in
    let formed : WorksOnLent tells (IsOfPlan site plan) (state marked) (state last) = works_lent_more tells _ (IsOfPlan site plan) (state marked) (state last) (λ d is. inr (same_entries state tells plan site marked_site old marked last failed now b d is)) r.works in
    let quiet = quiet_trans old.faults (state marked).faults (state last).faults (quiet_ok old.faults (state marked).faults m.cause) (quiet_reads tells (λ d. HasEntryOn marked_site.table.rows (planned_entries plan) d) (state marked) (state last) r.works) in
    let fails = fails_trans site.failed marked_site.failed failed old.faults (state marked).faults (state last).faults m.fails r.fails in
    record {
      logged = put.0;
      leaves = put.1;
      works = works_lent_trans tells (IsOfPlan site plan) old (state last) new (works_lent_trans tells (IsOfPlan site plan) old (state marked) (state last) (mark_works tells site marked_site old (state marked) idle plan m.works) formed) (put_works tells plan site (state last) new works);
      volumes = stay_after tells (IsOfMark site) (IsOfEntries marked_site.table.rows (planned_entries plan)) old (state marked) (state last) new m.makes.volumes m.works r.reads r.works works;
      cause = cause_then old.faults (state last).faults new.faults result quiet cause;
      failed = subst (λ (f : List Bool). FailByCounts site.failed f old.faults new.faults) (sym is_failed) (fails_still site.failed failed old.faults (state last).faults new.faults fails (none_by_journals tells (state last) new works));
    }
