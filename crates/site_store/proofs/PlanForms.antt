-- A record by a plan as it is formed, over plain states: what it asks, what it is first, and what it is after a mark.
use Rattle.std.proofs.Common.{◌≡◌, ℕ, ◌-◌, ◌^◌, ◌≤◌, ◌<◌, Bool, true, false, List, [], length, map, Ok, sym, ap, subst, ◌∙◌, arith}
use Rattle.std.specs.List.{All}
use Rattle.std.specs.Prelude.{slice_index_or}
use Rattle.std.proofs.lemmas.Bool.{eqb-false}
use Rattle.std.proofs.lemmas.List.{length-map}
use Rattle.tod_stamp.specs.declared.stamp.Stamp.{Stamp}
use Rattle.crash_plant.specs.Calls.{NoneLent, WorksOn}
use Rattle.crash_plant.specs.Choices.{Choice, IsChoice}
use Rattle.crash_plant.specs.Moments.{PlantState}
use Rattle.applier.specs.Returns.{OnlyReads, WorksOnLent}
use Rattle.pair_table.specs.declared.command.Change.{Change}
use Rattle.pair_table.specs.declared.level.Level.{Level}
use Rattle.pair_table.specs.declared.level.Level.TheVariants.{Volume as VolumeLevel}
use Rattle.pair_table.specs.declared.row.PairRow.{PairRow}
use Rattle.record_rows.specs.ChangedRows.{rows_in_states}
use Rattle.record_rows.specs.Hits.{hit_now}
use Rattle.record_rows.specs.Records.{rows_with_hits, rows_with_record}
use Rattle.xrc_journal.specs.declared.job.VolumeJob.{VolumeJob}
use Rattle.xrc_journal.specs.Bodies.{BodyState}
use Rattle.site_store.specs.declared.hits.HitDevices.{HitDevices}
use Rattle.site_store.specs.declared.hits.Hits.{Hits}
use Rattle.site_store.specs.declared.placement.Placement.{Placement}
use Rattle.site_store.specs.declared.placement.Placement.TheVariants.{Marked}
use Rattle.site_store.specs.declared.plan.Plan.{Plan}
use Rattle.site_store.specs.declared.plan.Plan.TheVariants.{Group, Command}
use Rattle.site_store.specs.Causes.{FailByCounts, HasStoreCause}
use Rattle.site_store.specs.Changing.{FormsChange, changed_items, told_by_mark}
use Rattle.site_store.specs.Hits.{AreDevices}
use Rattle.site_store.specs.Jobs.{are_home_from, body_room, has_device, has_job_failed}
use Rattle.site_store.specs.Logging.{IsOfEntries, IsOfSomeRow, MayForm}
use Rattle.site_store.specs.Marking.{MakesMark, after_next_mark, rows_at_mark}
use Rattle.site_store.specs.Plans.{FormsByPlan, FormsItems, IsLeftByForming, MayLogByPlan, planned_entries, follows_mark, items_wait, next_states, planned_room}
use Rattle.site_store.specs.Placements.{is_spent, placement_from}
use Rattle.site_store.specs.Records.{IsOfMark}
use Rattle.site_store.specs.RowRecords.{MayLogRows, are_rows_spent, names_rows, rows_need_more}
use Rattle.site_store.specs.Sites.{SiteState}
use Rattle.site_store.specs.Standing.{FitsPlant, Leaves, StandsFast, none_excepted}
use Rattle.site_store.proofs.Below.{below_volumes}
use Rattle.site_store.proofs.ChangeEnds.{some_items}
use Rattle.site_store.proofs.HitStates.{hits_make_rows}
use Rattle.site_store.proofs.LogExits.{IsAfter, IsFirst, MadeMark, after_entries, first_after, is_after, is_first, made_mark, rows_after, rows_come_after}
use Rattle.site_store.proofs.LogStart.{room_formed}
use Rattle.site_store.proofs.MarkFirst.{suffice}
use Rattle.site_store.proofs.MarkRows.{hits_alone}
use Rattle.site_store.proofs.NextMark.{after_ahead, makes_alone}
use Rattle.site_store.proofs.RowEnds.{with_told_mark}

-- ---- what may be logged

pub plan_fits : (tells : Type 0) (plan : Plan) (site : SiteState) (plant : PlantState) → MayLogByPlan tells plan site plant → FitsPlant site plant
plan_fits tells (Group formed) site plant may = may.ready.fast.fits
plan_fits tells (Command cut change) site plant may = may.may.fast.fits

pub plan_idle : (tells : Type 0) (plan : Plan) (site : SiteState) (plant : PlantState) → MayLogByPlan tells plan site plant → site.waiting ≡ []
plan_idle tells (Group formed) site plant may = may.ready.idle
plan_idle tells (Command cut change) site plant may = may.may.idle

pub plan_fast : (tells : Type 0) (plan : Plan) (site : SiteState) (plant : PlantState) → MayLogByPlan tells plan site plant → StandsFast tells site plant
plan_fast tells (Group formed) site plant may = may.ready.fast
plan_fast tells (Command cut change) site plant may = may.may.fast

-- The mark that has to come first has a number.
mark_number : (follows : Bool) (next mark : ℕ) → mark ≤ 2 ^ 64 - 2 → rows_need_more follows Marked next mark ≡ false → mark < 2 ^ 64 - 2
mark_number true next mark most enough = (suffice next mark most enough).mark_is
mark_number false next mark most enough = let left = eqb-false mark (2 ^ 64 - 2) enough in omega (arith, most, left)

pub plan_mark_number : (tells : Type 0) (plan : Plan) (site : SiteState) (plant : PlantState) → MayLogByPlan tells plan site plant → are_rows_spent (follows_mark plan site.table.rows) Marked site ≡ false → site.mark.number < 2 ^ 64 - 2
plan_mark_number tells plan site plant may enough = mark_number (follows_mark plan site.table.rows) site.at.number site.mark.number (plan_fits tells plan site plant may).mark.most enough

-- The body has room for it.
pub plan_room : (tells : Type 0) (plan : Plan) (site : SiteState) (plant : PlantState) (room : ℕ) → MayLogByPlan tells plan site plant → room ≡ body_room site.controls → planned_room plan ≤ room
plan_room tells (Group formed) site plant room may is = room_formed site.controls formed.now.controls room formed.now.entries is may.may.controls may.few
plan_room tells (Command cut change) site plant room may is = let few = may.may.few in omega (arith, is, few)

module _ {V : Type 0} (site : SiteState) (plant : PlantState) (jobs : List (VolumeJob V)) (due : List Bool) (fits : FitsPlant site plant) (failed_is : map has_job_failed jobs ≡ site.failed) (home : are_home_from 0 jobs ≡ true) (flags : length due ≡ length jobs) where
  may_form : (plan : Plan) → All (IsOfSomeRow site.table.rows) (planned_entries plan) → MayForm (planned_entries plan) site.table.rows jobs due plant
  may_form plan entries = record {
    home = fits.home;
    volumes = omega (arith, length-map jobs has_job_failed, ap length failed_is, fits.failed);
    few = fits.lengths.volumes;
    idle = home;
    have = fits.rows;
    entries = entries;
    flags = flags;
  }

  -- It may be formed.
  pub plan_may_form : (tells : Type 0) (plan : Plan) → MayLogByPlan tells plan site plant → MayForm (planned_entries plan) site.table.rows jobs due plant
  plan_may_form tells (Group formed) may = may_form (Group formed) may.may.entries
  plan_may_form tells (Command cut change) may = may_form (Command cut change) (λ k e lt. absurd (omega (arith, lt)))

-- Volumes were read while it was formed.
pub record IsRead (tells : Type 0) (plan : Plan) (site : SiteState) (old mid : PlantState) (failed : List Bool) : Type 0 where
  pub works : WorksOnLent tells (IsOfEntries site.table.rows (planned_entries plan)) old mid
  pub reads : OnlyReads tells old mid
  pub home : NoneLent mid
  pub fails : FailByCounts site.failed failed old.faults mid.faults

-- ---- as it is formed first

-- A record of rows.
pub record IsFirstRows {P : Type 0} (state : P → PlantState) (tells : Type 0) (cut : Stamp) (change : Change) (site : SiteState) (old mid : P) (failed : List Bool) (now : BodyState) (placement : Placement) : Type 0 where
  pub may : MayLogRows tells cut.0 change site (state old)
  pub plant_is : mid ≡ old
  pub failed_is : failed ≡ site.failed
  pub held : BodyState
  pub forms : FormsChange site.level cut failed change site.table.rows held now
  pub placement_is : placement ≡ placement_from (state old) site.at site.mark.at now.items

abbrev pub IsFirstOf : {P : Type 0} → (state : P → PlantState) → (tells : Type 0) → Plan → SiteState → (old mid : P) → (failed : List Bool) → (now : BodyState) → Placement → Type 0
IsFirstOf state tells (Group formed) site old mid failed now placement = IsFirst tells formed.now site (state old) (state mid) failed now.items placement
IsFirstOf state tells (Command cut change) site old mid failed now placement = IsFirstRows state tells cut change.now site old mid failed now placement

-- the rows after it
abbrev pub rows_first : Plan → SiteState → (failed : List Bool) → List PairRow
rows_first (Group formed) site failed = rows_with_record site.level formed.now failed site.told
rows_first (Command cut change) site failed = rows_with_hits site.level cut.0 failed site.table.rows

module _ {P : Type 0} (state : P → PlantState) (tells : Type 0) (site : SiteState) (old mid : P) (held now : BodyState) (due was failed : List Bool) (hits : Hits) (none : HitDevices) (told : site.is_ahead ≡ false → site.told ≡ site.table.rows) (was_is : was ≡ site.failed) (no : AreDevices [] none) where
  pub first_of : (plan : Plan) (placement : Placement) → MayLogByPlan tells plan site (state old) → FormsByPlan tells plan (record { level = site.level; marked = none }) site.table.rows (state old) (state mid) held now due was failed hits → IsLeftByForming plan old mid was failed
      → placement ≡ placement_from (state mid) site.at site.mark.at now.items → IsFirstOf state tells plan site old mid failed now placement
  first_of (Group formed) placement may f left placement_is =
      is_first tells formed.now site (state old) (state mid) held now due was failed hits may.ready (told may.ready.level) f.items (f.are [] no) placement may.may was_is f.fails f.by_entries f.reads f.home f.works may.few placement_is
  first_of (Command cut change) placement may f left placement_is = record {
    may = may;
    plant_is = left.0;
    failed_is = left.1 ∙ was_is;
    held = held;
    forms = f.items;
    placement_is = placement_is ∙ ap (λ (m : P). placement_from (state m) site.at site.mark.at now.items) left.0;
  }

  pub first_rows_are : (plan : Plan) → MayLogByPlan tells plan site (state old) → FormsByPlan tells plan (record { level = site.level; marked = none }) site.table.rows (state old) (state mid) held now due was failed hits → rows_in_states (next_states plan hits) site.table.rows ≡ rows_first plan site failed
  first_rows_are (Group formed) may f = first_after tells formed.now site (state old) (state mid) held now due was failed hits may.ready (told may.ready.level) f.items (f.are [] no)
  first_rows_are (Command cut change) may f = hits_make_rows site.level cut failed site.table.rows hits (f.are [] no) (below_volumes (state old) 64 site.table.rows may.may.fast.fits.lengths.volumes may.may.fast.fits.rows)

-- ---- after a mark

-- The mark was made that a record follows.
pub record IsMarked (tells : Type 0) (site marked_site : SiteState) (old marked : PlantState) : Type 0 where
  pub is : marked_site ≡ after_next_mark site.mark.ended (rows_at_mark VolumeLevel site marked_site.failed) marked_site.failed site
  pub leaves : Leaves tells (λ e. none_excepted) site marked_site old marked
  pub makes : MakesMark tells site.mark.ended (rows_at_mark VolumeLevel site marked_site.failed) site marked_site old marked (Ok tt)
  pub works : WorksOn tells (IsOfMark site) old marked
  pub cause : HasStoreCause old.faults marked.faults (Ok tt)
  pub fails : FailByCounts site.failed marked_site.failed old.faults marked.faults

-- So it is where it reaches no other row.
pub is_marked : (tells : Type 0) (site marked_site : SiteState) (old marked : PlantState) (reach : Level) → reach ≡ VolumeLevel → marked_site ≡ after_next_mark site.mark.ended (rows_at_mark reach site marked_site.failed) marked_site.failed site → Leaves tells (λ e. none_excepted) site marked_site old marked
    → MakesMark tells site.mark.ended (rows_at_mark reach site marked_site.failed) site marked_site old marked (Ok tt) → WorksOn tells (IsOfMark site) old marked → HasStoreCause old.faults marked.faults (Ok tt) → FailByCounts site.failed marked_site.failed old.faults marked.faults → IsMarked tells site marked_site old marked
is_marked tells site marked_site old marked reach alone is leaves makes works cause fails = record {
  is = subst (λ (l : Level). marked_site ≡ after_next_mark site.mark.ended (rows_at_mark l site marked_site.failed) marked_site.failed site) alone is;
  leaves = leaves;
  makes = subst (λ (l : Level). MakesMark tells site.mark.ended (rows_at_mark l site marked_site.failed) site marked_site old marked (Ok tt)) alone makes;
  works = works;
  cause = cause;
  fails = fails;
}

-- A record of rows is formed again.
pub record AreRowsAfter {P : Type 0} (state : P → PlantState) (tells : Type 0) (cut : Stamp) (change : Change) (site marked_site : SiteState) (old : PlantState) (marked last : P) (failed : List Bool) (now : BodyState) : Type 0 where
  pub may : MayLogRows tells cut.0 change site old
  pub follow : names_rows change site.table.rows ≡ true
  pub enough : is_spent Marked site ≡ false
  pub choice : tells → (c : Choice) × IsChoice old old.clock c
  pub plant_is : last ≡ marked
  pub there : marked_site ≡ with_told_mark (told_by_mark failed site) failed site
  pub held : BodyState
  pub forms : FormsChange site.level cut failed change site.table.rows held now
  pub leaves : Leaves tells (λ e. none_excepted) site (with_told_mark (told_by_mark failed site) failed site) old (state marked)
  pub makes : MakesMark tells site.mark.ended (told_by_mark failed site) site (with_told_mark (told_by_mark failed site) failed site) old (state marked) (Ok tt)
  pub works : WorksOn tells (IsOfMark site) old (state marked)

abbrev pub IsAfterOf : {P : Type 0} → (state : P → PlantState) → (tells : Type 0) → Plan → (site marked_site : SiteState) → (old : PlantState) → (marked last : P) → (failed : List Bool) → (now : BodyState) → Type 0
IsAfterOf state tells (Group formed) site marked_site old marked last failed now = IsAfter tells formed.now site marked_site old (state marked) (state last) failed now.items
IsAfterOf state tells (Command cut change) site marked_site old marked last failed now = AreRowsAfter state tells cut change.now site marked_site old marked last failed now

abbrev pub rows_later : Plan → (site marked_site : SiteState) → (failed : List Bool) → List PairRow
rows_later (Group formed) site marked_site failed = rows_after formed.now site marked_site failed
rows_later (Command cut change) site marked_site failed = rows_with_hits marked_site.level cut.0 failed marked_site.table.rows

module _ {P : Type 0} (state : P → PlantState) (tells : Type 0) (site marked_site : SiteState) (old : PlantState) (marked : P) (told : site.is_ahead ≡ false → site.told ≡ site.table.rows) (m : IsMarked tells site marked_site old (state marked)) where
  made : site.is_ahead ≡ false → MadeMark tells site marked_site old (state marked)
  made level = made_mark tells site marked_site old (state marked) level m.is m.leaves m.makes m.works m.fails

  -- It may be formed there, too.
  pub later_may_form : {V : Type 0} (jobs : List (VolumeJob V)) (due : List Bool) → map has_job_failed jobs ≡ marked_site.failed → are_home_from 0 jobs ≡ true → length due ≡ length jobs → (plan : Plan) → MayLogByPlan tells plan site old → MayForm (planned_entries plan) marked_site.table.rows jobs due (state marked)
  later_may_form jobs due failed_is home flags (Group formed) may = may_form marked_site (state marked) jobs due m.leaves.fits failed_is home flags (Group formed) (after_entries tells formed.now site marked_site old (state marked) may.ready may.may (told may.ready.level) (made may.ready.level))
  later_may_form jobs due failed_is home flags (Command cut change) may = may_form marked_site (state marked) jobs due m.leaves.fits failed_is home flags (Command cut change) (λ k e lt. absurd (omega (arith, lt)))

  -- A command's table is ahead of the rows on the devices, and the mark leaves it so.
  command_there : (cut : Stamp) (change : Change) (failed : List Bool) → MayLogRows tells cut.0 change site old → names_rows change site.table.rows ≡ true → failed ≡ marked_site.failed → marked_site ≡ with_told_mark (told_by_mark failed site) failed site
  command_there cut change failed may follow same =
      m.is ∙ after_ahead site.mark.ended (rows_at_mark VolumeLevel site marked_site.failed) marked_site.failed site (may.may.ahead (some_items (changed_items change site.table.rows) follow))
      ∙ ap (λ (rows : List PairRow). with_told_mark rows marked_site.failed site) (hits_alone site.time marked_site.failed site.told) ∙ ap (λ (f : List Bool). with_told_mark (told_by_mark f site) f site) (sym same)

  module _ (last : P) (held now : BodyState) (due was failed : List Bool) (hits : Hits) (hit : HitDevices) (was_is : was ≡ marked_site.failed) (hit_is : AreDevices (hit_now marked_site.failed site.table.rows) hit) where
    hit_told : site.is_ahead ≡ false → AreDevices (hit_now marked_site.failed site.told) hit
    hit_told level = subst (λ (rows : List PairRow). AreDevices (hit_now marked_site.failed rows) hit) (sym (told level)) hit_is

    pub after_of : (plan : Plan) → MayLogByPlan tells plan site old → follows_mark plan site.table.rows ≡ true → are_rows_spent true Marked site ≡ false → (tells → (c : Choice) × IsChoice old old.clock c)
        → FormsByPlan tells plan (record { level = marked_site.level; marked = hit }) marked_site.table.rows (state marked) (state last) held now due was failed hits → IsLeftByForming plan marked last was failed → IsAfterOf state tells plan site marked_site old marked last failed now
    after_of (Group formed) may follow enough choice f left =
        let level = may.ready.level in
        let numbers = suffice site.at.number site.mark.number may.ready.fast.fits.mark.most enough in
        let next : site.at.number < 2 ^ 64 - 2 = let low = numbers.next_is in omega (arith, low) in
        is_after tells formed.now site marked_site old (state marked) may.ready may.may (told level) (made level) (state last) held now due was failed hits f.items (f.are (hit_now marked_site.failed site.told) (hit_told level)) next was_is f.fails f.by_entries f.reads f.home f.works may.few
    after_of (Command cut change) may follow enough choice f left =
        let same : failed ≡ marked_site.failed = left.1 ∙ was_is in
        let there = command_there cut change.now failed may follow same in
        let alone = makes_alone tells site.mark.ended marked_site.failed site marked_site old (state marked) (Ok tt) m.makes in
        record {
          may = may;
          follow = follow;
          enough = enough;
          choice = choice;
          plant_is = left.0;
          there = there;
          held = held;
          forms = subst (λ (x : SiteState). FormsChange x.level cut failed change.now x.table.rows held now) there f.items;
          leaves = subst (λ (x : SiteState). Leaves tells (λ e. none_excepted) site x old (state marked)) there m.leaves;
          makes = subst (λ (x : Type 0). x) (λ i. MakesMark tells site.mark.ended (told_by_mark (sym same i) site) site (there i) old (state marked) (Ok tt)) alone;
          works = m.works;
        }

    pub later_rows_are : (plan : Plan) → MayLogByPlan tells plan site old → FormsByPlan tells plan (record { level = marked_site.level; marked = hit }) marked_site.table.rows (state marked) (state last) held now due was failed hits → rows_in_states (next_states plan hits) marked_site.table.rows ≡ rows_later plan site marked_site failed
    later_rows_are (Group formed) may f =
        let level = may.ready.level in
        rows_come_after tells formed.now site marked_site old (state marked) may.ready may.may (told level) (made level) (state last) held now due was failed hits f.items (f.are (hit_now marked_site.failed site.told) (hit_told level))
    later_rows_are (Command cut change) may f = hits_make_rows marked_site.level cut failed marked_site.table.rows hits (f.are (hit_now marked_site.failed site.table.rows) hit_is) (below_volumes (state marked) 64 marked_site.table.rows m.leaves.fits.lengths.volumes m.leaves.fits.rows)

-- ---- the body, and for which volumes there are items

module _ (tells : Type 0) (level : Level) (rows : List PairRow) (plant : PlantState) (held now : BodyState) (due failed : List Bool) (hits : Hits) where
  pub room_still : (plan : Plan) → FormsItems tells plan level rows plant held now due failed hits → now.room ≡ held.room
  room_still (Group formed) f = f.room
  room_still (Command cut change) f = ap (λ (h : BodyState). h.room) f.now_is

  pub due_still : (plan : Plan) → FormsItems tells plan level rows plant held now due failed hits → items_wait plan ≡ true → (d : ℕ) → slice_index_or due d false ≡ has_device d now.items
  due_still (Group formed) f wait d = f.due_is d
  due_still (Command cut change) f wait d = absurd cc
