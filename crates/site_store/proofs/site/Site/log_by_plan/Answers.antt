use Rattle.std.proofs.Common.{◌≡◌, ◌≢◌, ◌<◌, Bool, true, false, cond, List, [], length, map, Ok, Err, Result, sym, ap, subst, ◌∙◌, arith}
use Rattle.std.specs.Prelude.{IsErrOf, slice_index_or}
use Rattle.std.specs.Vec.{with_items}
use Rattle.std.proofs.lemmas.List.{with_items_is}
use Rattle.std.proofs.lemmas.Result.{err_from_is_err_and}
use Rattle.tod_stamp.specs.declared.stamp.Stamp.{Stamp}
use Rattle.crash_plant.specs.declared.device.Device.TheVariants.{Journal}
use Rattle.crash_plant.specs.Choices.{IsChoice}
use Rattle.crash_plant.specs.Moments.{PlantState}
use Rattle.pair_table.specs.Tables.{Table, with_rows}
use Rattle.site_store.specs.declared.store_error.StoreError.{StoreError}
use Rattle.site_store.specs.declared.store_error.StoreError.TheVariants.{Spent}
use Rattle.site_store.specs.declared.placement.Placement.TheVariants.{Marked}
use Rattle.site_store.specs.Causes.{FailByCounts}
use Rattle.site_store.specs.Jobs.{are_home_from, body_room, has_job_failed}
use Rattle.site_store.specs.Plans.{IsRecorded, IsPlanUnwritten, MayLogByPlan, planned_cut, follows_mark, next_states}
use Rattle.site_store.specs.Recording.{MayPutRecord, ShowsRecord, group_with}
use Rattle.site_store.specs.RowRecords.{are_rows_spent, rows_need_more}
use Rattle.record_rows.specs.ChangedRows.{rows_in_states}
use Rattle.site_store.specs.declared.placement.Placement.{Placement}
use Rattle.site_store.specs.Sites.{SiteState}
use Rattle.site_store.proofs.Below.{below_volumes}
use Rattle.site_store.proofs.LogReads.{with_failed}
use Rattle.site_store.proofs.PlanEnds.{first_again, first_may, marked_recorded, plan_site, put_recorded, spent_recorded, spent_unwritten}
use Rattle.site_store.proofs.PlanForms.{IsFirstOf, IsRead, due_still, first_of, first_rows_are, plan_fits, plan_idle, plan_may_form, plan_room, room_still, rows_first}
use Rattle.site_store.proofs.RowRoom.{reads_choice}
use Rattle.site_store.proofs.Views.{last_placement}
use Rattle.site_store.proofs.site.Site.log_by_plan.Given as given
use Rattle.site_store.proofs.site.Site.log_by_plan.Goals as goal
use Rattle.site_store.proofs.site.Site.log_by_plan.Goals.{After-placement_from-placement}

-- ---- the record is formed

pub form-hits-requires-clause-may : goal.form-hits-requires-clause-may
form-hits-requires-clause-may g c κs within =
    let s = c.self.inside in
    let old = g.P.Plant.state c.args.plant.now in
    let site : SiteState = record { controls = s.controls; level = s.level; table = s.table; is_ahead = s.ahead; told = cond s.ahead s.told.rows s.table.rows; time = s.time.0; mark = s.mark; at = s.journal.at; since = s.since; waiting = cond s.waits s.body.items []; failed = map has_job_failed s.jobs.items; written = s.written.items } in
    let may : MayLogByPlan g.P.Plant.tells c.args.plan.now site old = subst (λ (x : SiteState). MayLogByPlan g.P.Plant.tells c.args.plan.now x old) (sym c.self.view_is) c.requires.may in
    let was_long : length c.deref_mut.result.now ≡ length s.jobs.items = λ i. length (c.deref_mut.ensures.value i) in
    plan_may_form site old c.deref_mut.result.now c.as_mut_slice-due.result.now (plan_fits g.P.Plant.tells c.args.plan.now site old may) (λ i. map has_job_failed (c.deref_mut.ensures.value i)) ((λ i. are_home_from 0 (c.deref_mut.ensures.value i)) ∙ c.self.invariant.home)
    (omega (arith, ap length c.as_mut_slice-due.ensures.value, was_long, c.self.invariant.flags)) g.P.Plant.tells c.args.plan.now may

pub form-hits-requires-clause-room : goal.form-hits-requires-clause-room
form-hits-requires-clause-room g c κs within =
    let old = g.P.Plant.state c.args.plant.now in
    plan_room g.P.Plant.tells c.args.plan.now c.args.self.now old c.self.inside.body.room c.requires.may (c.self.invariant.room_is ∙ ap (λ (x : SiteState). body_room x.controls) c.self.view_is)

pub placement_from-placement-requires-clause-set : goal.placement_from-placement-requires-clause-set
placement_from-placement-requires-clause-set g c κs within =
    let old = g.P.Plant.state c.args.plant.now in
    let fits = plan_fits g.P.Plant.tells c.args.plan.now c.args.self.now old c.requires.may in
    omega (arith, fits.set, ap (λ (x : SiteState). x.at.set) c.self.view_is, c.form-hits.ensures.forms.works.site.journals)

pub placement_from-placement-requires-clause-room : goal.placement_from-placement-requires-clause-room
placement_from-placement-requires-clause-room g c κs within =
    let old = g.P.Plant.state c.args.plant.now in
    let fits = plan_fits g.P.Plant.tells c.args.plan.now c.args.self.now old c.requires.may in
    omega (arith, fits.room, ap (λ (x : SiteState). x.at.place) c.self.view_is, ap (λ (x : SiteState). old.lengths (Journal x.at.set)) c.self.view_is, c.form-hits.ensures.forms.works.site.lengths (Journal c.self.inside.journal.at.set))

-- ---- the record that was formed, and its placement

-- the site as its fields show it
abbrev site : (g : given.Over) (c : After-placement_from-placement g) → SiteState
site g c = let s = c.self.inside in record { controls = s.controls; level = s.level; table = s.table; is_ahead = s.ahead; told = cond s.ahead s.told.rows s.table.rows; time = s.time.0; mark = s.mark; at = s.journal.at; since = s.since; waiting = cond s.waits s.body.items []; failed = map has_job_failed s.jobs.items; written = s.written.items }

abbrev old : (g : given.Over) (c : After-placement_from-placement g) → PlantState
old g c = g.P.Plant.state c.args.plant.now

-- the plant once it was formed, and the jobs that have failed by then
abbrev mid : (g : given.Over) (c : After-placement_from-placement g) → PlantState
mid g c = g.P.Plant.state c.form-hits.new.plant

abbrev failed : (g : given.Over) (c : After-placement_from-placement g) → List Bool
failed g c = map has_job_failed c.form-hits.new.jobs

may : (g : given.Over) (c : After-placement_from-placement g) → MayLogByPlan g.P.Plant.tells c.args.plan.now (site g c) (old g c)
may g c = subst (λ (x : SiteState). MayLogByPlan g.P.Plant.tells c.args.plan.now x (old g c)) (sym c.self.view_is) c.requires.may

was_is : (g : given.Over) (c : After-placement_from-placement g) → map has_job_failed c.deref_mut.result.now ≡ (site g c).failed
was_is g c = λ i. map has_job_failed (c.deref_mut.ensures.value i)

-- Where no change waits the devices tell the table's rows.
told_is : (g : given.Over) (c : After-placement_from-placement g) → (site g c).is_ahead ≡ false → (site g c).told ≡ (site g c).table.rows
told_is g c level = ap (λ (b : Bool). cond b c.self.inside.told.rows c.self.inside.table.rows) level

first : (g : given.Over) (c : After-placement_from-placement g) → IsFirstOf g.P.Plant.state g.P.Plant.tells c.args.plan.now (site g c) c.args.plant.now c.form-hits.new.plant (failed g c) c.form-hits.new.body c.placement_from-placement.result
first g c =
    first_of g.P.Plant.state g.P.Plant.tells (site g c) c.args.plant.now c.form-hits.new.plant c.self.inside.body c.form-hits.new.body c.form-hits.new.due (map has_job_failed c.deref_mut.result.now) (failed g c) c.form-hits.result c.no_devices-none.result (told_is g c) (was_is g c) c.no_devices-none.ensures c.args.plan.now c.placement_from-placement.result (may g c) c.form-hits.ensures.forms c.form-hits.ensures.left c.placement_from-placement.ensures

-- the rows after it
rows_are : (g : given.Over) (c : After-placement_from-placement g) → rows_in_states (next_states c.args.plan.now c.form-hits.result) c.self.inside.table.rows ≡ rows_first c.args.plan.now (site g c) (failed g c)
rows_are g c = first_rows_are g.P.Plant.state g.P.Plant.tells (site g c) c.args.plant.now c.form-hits.new.plant c.self.inside.body c.form-hits.new.body c.form-hits.new.due (map has_job_failed c.deref_mut.result.now) (failed g c) c.form-hits.result c.no_devices-none.result (told_is g c) (was_is g c) c.no_devices-none.ensures c.args.plan.now (may g c) c.form-hits.ensures.forms

reads : (g : given.Over) (c : After-placement_from-placement g) → IsRead g.P.Plant.tells c.args.plan.now (site g c) (old g c) (mid g c) (failed g c)
reads g c =
    let f = c.form-hits.ensures.forms in
    record { works = f.works; reads = f.reads; home = f.home; fails = subst (λ (l : List Bool). FailByCounts l (failed g c) (old g c).faults (mid g c).faults) (was_is g c) f.fails }

read : (g : given.Over) (c : After-placement_from-placement g) → g.P.Plant.tells → IsChoice (mid g c) (mid g c).clock (mid g c).bytes
read g c told = reads_choice (mid g c) c.form-hits.ensures.forms.home (λ d there. g.met.P.Plant.read_is_image c.form-hits.new.plant d told there)

cut_is : (g : given.Over) (c : After-placement_from-placement g) → c.cut-cut.result.0 ≡ (planned_cut c.args.plan.now).0
cut_is g c = ap (λ (t : Stamp). t.0) c.cut-cut.ensures

shows_is : (g : given.Over) (c : After-placement_from-placement g) (new : PlantState) (result : Result (Unit {0}) StoreError) → ShowsRecord g.P.Plant.tells c.placement_from-placement.result c.self.inside.journal.marked c.self.inside.journal.at (group_with c.cut-cut.result.0 c.form-hits.new.body.items) (mid g c) new result
    → ShowsRecord g.P.Plant.tells c.placement_from-placement.result (site g c).mark.at (site g c).at (group_with (planned_cut c.args.plan.now).0 c.form-hits.new.body.items) (mid g c) new result
shows_is g c new result = subst (λ (x : Type 0). x) (λ i. ShowsRecord g.P.Plant.tells c.placement_from-placement.result (c.self.invariant.marked_is i) (site g c).at (group_with (cut_is g c i) c.form-hits.new.body.items) (mid g c) new result)

set_there : (g : given.Over) (c : After-placement_from-placement g) → (site g c).at.set < (mid g c).journals
set_there g c = let fits = plan_fits g.P.Plant.tells c.args.plan.now (site g c) (old g c) (may g c) in omega (arith, fits.set, c.form-hits.ensures.forms.works.site.journals)

numbers_are : (g : given.Over) (c : After-placement_from-placement g) → rows_need_more c.follows_mark-follows.result c.placement_from-placement.result c.self.inside.journal.at.number c.self.inside.mark.number ≡ are_rows_spent (follows_mark c.args.plan.now (site g c).table.rows) c.placement_from-placement.result (site g c)
numbers_are g c = ap (λ (f : Bool). are_rows_spent f c.placement_from-placement.result (site g c)) c.follows_mark-follows.ensures

-- ---- the jobs and the flags

now_is : (g : given.Over) (c : After-placement_from-placement g) → (with_items c.self.inside.jobs c.form-hits.new.jobs).items ≡ c.form-hits.new.jobs
now_is g c = with_items_is c.self.inside.jobs c.form-hits.new.jobs (omega (arith, c.form-hits.auto.jobs, c.deref_mut.ensures.len, c.self.inside.jobs.ok.0))

failed_is : (g : given.Over) (c : After-placement_from-placement g) → map has_job_failed (with_items c.self.inside.jobs c.form-hits.new.jobs).items ≡ failed g c
failed_is g c = λ i. map has_job_failed (now_is g c i)

due_is : (g : given.Over) (c : After-placement_from-placement g) → (with_items c.self.inside.due c.form-hits.new.due).items ≡ c.form-hits.new.due
due_is g c = with_items_is c.self.inside.due c.form-hits.new.due (omega (arith, c.form-hits.auto.due, c.as_mut_slice-due.ensures.len, c.self.inside.due.ok.0))

room_is : (g : given.Over) (c : After-placement_from-placement g) → c.form-hits.new.body.room ≡ body_room c.self.inside.controls
room_is g c =
    let s = c.self.inside in
    room_still g.P.Plant.tells s.level s.table.rows (old g c) s.body c.form-hits.new.body c.form-hits.new.due (failed g c) c.form-hits.result c.args.plan.now c.form-hits.ensures.forms.items ∙ c.self.invariant.room_is

flags : (g : given.Over) (c : After-placement_from-placement g) → length (with_items c.self.inside.due c.form-hits.new.due).items ≡ length (with_items c.self.inside.jobs c.form-hits.new.jobs).items
flags g c =
    let jobs_long : length (with_items c.self.inside.jobs c.form-hits.new.jobs).items ≡ length c.form-hits.new.jobs = λ i. length (now_is g c i) in
    let was_long : length c.deref_mut.result.now ≡ length c.self.inside.jobs.items = λ i. length (c.deref_mut.ensures.value i) in
    omega (arith, ap length (due_is g c), jobs_long, c.form-hits.auto.due, ap length c.as_mut_slice-due.ensures.value, was_long, c.self.invariant.flags, c.form-hits.auto.jobs)

home : (g : given.Over) (c : After-placement_from-placement g) → are_home_from 0 (with_items c.self.inside.jobs c.form-hits.new.jobs).items ≡ true
home g c = (λ i. are_home_from 0 (now_is g c i)) ∙ c.form-hits.ensures.idle

-- the site that goes on from it without a record, as its fields show it
abbrev formed : (g : given.Over) (c : After-placement_from-placement g) → SiteState
formed g c = record (site g c) { waiting = []; failed = map has_job_failed (with_items c.self.inside.jobs c.form-hits.new.jobs).items }

formed_is : (g : given.Over) (c : After-placement_from-placement g) → formed g c ≡ with_failed (failed g c) (site g c)
formed_is g c = λ i. record (site g c) { waiting = sym (plan_idle g.P.Plant.tells c.args.plan.now (site g c) (old g c) (may g c)) i; failed = failed_is g c i }

-- ---- the numbers don't suffice

pub invariant_of-self : goal.invariant_of-self
invariant_of-self g c =
    let f = (goal.at.invariant_of-self g c).After-placement_from-placement in
    record { room_is = room_is g f; marked_is = c.self.invariant.marked_is; told_is = c.self.invariant.told_is; home = home g f; flags = flags g f; due_is = λ waits. absurd (cc waits) }

pub returns-then-needs_more : goal.returns-then-needs_more
returns-then-needs_more g c =
    let f = (goal.at.returns-then-needs_more g c).After-placement_from-placement in
    let tells = g.P.Plant.tells in
    let plan = c.args.plan.now in
    let now = c.form-hits.new.body in
    let placement = c.placement_from-placement.result in
    let spent = sym (c.needs_more.ensures ∙ numbers_are g f) ∙ c.if-needs_more.true in
    record {
      recorded = subst (λ (s : SiteState). IsRecorded tells plan s (formed g f) (old g f) (mid g f) (Err Spent)) c.self.view_is (spent_recorded g.P.Plant.state tells plan (site g f) (formed g f) c.args.plant.now c.form-hits.new.plant (failed g f) now placement (first g f) (reads g f) spent (failed_is g f));
      unwritten = λ error. subst (λ (s : SiteState). IsPlanUnwritten tells plan s (formed g f) (old g f) (mid g f) c.args.plant.now c.form-hits.new.plant) c.self.view_is
          (spent_unwritten g.P.Plant.state tells plan (site g f) (formed g f) c.args.plant.now c.form-hits.new.plant (failed g f) now placement c.args.plant.now c.form-hits.new.plant (map has_job_failed c.deref_mut.result.now) (first g f) (formed_is g f) c.form-hits.ensures.left);
    }

-- ---- a mark comes first

pub invariant_of-self-then-eq : goal.invariant_of-self-then-eq
invariant_of-self-then-eq g c =
    let f = (goal.at.invariant_of-self-then-eq g c).After-placement_from-placement in
    record { room_is = room_is g f; marked_is = c.self.invariant.marked_is; told_is = c.self.invariant.told_is; home = home g f; flags = flags g f; due_is = λ waits. absurd (cc waits) }

pub log_after_mark-requires-clause-may : goal.log_after_mark-requires-clause-may
log_after_mark-requires-clause-may g c κs within =
    let f = (goal.at.log_after_mark-requires-clause-may g c).After-placement_from-placement in
    first_again g.P.Plant.state g.P.Plant.tells c.args.plan.now (site g f) (formed g f) c.args.plant.now c.form-hits.new.plant (failed g f) c.form-hits.new.body c.placement_from-placement.result (may g f) (first g f) (formed_is g f)

pub log_after_mark-requires-clause-rows : goal.log_after_mark-requires-clause-rows
log_after_mark-requires-clause-rows g c κs within =
    let f = (goal.at.log_after_mark-requires-clause-rows g c).After-placement_from-placement in
    told_is g f

pub log_after_mark-requires-clause-follows : goal.log_after_mark-requires-clause-follows
log_after_mark-requires-clause-follows g c κs within = c.follows_mark-follows.ensures

pub log_after_mark-requires-clause-numbers : goal.log_after_mark-requires-clause-numbers
log_after_mark-requires-clause-numbers g c κs within =
    let marked = last_placement c.placement_from-placement.result (λ is. let no = (rw is at c.eq.ensures) in let yes = c.if-eq.true in cc (no, yes)) (λ is. let no = (rw is at c.eq.ensures) in let yes = c.if-eq.true in cc (no, yes)) in
    ap (λ (w : Placement). rows_need_more c.follows_mark-follows.result w c.self.inside.journal.at.number c.self.inside.mark.number) (sym marked) ∙ sym c.needs_more.ensures ∙ c.if-needs_more.false

pub returns-then-eq : goal.returns-then-eq
returns-then-eq g c =
    let f = (goal.at.returns-then-eq g c).After-placement_from-placement in
    let tells = g.P.Plant.tells in
    let plan = c.args.plan.now in
    let placement = c.placement_from-placement.result in
    let enough = sym (c.needs_more.ensures ∙ numbers_are g f) ∙ c.if-needs_more.false in
    let marked = last_placement placement (λ is. let no = (rw is at c.eq.ensures) in let yes = c.if-eq.true in cc (no, yes)) (λ is. let no = (rw is at c.eq.ensures) in let yes = c.if-eq.true in cc (no, yes)) in
    let k = c.log_after_mark in
    let new = g.P.Plant.state k.new.plant in
    record {
      recorded = subst (λ (s : SiteState). IsRecorded tells plan s k.new.self (old g f) new k.result) c.self.view_is
          (marked_recorded g.P.Plant.state tells plan (site g f) (formed g f) k.new.self c.args.plant.now c.form-hits.new.plant new (failed g f) c.form-hits.new.body placement k.result (first g f) (reads g f) (formed_is g f) marked enough k.ensures.unspent k.ensures.recorded);
      unwritten = λ spent. absurd (k.ensures.unspent spent);
    }

-- ---- it is put

pub put_record-requires-clause-may : goal.put_record-requires-clause-may
put_record-requires-clause-may g c κs within =
    let f = (goal.at.put_record-requires-clause-may g c).After-placement_from-placement in
    let tells = g.P.Plant.tells in
    let plan = c.args.plan.now in
    let now = c.form-hits.new.body in
    let placement = c.placement_from-placement.result in
    let enough = sym (c.needs_more.ensures ∙ numbers_are g f) ∙ c.if-needs_more.false in
    let plain : placement ≢ Marked = λ is. let yes = (rw is at c.eq.ensures) in let no = c.if-eq.false in cc (yes, no) in
    let size = λ (told : tells). g.met.P.Plant.length_told c.form-hits.new.plant (Journal (site g f).at.set) told (set_there g f) in
    subst (λ (x : Type 0). x) (λ i. MayPutRecord tells placement (sym c.self.invariant.marked_is i) (site g f).at (sym (cut_is g f) i) now.items (mid g f)) (first_may g.P.Plant.state tells plan (site g f) c.args.plant.now c.form-hits.new.plant (failed g f) now placement (first g f) plain enough (read g f) size)

pub invariant_of-self-in_err-put_record : goal.invariant_of-self-in_err-put_record
invariant_of-self-in_err-put_record g c =
    let f = (goal.at.invariant_of-self-in_err-put_record g c).After-placement_from-placement in
    record { room_is = room_is g f; marked_is = c.put_record.ensures.marked ∙ c.self.invariant.marked_is; told_is = c.self.invariant.told_is; home = home g f; flags = flags g f; due_is = λ waits. absurd (cc waits) }

pub returns-in_err-put_record : goal.returns-in_err-put_record
returns-in_err-put_record g c =
    let f = (goal.at.returns-in_err-put_record g c).After-placement_from-placement in
    let tells = g.P.Plant.tells in
    let plan = c.args.plan.now in
    let s = c.self.inside in
    let now = c.form-hits.new.body in
    let placement = c.placement_from-placement.result in
    let enough = sym (c.needs_more.ensures ∙ numbers_are g f) ∙ c.if-needs_more.false in
    let plain : placement ≢ Marked = λ is. let yes = (rw is at c.eq.ensures) in let no = c.if-eq.false in cc (yes, no) in
    let new = g.P.Plant.state c.put_record.new.plant in
    let last : SiteState = record (formed g f) { at = c.put_record.new.journal.at } in
    let error = c.in_err-put_record.field-0.0 in
    let result = c.from_residual.result in
    let failing = err_from_is_err_and result c.from_residual.ensures.1 in
    let err_is : Err error ≡ result = cc (failing.1, failing.2) in
    let k = c.in_err-put_record.ensures in
    let unspent : ¬ IsErrOf {T = Unit {0}} (Err error) Spent = k.unspent in
    let by : IsRecorded tells plan (site g f) last (old g f) new (Err error) =
    put_recorded g.P.Plant.state tells plan (site g f) last c.args.plant.now c.form-hits.new.plant new (failed g f) now placement (Err error) (first g f) (reads g f) plain enough unspent (failed_is g f) (read g f) k.only (shows_is g f new (Err error) k.shows) tt k.cause in
    record {
      recorded = subst (λ (x : Type 0). x) (λ i. IsRecorded tells plan (c.self.view_is i) last (old g f) new (err_is i)) by;
      unwritten = λ spent. absurd (subst (λ (r : Result (Unit {0}) StoreError). ¬ IsErrOf r Spent) err_is unspent spent);
    }

pub take_rows-requires : goal.take_rows-requires
take_rows-requires g c =
    let f = (goal.at.take_rows-requires g c).After-placement_from-placement in
    let fits = plan_fits g.P.Plant.tells c.args.plan.now (site g f) (old g f) (may g f) in
    below_volumes (old g f) 64 c.self.inside.table.rows fits.lengths.volumes fits.rows

pub invariant_of-self-2 : goal.invariant_of-self-2
invariant_of-self-2 g c =
    let f = (goal.at.invariant_of-self-2 g c).After-placement_from-placement in
    let s = c.self.inside in
    record {
      room_is = room_is g f;
      marked_is = c.put_record.ensures.marked ∙ c.self.invariant.marked_is;
      told_is = c.self.invariant.told_is ∙ sym (ap (λ (t : Table). t.session) c.take_rows.ensures);
      home = home g f;
      flags = flags g f;
      due_is = λ waits d. (λ i. slice_index_or (due_is g f i) d false)
          ∙ due_still g.P.Plant.tells s.level s.table.rows (old g f) s.body c.form-hits.new.body c.form-hits.new.due (failed g f) c.form-hits.result c.args.plan.now c.form-hits.ensures.forms.items (sym c.items_wait-self-inside.ensures ∙ waits) d;
    }

pub returns : goal.returns
returns g c =
    let f = (goal.at.returns g c).After-placement_from-placement in
    let tells = g.P.Plant.tells in
    let plan = c.args.plan.now in
    let s = c.self.inside in
    let now = c.form-hits.new.body in
    let placement = c.placement_from-placement.result in
    let enough = sym (c.needs_more.ensures ∙ numbers_are g f) ∙ c.if-needs_more.false in
    let plain : placement ≢ Marked = λ is. let yes = (rw is at c.eq.ensures) in let no = c.if-eq.false in cc (yes, no) in
    let new = g.P.Plant.state c.put_record.new.plant in
    let rows = rows_first plan (site g f) (failed g f) in
    let table_is : c.take_rows.new.table ≡ with_rows s.table rows = c.take_rows.ensures ∙ ap (with_rows s.table) (rows_are g f) in
    let last : SiteState = record (site g f) { table = c.take_rows.new.table; is_ahead = false; told = c.take_rows.new.table.rows; time = c.cut-cut.result.0; at = c.put_record.new.journal.at; since = c.since_after-self-inside.result; waiting = cond c.items_wait-self-inside.result now.items []; failed = map has_job_failed (with_items s.jobs c.form-hits.new.jobs).items } in
    let last_is : last ≡ plan_site (mid g f).journals placement plan now.items rows (with_failed (failed g f) (site g f)) =
    λ i. record (site g f) { table = table_is i; is_ahead = false; told = (table_is i).rows; time = cut_is g f i; at = c.in_ok-put_record.ensures.at i; since = c.since_after-self-inside.ensures i; waiting = cond (c.items_wait-self-inside.ensures i) now.items []; failed = failed_is g f i } in
    let k = c.in_ok-put_record.ensures in
    record {
      recorded = subst (λ (x : SiteState). IsRecorded tells plan x last (old g f) new (Ok tt)) c.self.view_is
          (put_recorded g.P.Plant.state tells plan (site g f) last c.args.plant.now c.form-hits.new.plant new (failed g f) now placement (Ok tt) (first g f) (reads g f) plain enough (λ e. cc e) (failed_is g f) (read g f) k.only (shows_is g f new (Ok tt) k.shows) last_is k.cause);
      unwritten = λ spent. cc spent;
    }
