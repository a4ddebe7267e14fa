use Rattle.std.proofs.Common.{rules, ◌≡◌, ◌<◌, Bool, true, false, cond, List, [], length, map, Ok, Err, Result, sym, ap, subst, ◌∙◌, arith}
use Rattle.std.specs.Prelude.{IsErrOf, slice_index_or}
use Rattle.std.specs.Vec.{with_items}
use Rattle.std.proofs.lemmas.List.{with_items_is}
use Rattle.std.proofs.lemmas.Result.{err_from_is_err_and}
use Rattle.tod_stamp.specs.declared.stamp.Stamp.{Stamp}
use Rattle.crash_plant.specs.declared.device.Device.TheVariants.{Journal}
use Rattle.crash_plant.specs.Choices.{IsChoice}
use Rattle.crash_plant.specs.Moments.{PlantState}
use Rattle.pair_table.specs.declared.level.Level.{Level}
use Rattle.pair_table.specs.Tables.{Table, with_rows}
use Rattle.record_rows.specs.ChangedRows.{rows_in_states}
use Rattle.record_rows.specs.Hits.{hit_now}
use Rattle.site_store.specs.declared.store_error.StoreError.{StoreError}
use Rattle.site_store.specs.declared.store_error.StoreError.TheVariants.{Spent}
use Rattle.site_store.specs.declared.placement.Placement.TheVariants.{Marked}
use Rattle.site_store.specs.Causes.{FailByCounts}
use Rattle.site_store.specs.Hits.{AreDevices}
use Rattle.site_store.specs.Jobs.{are_home_from, body_room, has_job_failed}
use Rattle.site_store.specs.Marking.{MakesMark, after_next_mark, rows_at_mark}
use Rattle.site_store.specs.Plans.{IsRecordedAfterMark, planned_cut, follows_mark, next_states, reach_by}
use Rattle.site_store.specs.Recording.{MayPutRecord, ShowsRecord, group_with}
use Rattle.site_store.specs.RowRecords.{are_rows_spent}
use Rattle.site_store.specs.Sites.{SiteState}
use Rattle.site_store.proofs.Below.{below_volumes}
use Rattle.site_store.proofs.LogReads.{with_failed}
use Rattle.site_store.proofs.PlanEnds.{after_may, after_recorded, alone_recorded, failed_recorded, plan_site}
use Rattle.site_store.proofs.PlanForms.{IsAfterOf, IsMarked, IsRead, after_of, due_still, is_marked, later_may_form, later_rows_are, plan_fast, plan_fits, plan_idle, plan_mark_number, plan_room, room_still, rows_later}
use Rattle.site_store.proofs.RowRoom.{reads_choice, some_choice}
use Rattle.site_store.proofs.site.Site.log_after_mark.Given as given
use Rattle.site_store.proofs.site.Site.log_after_mark.Goals as goal
use Rattle.site_store.proofs.site.Site.log_after_mark.Goals.{After-mark_first, After-form-hits}

-- ---- the mark

pub mark_first-requires-clause-number : goal.mark_first-requires-clause-number
mark_first-requires-clause-number g c κs within = plan_mark_number g.P.Plant.tells c.args.plan.now c.args.self.now (g.P.Plant.state c.args.plant.now) c.requires.may (ap (λ (f : Bool). are_rows_spent f Marked c.args.self.now) (sym c.requires.follows) ∙ c.requires.numbers)

pub mark_first-requires-clause-idle : goal.mark_first-requires-clause-idle
mark_first-requires-clause-idle g c κs within = plan_idle g.P.Plant.tells c.args.plan.now c.args.self.now (g.P.Plant.state c.args.plant.now) c.requires.may

pub mark_first-requires-clause-fast : goal.mark_first-requires-clause-fast
mark_first-requires-clause-fast g c κs within = plan_fast g.P.Plant.tells c.args.plan.now c.args.self.now (g.P.Plant.state c.args.plant.now) c.requires.may

-- how far it reaches
reach_is : (g : given.Over) (c : After-mark_first g) → c.reach_by-first.result ≡ reach_by c.args.follows c.args.self.now.level
reach_is g c = c.reach_by-first.ensures ∙ ap (λ (x : SiteState). reach_by c.args.follows x.level) c.self.view_is

pub returns-in_err-hit : goal.returns-in_err-hit
returns-in_err-hit g c =
    let f = (goal.at.returns-in_err-hit g c).After-mark_first in
    let tells = g.P.Plant.tells in
    let site = c.args.self.now in
    let k = c.mark_first in
    let old = g.P.Plant.state c.args.plant.now in
    let marked = g.P.Plant.state k.new.plant in
    let error = c.in_err-hit.field-0.0 in
    let result = c.from_residual.result in
    let err_is : Err error ≡ result = search rules in
    let m = c.in_err-hit.ensures in
    let makes = subst (λ (l : Level). MakesMark tells site.mark.ended (rows_at_mark l site k.new.self.failed) site k.new.self old marked (Err error)) (reach_is g f) m.makes in
    record {
      recorded = subst (λ (r : Result (Unit {0}) StoreError). IsRecordedAfterMark tells c.args.plan.now site k.new.self old marked r) err_is
          (failed_recorded tells site k.new.self old marked (plan_idle tells c.args.plan.now site old c.requires.may) c.args.plan.now c.args.follows error c.requires.follows makes k.ensures.only m.cause k.ensures.failed);
      unspent = search rules;
    }

-- It tells all.
pub returns-then-not-follows : goal.returns-then-not-follows
returns-then-not-follows g c =
    let f = (goal.at.returns-then-not-follows g c).After-mark_first in
    let tells = g.P.Plant.tells in
    let site = c.args.self.now in
    let k = c.mark_first in
    let old = g.P.Plant.state c.args.plant.now in
    let marked = g.P.Plant.state k.new.plant in
    let m = c.in_ok-hit.ensures in
    let reach : c.reach_by-first.result ≡ site.level = reach_is g f ∙ ap (λ (b : Bool). reach_by b site.level) c.if-not-follows.true in
    record {
      recorded = alone_recorded tells site k.new.self old marked (plan_idle tells c.args.plan.now site old c.requires.may) c.args.plan.now c.requires.may (sym c.if-not-follows.true ∙ c.requires.follows)
          (subst (λ (l : Level). k.new.self ≡ after_next_mark site.mark.ended (rows_at_mark l site k.new.self.failed) k.new.self.failed site) reach m.ok) (subst (λ (l : Level). MakesMark tells site.mark.ended (rows_at_mark l site k.new.self.failed) site k.new.self old marked (Ok tt)) reach m.makes)
          m.leaves k.ensures.only m.cause k.ensures.failed;
      unspent = λ e. cc e;
    }

-- ---- the record is formed after it

abbrev old : (g : given.Over) (c : After-form-hits g) → PlantState
old g c = g.P.Plant.state c.args.plant.now

abbrev marked : (g : given.Over) (c : After-form-hits g) → PlantState
marked g c = g.P.Plant.state c.mark_first.new.plant

-- the site after the mark as its fields show it
abbrev at : (g : given.Over) (c : After-form-hits g) → SiteState
at g c = let s = c.self-2.inside in record { controls = s.controls; level = s.level; table = s.table; is_ahead = s.ahead; told = cond s.ahead s.told.rows s.table.rows; time = s.time.0; mark = s.mark; at = s.journal.at; since = s.since; waiting = cond s.waits s.body.items []; failed = map has_job_failed s.jobs.items; written = s.written.items }

made : (g : given.Over) (c : After-form-hits g) → IsMarked g.P.Plant.tells c.args.self.now (at g c) (old g c) (marked g c)
made g c =
    let m = c.in_ok-hit.ensures in
    let reach = c.reach_by-first.ensures ∙ ap (λ (f : Bool). reach_by f c.self.inside.level) c.if-not-follows.false in
    subst (λ (x : SiteState). IsMarked g.P.Plant.tells c.args.self.now x (old g c) (marked g c)) (sym c.self-2.view_is)
    (is_marked g.P.Plant.tells c.args.self.now c.mark_first.new.self (old g c) (marked g c) c.reach_by-first.result reach m.ok m.leaves m.makes c.mark_first.ensures.only m.cause c.mark_first.ensures.failed)

pub form-hits-requires-clause-may : goal.form-hits-requires-clause-may
form-hits-requires-clause-may g c κs within =
    let s = c.self-2.inside in
    let old = g.P.Plant.state c.args.plant.now in
    let marked = g.P.Plant.state c.mark_first.new.plant in
    let at : SiteState = record { controls = s.controls; level = s.level; table = s.table; is_ahead = s.ahead; told = cond s.ahead s.told.rows s.table.rows; time = s.time.0; mark = s.mark; at = s.journal.at; since = s.since; waiting = cond s.waits s.body.items []; failed = map has_job_failed s.jobs.items; written = s.written.items } in
    let reach = c.reach_by-first.ensures ∙ ap (λ (f : Bool). reach_by f c.self.inside.level) c.if-not-follows.false in
    let made = subst (λ (x : SiteState). IsMarked g.P.Plant.tells c.args.self.now x old marked) (sym c.self-2.view_is)
    (is_marked g.P.Plant.tells c.args.self.now c.mark_first.new.self old marked c.reach_by-first.result reach c.in_ok-hit.ensures.ok c.in_ok-hit.ensures.leaves c.in_ok-hit.ensures.makes c.mark_first.ensures.only c.in_ok-hit.ensures.cause c.mark_first.ensures.failed) in
    let was_long : length c.deref_mut.result.now ≡ length s.jobs.items = λ i. length (c.deref_mut.ensures.value i) in
    later_may_form g.P.Plant.state g.P.Plant.tells c.args.self.now at old c.mark_first.new.plant c.requires.rows made c.deref_mut.result.now c.as_mut_slice-due.result.now (λ i. map has_job_failed (c.deref_mut.ensures.value i)) ((λ i. are_home_from 0 (c.deref_mut.ensures.value i)) ∙ c.self-2.invariant.home)
    (omega (arith, ap length c.as_mut_slice-due.ensures.value, was_long, c.self-2.invariant.flags)) c.args.plan.now c.requires.may

pub form-hits-requires-clause-room : goal.form-hits-requires-clause-room
form-hits-requires-clause-room g c κs within =
    let controls = ap (λ (x : SiteState). body_room x.controls) (c.self-2.view_is ∙ c.in_ok-hit.ensures.ok) in
    plan_room g.P.Plant.tells c.args.plan.now c.args.self.now (g.P.Plant.state c.args.plant.now) c.self-2.inside.body.room c.requires.may (c.self-2.invariant.room_is ∙ controls)

-- ---- the record that was formed

-- the plant once it was formed, and the jobs that have failed by then
abbrev last : (g : given.Over) (c : After-form-hits g) → PlantState
last g c = g.P.Plant.state c.form-hits.new.plant

abbrev failed : (g : given.Over) (c : After-form-hits g) → List Bool
failed g c = map has_job_failed c.form-hits.new.jobs

was_is : (g : given.Over) (c : After-form-hits g) → map has_job_failed c.deref_mut.result.now ≡ (at g c).failed
was_is g c = λ i. map has_job_failed (c.deref_mut.ensures.value i)

hit_is : (g : given.Over) (c : After-form-hits g) → AreDevices (hit_now (at g c).failed c.args.self.now.table.rows) c.in_ok-hit.hit
hit_is g c = subst (λ (x : SiteState). AreDevices (hit_now x.failed c.args.self.now.table.rows) c.in_ok-hit.hit) (sym c.self-2.view_is) c.in_ok-hit.ensures.marked

again : (g : given.Over) (c : After-form-hits g) → IsAfterOf g.P.Plant.state g.P.Plant.tells c.args.plan.now c.args.self.now (at g c) (old g c) c.mark_first.new.plant c.form-hits.new.plant (failed g c) c.form-hits.new.body
again g c =
    let plan = c.args.plan.now in
    let site = c.args.self.now in
    let tells = g.P.Plant.tells in
    let follow : follows_mark plan site.table.rows ≡ true = sym c.requires.follows ∙ c.if-not-follows.false in
    let enough : are_rows_spent true Marked site ≡ false = ap (λ (f : Bool). are_rows_spent f Marked site) (sym c.if-not-follows.false) ∙ c.requires.numbers in
    after_of g.P.Plant.state tells site (at g c) (old g c) c.mark_first.new.plant c.requires.rows (made g c) c.form-hits.new.plant c.self-2.inside.body c.form-hits.new.body c.form-hits.new.due (map has_job_failed c.deref_mut.result.now) (failed g c) c.form-hits.result c.in_ok-hit.hit (was_is g c) (hit_is g c) plan c.requires.may follow enough
    (some_choice tells (old g c) (plan_fits tells plan site (old g c) c.requires.may).home (λ told d there. g.met.P.Plant.read_is_image c.args.plant.now d told there)) c.form-hits.ensures.forms c.form-hits.ensures.left

rows_are : (g : given.Over) (c : After-form-hits g) → rows_in_states (next_states c.args.plan.now c.form-hits.result) c.self-2.inside.table.rows ≡ rows_later c.args.plan.now c.args.self.now (at g c) (failed g c)
rows_are g c =
    later_rows_are g.P.Plant.state g.P.Plant.tells c.args.self.now (at g c) (old g c) c.mark_first.new.plant c.requires.rows (made g c) c.form-hits.new.plant c.self-2.inside.body c.form-hits.new.body c.form-hits.new.due (map has_job_failed c.deref_mut.result.now) (failed g c) c.form-hits.result c.in_ok-hit.hit (was_is g c) (hit_is g c) c.args.plan.now c.requires.may c.form-hits.ensures.forms

reads : (g : given.Over) (c : After-form-hits g) → IsRead g.P.Plant.tells c.args.plan.now (at g c) (marked g c) (last g c) (failed g c)
reads g c =
    let f = c.form-hits.ensures.forms in
    record { works = f.works; reads = f.reads; home = f.home; fails = subst (λ (l : List Bool). FailByCounts l (failed g c) (marked g c).faults (last g c).faults) (was_is g c) f.fails }

read : (g : given.Over) (c : After-form-hits g) → g.P.Plant.tells → IsChoice (last g c) (last g c).clock (last g c).bytes
read g c told = reads_choice (last g c) c.form-hits.ensures.forms.home (λ d there. g.met.P.Plant.read_is_image c.form-hits.new.plant d told there)

cut_is : (g : given.Over) (c : After-form-hits g) → c.cut-cut.result.0 ≡ (planned_cut c.args.plan.now).0
cut_is g c = ap (λ (t : Stamp). t.0) c.cut-cut.ensures

shows_is : (g : given.Over) (c : After-form-hits g) (new : PlantState) (result : Result (Unit {0}) StoreError) → ShowsRecord g.P.Plant.tells Marked c.self-2.inside.journal.marked c.self-2.inside.journal.at (group_with c.cut-cut.result.0 c.form-hits.new.body.items) (last g c) new result
    → ShowsRecord g.P.Plant.tells Marked (at g c).mark.at (at g c).at (group_with (planned_cut c.args.plan.now).0 c.form-hits.new.body.items) (last g c) new result
shows_is g c new result = subst (λ (x : Type 0). x) (λ i. ShowsRecord g.P.Plant.tells Marked (c.self-2.invariant.marked_is i) (at g c).at (group_with (cut_is g c i) c.form-hits.new.body.items) (last g c) new result)

set_there : (g : given.Over) (c : After-form-hits g) → (at g c).at.set < (last g c).journals
set_there g c = let fits = (made g c).leaves.fits in omega (arith, fits.set, c.form-hits.ensures.forms.works.site.journals)

-- ---- the jobs and the flags

now_is : (g : given.Over) (c : After-form-hits g) → (with_items c.self-2.inside.jobs c.form-hits.new.jobs).items ≡ c.form-hits.new.jobs
now_is g c = with_items_is c.self-2.inside.jobs c.form-hits.new.jobs (omega (arith, c.form-hits.auto.jobs, c.deref_mut.ensures.len, c.self-2.inside.jobs.ok.0))

failed_is : (g : given.Over) (c : After-form-hits g) → map has_job_failed (with_items c.self-2.inside.jobs c.form-hits.new.jobs).items ≡ failed g c
failed_is g c = λ i. map has_job_failed (now_is g c i)

due_is : (g : given.Over) (c : After-form-hits g) → (with_items c.self-2.inside.due c.form-hits.new.due).items ≡ c.form-hits.new.due
due_is g c = with_items_is c.self-2.inside.due c.form-hits.new.due (omega (arith, c.form-hits.auto.due, c.as_mut_slice-due.ensures.len, c.self-2.inside.due.ok.0))

room_is : (g : given.Over) (c : After-form-hits g) → c.form-hits.new.body.room ≡ body_room c.self-2.inside.controls
room_is g c =
    let s = c.self-2.inside in
    room_still g.P.Plant.tells s.level s.table.rows (marked g c) s.body c.form-hits.new.body c.form-hits.new.due (failed g c) c.form-hits.result c.args.plan.now c.form-hits.ensures.forms.items ∙ c.self-2.invariant.room_is

flags : (g : given.Over) (c : After-form-hits g) → length (with_items c.self-2.inside.due c.form-hits.new.due).items ≡ length (with_items c.self-2.inside.jobs c.form-hits.new.jobs).items
flags g c =
    let jobs_long : length (with_items c.self-2.inside.jobs c.form-hits.new.jobs).items ≡ length c.form-hits.new.jobs = λ i. length (now_is g c i) in
    let was_long : length c.deref_mut.result.now ≡ length c.self-2.inside.jobs.items = λ i. length (c.deref_mut.ensures.value i) in
    omega (arith, ap length (due_is g c), jobs_long, c.form-hits.auto.due, ap length c.as_mut_slice-due.ensures.value, was_long, c.self-2.invariant.flags, c.form-hits.auto.jobs)

home : (g : given.Over) (c : After-form-hits g) → are_home_from 0 (with_items c.self-2.inside.jobs c.form-hits.new.jobs).items ≡ true
home g c = (λ i. are_home_from 0 (now_is g c i)) ∙ c.form-hits.ensures.idle

-- ---- it is put

pub put_record-requires-clause-may : goal.put_record-requires-clause-may
put_record-requires-clause-may g c κs within =
    let f = (goal.at.put_record-requires-clause-may g c).After-form-hits in
    let tells = g.P.Plant.tells in
    let size = λ (told : tells). g.met.P.Plant.length_told c.form-hits.new.plant (Journal (at g f).at.set) told (set_there g f) in
    subst (λ (x : Type 0). x) (λ i. MayPutRecord tells Marked (sym c.self-2.invariant.marked_is i) (at g f).at (sym (cut_is g f) i) c.form-hits.new.body.items (last g f))
    (after_may g.P.Plant.state tells c.args.plan.now c.args.self.now (at g f) (old g f) c.mark_first.new.plant c.form-hits.new.plant (failed g f) c.form-hits.new.body (again g f) (read g f) size)

pub invariant_of-self : goal.invariant_of-self
invariant_of-self g c =
    let f = (goal.at.invariant_of-self g c).After-form-hits in
    record { room_is = room_is g f; marked_is = c.put_record.ensures.marked ∙ c.self-2.invariant.marked_is; told_is = c.self-2.invariant.told_is; home = home g f; flags = flags g f; due_is = λ waits. absurd (cc waits) }

pub returns-in_err-put_record : goal.returns-in_err-put_record
returns-in_err-put_record g c =
    let f = (goal.at.returns-in_err-put_record g c).After-form-hits in
    let tells = g.P.Plant.tells in
    let plan = c.args.plan.now in
    let site = c.args.self.now in
    let s = c.self-2.inside in
    let new = g.P.Plant.state c.put_record.new.plant in
    let end : SiteState = record (at g f) { at = c.put_record.new.journal.at; waiting = []; failed = map has_job_failed (with_items s.jobs c.form-hits.new.jobs).items } in
    let error = c.in_err-put_record.field-0.0 in
    let result = c.from_residual-in_err-put_record.result in
    let failing = err_from_is_err_and result c.from_residual-in_err-put_record.ensures.1 in
    let err_is : Err error ≡ result = cc (failing.1, failing.2) in
    let k = c.in_err-put_record.ensures in
    let by : IsRecordedAfterMark tells plan site end (old g f) new (Err error) =
    after_recorded g.P.Plant.state tells plan site (at g f) end (old g f) c.mark_first.new.plant c.form-hits.new.plant new (failed g f) c.form-hits.new.body (Err error) (made g f) (again g f) (reads g f) (plan_idle tells plan site (old g f) c.requires.may) (failed_is g f) (read g f) k.only (shows_is g f new (Err error) k.shows) tt k.cause in
    record {
      recorded = subst (λ (r : Result (Unit {0}) StoreError). IsRecordedAfterMark tells plan site end (old g f) new r) err_is by;
      unspent = subst (λ (r : Result (Unit {0}) StoreError). ¬ IsErrOf r Spent) err_is k.unspent;
    }

pub take_rows-requires : goal.take_rows-requires
take_rows-requires g c =
    let f = (goal.at.take_rows-requires g c).After-form-hits in
    let fits = (made g f).leaves.fits in
    below_volumes (marked g f) 64 c.self-2.inside.table.rows fits.lengths.volumes fits.rows

pub invariant_of-self-2 : goal.invariant_of-self-2
invariant_of-self-2 g c =
    let f = (goal.at.invariant_of-self-2 g c).After-form-hits in
    let s = c.self-2.inside in
    record {
      room_is = room_is g f;
      marked_is = c.put_record.ensures.marked ∙ c.self-2.invariant.marked_is;
      told_is = c.self-2.invariant.told_is ∙ sym (ap (λ (t : Table). t.session) c.take_rows.ensures);
      home = home g f;
      flags = flags g f;
      due_is = λ waits d. (λ i. slice_index_or (due_is g f i) d false)
          ∙ due_still g.P.Plant.tells s.level s.table.rows (marked g f) s.body c.form-hits.new.body c.form-hits.new.due (failed g f) c.form-hits.result c.args.plan.now c.form-hits.ensures.forms.items (sym c.items_wait-self-inside.ensures ∙ waits) d;
    }

pub returns : goal.returns
returns g c =
    let f = (goal.at.returns g c).After-form-hits in
    let tells = g.P.Plant.tells in
    let plan = c.args.plan.now in
    let site = c.args.self.now in
    let s = c.self-2.inside in
    let now = c.form-hits.new.body in
    let new = g.P.Plant.state c.put_record.new.plant in
    let rows = rows_later plan site (at g f) (failed g f) in
    let table_is : c.take_rows.new.table ≡ with_rows s.table rows = c.take_rows.ensures ∙ ap (with_rows s.table) (rows_are g f) in
    let end : SiteState = record (at g f) { table = c.take_rows.new.table; is_ahead = false; told = c.take_rows.new.table.rows; time = c.cut-cut.result.0; at = c.put_record.new.journal.at; since = c.since_after-self-inside.result; waiting = cond c.items_wait-self-inside.result now.items []; failed = map has_job_failed (with_items s.jobs c.form-hits.new.jobs).items } in
    let end_is : end ≡ plan_site (last g f).journals Marked plan now.items rows (with_failed (failed g f) (at g f)) =
    λ i. record (at g f) { table = table_is i; is_ahead = false; told = (table_is i).rows; time = cut_is g f i; at = c.in_ok-put_record.ensures.at i; since = c.since_after-self-inside.ensures i; waiting = cond (c.items_wait-self-inside.ensures i) now.items []; failed = failed_is g f i } in
    let k = c.in_ok-put_record.ensures in
    record {
      recorded = after_recorded g.P.Plant.state tells plan site (at g f) end (old g f) c.mark_first.new.plant c.form-hits.new.plant new (failed g f) now (Ok tt) (made g f) (again g f) (reads g f) (plan_idle tells plan site (old g f) c.requires.may) (failed_is g f) (read g f) k.only (shows_is g f new (Ok tt) k.shows) end_is k.cause;
      unspent = λ e. cc e;
    }
