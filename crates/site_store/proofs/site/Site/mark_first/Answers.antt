use Rattle.std.proofs.Common.{rules, ◌≡◌, ◌≤◌, Bool, List, length, map, Result, Ok, Err, IsTrue, refl, sym, ap, subst, ◌∙◌, arith}
use Rattle.std.specs.List.{list_all}
use Rattle.std.specs.Vec.{with_items}
use Rattle.std.proofs.lemmas.List.{length-map, with_items_is}
use Rattle.crash_plant.specs.Calls.{WorksOn}
use Rattle.crash_plant.proofs.Steps.{none_lent_then}
use Rattle.xrc_journal.specs.declared.job.VolumeJob.{VolumeJob}
use Rattle.site_store.specs.declared.store_error.StoreError.{StoreError}
use Rattle.record_rows.specs.Hits.{hit_now}
use Rattle.site_store.specs.Causes.{HasStoreCause}
use Rattle.site_store.specs.Hits.{AreDevices}
use Rattle.site_store.specs.Jobs.{are_home_from, has_job_failed}
use Rattle.site_store.specs.Marking.{IsAmong, MakesMark, rows_at_mark, unit_of}
use Rattle.site_store.specs.Sites.{SiteState}
use Rattle.site_store.specs.Standing.{none_excepted, row_has_volume}
use Rattle.site_store.proofs.Below.{below_volumes}
use Rattle.site_store.proofs.SyncedSites.{IsSynced, cause_after, durable_as, mark_works, may_put, none_waits, seen_fails, seen_leaves, seen_makes, seen_may, seen_next, synced_as}
use Rattle.site_store.proofs.site.Site.mark_first.Given as given
use Rattle.site_store.proofs.site.Site.mark_first.Goals as goal
use Rattle.site_store.proofs.site.Site.mark_first.Goals.{After-sync_in_turn}

-- ---- the syncs

-- the jobs that have failed by then
abbrev flags : (g : given.Over) (c : After-sync_in_turn g) → List Bool
flags g c = map has_job_failed (with_items c.self.inside.jobs c.sync_in_turn.new.jobs).items

size : (g : given.Over) (c : After-sync_in_turn g) → length c.sync_in_turn.new.jobs ≡ c.self.inside.jobs.len
size g c = omega (arith, c.sync_in_turn.ensures.failed.size, length-map c.sync_in_turn.new.jobs has_job_failed, length-map c.deref_mut.result.now has_job_failed, ap length c.deref_mut.ensures.value, c.self.inside.jobs.ok.0)

kept : (g : given.Over) (c : After-sync_in_turn g) → c.sync_in_turn.new.jobs ≡ (with_items c.self.inside.jobs c.sync_in_turn.new.jobs).items
kept g c = sym (with_items_is c.self.inside.jobs c.sync_in_turn.new.jobs (size g c))

written : (g : given.Over) (c : After-sync_in_turn g) → c.deref.result.now ≡ c.args.self.now.written
written g c = c.deref.ensures.value ∙ ap (λ (s : SiteState). s.written) c.self.view_is

first : (g : given.Over) (c : After-sync_in_turn g) → map has_job_failed c.deref_mut.result.now ≡ c.args.self.now.failed
first g c = ap (λ (l : List (VolumeJob _)). map has_job_failed l) c.deref_mut.ensures.value ∙ ap (λ (s : SiteState). s.failed) c.self.view_is

synced : (g : given.Over) (c : After-sync_in_turn g) → IsSynced g.P.Plant.tells c.args.self.now (flags g c) (g.P.Plant.state c.args.plant.now) (g.P.Plant.state c.sync_in_turn.new.plant)
synced g c =
    synced_as g.P.Plant.tells c.args.self.now (g.P.Plant.state c.args.plant.now) (g.P.Plant.state c.sync_in_turn.new.plant) c.deref.result.now c.deref_mut.result.now c.sync_in_turn.new.jobs (with_items c.self.inside.jobs c.sync_in_turn.new.jobs).items
    (written g c) (first g c) (kept g c) c.sync_in_turn.ensures.syncs c.sync_in_turn.ensures.failed

pub hit_devices-marked-requires-clause-below : goal.hit_devices-marked-requires-clause-below
hit_devices-marked-requires-clause-below g c =
    let f = (goal.at.hit_devices-marked-requires-clause-below g c).After-sync_in_turn in
    let old = g.P.Plant.state c.args.plant.now in
    let count : old.volumes ≤ length c.deref-2.result.now = omega (arith, c.requires.fast.fits.failed, (synced g f).fails.size, length-map c.deref-2.result.now has_job_failed, ap length (ap (map has_job_failed) c.deref-2.ensures.value)) in
    below_volumes old (length c.deref-2.result.now) c.self.inside.table.rows count (ap (λ (s : SiteState). list_all (row_has_volume old) s.table.rows) c.self.view_is ∙ c.requires.fast.fits.rows)

pub hit_devices-marked-requires-clause-few : goal.hit_devices-marked-requires-clause-few
hit_devices-marked-requires-clause-few g c =
    let f = (goal.at.hit_devices-marked-requires-clause-few g c).After-sync_in_turn in
    omega (arith, c.requires.fast.fits.failed, c.requires.fast.fits.lengths.volumes, (synced g f).fails.size, length-map c.deref-2.result.now has_job_failed, ap length (ap (map has_job_failed) c.deref-2.ensures.value))

pub invariant_of-self : goal.invariant_of-self
invariant_of-self g c =
    let f = (goal.at.invariant_of-self g c).After-sync_in_turn in
    let all = c.self.invariant in
    record {
      room_is = all.room_is;
      marked_is = all.marked_is;
      told_is = all.told_is;
      home = subst (λ (l : List (VolumeJob _)). IsTrue (are_home_from 0 l)) (kept g f) c.sync_in_turn.ensures.jobs;
      flags = omega (arith, all.flags, size g f, ap length (kept g f), c.self.inside.jobs.ok.0);
      due_is = all.due_is;
    }

-- ---- the mark

pub put_next_mark-requires-clause-may : goal.put_next_mark-requires-clause-may
put_next_mark-requires-clause-may g c κs within =
    let f = (goal.at.put_next_mark-requires-clause-may g c).After-sync_in_turn in
    let tells = g.P.Plant.tells in
    let site = c.args.self.now in
    let old = g.P.Plant.state c.args.plant.now in
    let mid = g.P.Plant.state c.sync_in_turn.new.plant in
    let durable = durable_as tells site old mid c.deref.result.now c.deref_mut.result.now c.sync_in_turn.new.jobs (with_items c.self.inside.jobs c.sync_in_turn.new.jobs).items (written g f) (first g f) (kept g f) c.sync_in_turn.ensures.durable in
    let home = none_lent_then tells (IsAmong c.deref.result.now) old mid c.sync_in_turn.ensures.syncs.only c.requires.fast.fits.home in
    seen_may tells site (flags g f) old mid (synced g f) _ c.self.view_is (may_put tells site (flags g f) old mid (synced g f) home c.requires.fast (none_waits site c.requires.idle) c.requires.number durable)

-- ---- it isn't made

pub returns-in_err-put_next_mark-clause-makes : goal.returns-in_err-put_next_mark-clause-makes
returns-in_err-put_next_mark-clause-makes g c =
    let f = (goal.at.returns-in_err-put_next_mark-clause-makes g c).After-sync_in_turn in
    let is : c.from_residual.result ≡ Err c.in_err-put_next_mark.field-0.0 = search rules in
    subst (λ (r : Result (Unit {0}) StoreError). MakesMark g.P.Plant.tells c.args.self.now.mark.ended (rows_at_mark c.args.reach c.args.self.now c.put_next_mark.new.self.failed) c.args.self.now c.put_next_mark.new.self (g.P.Plant.state c.args.plant.now) (g.P.Plant.state c.put_next_mark.new.plant) r) (sym (ap unit_of is ∙ sym c.in_err-put_next_mark.was)) (seen_makes g.P.Plant.tells c.args.self.now (flags g f) (g.P.Plant.state c.args.plant.now) (g.P.Plant.state c.sync_in_turn.new.plant) (synced g f) _ c.put_next_mark.new.self (g.P.Plant.state c.put_next_mark.new.plant) _ c.args.self.now.mark.ended c.args.reach c.args.reach c.self.view_is (ap (λ (s : SiteState). s.mark.ended) c.self.view_is) refl c.put_next_mark.ensures.failed c.put_next_mark.ensures.only c.put_next_mark.result c.put_next_mark.ensures.makes)

pub returns-in_err-put_next_mark-clause-only : goal.returns-in_err-put_next_mark-clause-only
returns-in_err-put_next_mark-clause-only g c =
    let f = (goal.at.returns-in_err-put_next_mark-clause-only g c).After-sync_in_turn in
    mark_works g.P.Plant.tells c.args.self.now (g.P.Plant.state c.args.plant.now) (g.P.Plant.state c.sync_in_turn.new.plant) (g.P.Plant.state c.put_next_mark.new.plant)
    (subst (λ (w : List Bool). WorksOn g.P.Plant.tells (IsAmong w) (g.P.Plant.state c.args.plant.now) (g.P.Plant.state c.sync_in_turn.new.plant)) (written g f) c.sync_in_turn.ensures.syncs.only) c.put_next_mark.ensures.only

pub returns-in_err-put_next_mark-clause-cause : goal.returns-in_err-put_next_mark-clause-cause
returns-in_err-put_next_mark-clause-cause g c =
    let f = (goal.at.returns-in_err-put_next_mark-clause-cause g c).After-sync_in_turn in
    let is : c.from_residual.result ≡ Err c.in_err-put_next_mark.field-0.0 = search rules in
    subst (λ (r : Result (Unit {0}) StoreError). HasStoreCause (g.P.Plant.state c.args.plant.now).faults (g.P.Plant.state c.put_next_mark.new.plant).faults r) (sym (ap unit_of is ∙ sym c.in_err-put_next_mark.was)) (cause_after g.P.Plant.tells c.args.self.now (flags g f) (g.P.Plant.state c.args.plant.now) (g.P.Plant.state c.sync_in_turn.new.plant) (synced g f) (g.P.Plant.state c.put_next_mark.new.plant) c.put_next_mark.result c.put_next_mark.ensures.cause)

pub returns-in_err-put_next_mark-clause-failed : goal.returns-in_err-put_next_mark-clause-failed
returns-in_err-put_next_mark-clause-failed g c =
    let f = (goal.at.returns-in_err-put_next_mark-clause-failed g c).After-sync_in_turn in
    seen_fails g.P.Plant.tells c.args.self.now (flags g f) (g.P.Plant.state c.args.plant.now) (g.P.Plant.state c.sync_in_turn.new.plant) (synced g f) _ c.put_next_mark.new.self (g.P.Plant.state c.put_next_mark.new.plant) _ c.args.self.now.mark.ended c.args.reach c.args.reach c.self.view_is (ap (λ (s : SiteState). s.mark.ended) c.self.view_is) refl c.put_next_mark.ensures.failed c.put_next_mark.ensures.only

-- ---- it is made

pub returns-clause-ok : goal.returns-clause-ok
returns-clause-ok g c =
    let f = (goal.at.returns-clause-ok g c).After-sync_in_turn in
    seen_next g.P.Plant.tells c.args.self.now (flags g f) (g.P.Plant.state c.args.plant.now) (g.P.Plant.state c.sync_in_turn.new.plant) (synced g f) _ c.put_next_mark.new.self (g.P.Plant.state c.put_next_mark.new.plant) _ c.args.self.now.mark.ended c.args.reach c.args.reach c.self.view_is (ap (λ (s : SiteState). s.mark.ended) c.self.view_is) refl c.put_next_mark.ensures.failed c.put_next_mark.ensures.only c.in_ok-put_next_mark.ensures.ok

pub returns-clause-marked : goal.returns-clause-marked
returns-clause-marked g c =
    let failed : map has_job_failed c.deref-2.result.now ≡ c.put_next_mark.new.self.failed = ap (λ (l : List (VolumeJob _)). map has_job_failed l) c.deref-2.ensures.value ∙ sym c.put_next_mark.ensures.failed in
    let rows : c.self.inside.table.rows ≡ c.args.self.now.table.rows = ap (λ (s : SiteState). s.table.rows) c.self.view_is in
    subst (λ (x : Type 0). x) (λ i. AreDevices (hit_now (failed i) (rows i)) c.hit_devices-marked.result) c.hit_devices-marked.ensures.hit

pub returns-clause-leaves : goal.returns-clause-leaves
returns-clause-leaves g c =
    let f = (goal.at.returns-clause-leaves g c).After-sync_in_turn in
    seen_leaves g.P.Plant.tells c.args.self.now (flags g f) (g.P.Plant.state c.args.plant.now) (g.P.Plant.state c.sync_in_turn.new.plant) (synced g f) _ c.put_next_mark.new.self (g.P.Plant.state c.put_next_mark.new.plant) _ c.args.self.now.mark.ended c.args.reach c.args.reach c.self.view_is (ap (λ (s : SiteState). s.mark.ended) c.self.view_is) refl c.put_next_mark.ensures.failed c.put_next_mark.ensures.only (λ e. none_excepted) c.in_ok-put_next_mark.ensures.leaves

pub returns-clause-makes : goal.returns-clause-makes
returns-clause-makes g c =
    let f = (goal.at.returns-clause-makes g c).After-sync_in_turn in
    seen_makes g.P.Plant.tells c.args.self.now (flags g f) (g.P.Plant.state c.args.plant.now) (g.P.Plant.state c.sync_in_turn.new.plant) (synced g f) _ c.put_next_mark.new.self (g.P.Plant.state c.put_next_mark.new.plant) _ c.args.self.now.mark.ended c.args.reach c.args.reach c.self.view_is (ap (λ (s : SiteState). s.mark.ended) c.self.view_is) refl c.put_next_mark.ensures.failed c.put_next_mark.ensures.only (Ok tt) c.in_ok-put_next_mark.ensures.makes

pub returns-clause-only : goal.returns-clause-only
returns-clause-only g c =
    let f = (goal.at.returns-clause-only g c).After-sync_in_turn in
    mark_works g.P.Plant.tells c.args.self.now (g.P.Plant.state c.args.plant.now) (g.P.Plant.state c.sync_in_turn.new.plant) (g.P.Plant.state c.put_next_mark.new.plant)
    (subst (λ (w : List Bool). WorksOn g.P.Plant.tells (IsAmong w) (g.P.Plant.state c.args.plant.now) (g.P.Plant.state c.sync_in_turn.new.plant)) (written g f) c.sync_in_turn.ensures.syncs.only) c.put_next_mark.ensures.only

pub returns-clause-cause : goal.returns-clause-cause
returns-clause-cause g c =
    let f = (goal.at.returns-clause-cause g c).After-sync_in_turn in
    cause_after g.P.Plant.tells c.args.self.now (flags g f) (g.P.Plant.state c.args.plant.now) (g.P.Plant.state c.sync_in_turn.new.plant) (synced g f) (g.P.Plant.state c.put_next_mark.new.plant) (Ok tt) c.in_ok-put_next_mark.ensures.cause

pub returns-clause-failed : goal.returns-clause-failed
returns-clause-failed g c =
    let f = (goal.at.returns-clause-failed g c).After-sync_in_turn in
    seen_fails g.P.Plant.tells c.args.self.now (flags g f) (g.P.Plant.state c.args.plant.now) (g.P.Plant.state c.sync_in_turn.new.plant) (synced g f) _ c.put_next_mark.new.self (g.P.Plant.state c.put_next_mark.new.plant) _ c.args.self.now.mark.ended c.args.reach c.args.reach c.self.view_is (ap (λ (s : SiteState). s.mark.ended) c.self.view_is) refl c.put_next_mark.ensures.failed c.put_next_mark.ensures.only
