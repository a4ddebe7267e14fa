use Rattle.std.proofs.Common.{◌≡◌, ◌^◌, ◌-◌, ◌<◌, Bool, List, length, map, IsTrue, eqb-true, refl, sym, ap, subst, ◌∙◌, arith}
use Rattle.std.specs.Vec.{with_items}
use Rattle.std.proofs.lemmas.List.{length-map, with_items_is}
use Rattle.applier.specs.Returns.{WorksOnLent}
use Rattle.xrc_journal.specs.declared.job.VolumeJob.{VolumeJob}
use Rattle.site_store.specs.Jobs.{are_home_from, has_job_failed}
use Rattle.site_store.specs.Marking.{IsAmong, rows_at_mark}
use Rattle.site_store.specs.Placements.{most}
use Rattle.site_store.specs.Sites.{SiteState}
use Rattle.site_store.specs.Standing.{none_excepted}
use Rattle.site_store.proofs.MarkMade.{makes_none}
use Rattle.site_store.proofs.NextMark.{after_level}
use Rattle.site_store.proofs.RecordPuts.{on_ok}
use Rattle.site_store.proofs.SyncedSites.{IsSynced, cause_after, durable_as, mark_works_lent, may_put, seen_fails, seen_leaves, seen_makes, seen_may, seen_next, synced_aside}
use Rattle.site_store.proofs.site.Site.mark.Given as given
use Rattle.site_store.proofs.site.Site.mark.Goals as goal
use Rattle.site_store.proofs.site.Site.mark.Goals.{After-sync_written}

pub returns-then-self-clause-moments : goal.returns-then-self-clause-moments
returns-then-self-clause-moments g c =
    let site = c.args.self.now in
    makes_none g.P.Plant.tells c.args.ended (rows_at_mark site.level site site.failed) site (g.P.Plant.state c.args.plant.now)

-- ---- the syncs

-- the jobs that have failed by then
abbrev flags : (g : given.Over) (c : After-sync_written g) → List Bool
flags g c = map has_job_failed (with_items c.self.inside.jobs c.sync_written.new.jobs).items

size : (g : given.Over) (c : After-sync_written g) → length c.sync_written.new.jobs ≡ c.self.inside.jobs.len
size g c = omega (arith, c.sync_written.ensures.failed.size, length-map c.sync_written.new.jobs has_job_failed, length-map c.deref_mut.result.now has_job_failed, ap length c.deref_mut.ensures.value, c.self.inside.jobs.ok.0)

kept : (g : given.Over) (c : After-sync_written g) → c.sync_written.new.jobs ≡ (with_items c.self.inside.jobs c.sync_written.new.jobs).items
kept g c = sym (with_items_is c.self.inside.jobs c.sync_written.new.jobs (size g c))

written : (g : given.Over) (c : After-sync_written g) → c.deref.result.now ≡ c.args.self.now.written
written g c = c.deref.ensures.value ∙ ap (λ (s : SiteState). s.written) c.self.view_is

first : (g : given.Over) (c : After-sync_written g) → map has_job_failed c.deref_mut.result.now ≡ c.args.self.now.failed
first g c = ap (λ (l : List (VolumeJob _)). map has_job_failed l) c.deref_mut.ensures.value ∙ ap (λ (s : SiteState). s.failed) c.self.view_is

synced : (g : given.Over) (c : After-sync_written g) → IsSynced g.P.Plant.tells c.args.self.now (flags g c) (g.P.Plant.state c.args.plant.now) (g.P.Plant.state c.sync_written.new.plant)
synced g c =
    synced_aside g.P.Plant.tells c.args.self.now (g.P.Plant.state c.args.plant.now) (g.P.Plant.state c.sync_written.new.plant) c.deref.result.now c.deref_mut.result.now c.sync_written.new.jobs (with_items c.self.inside.jobs c.sync_written.new.jobs).items
    (written g c) (first g c) (kept g c) c.sync_written.ensures.only c.sync_written.ensures.syncs c.sync_written.ensures.failed

number : (g : given.Over) (c : After-sync_written g) → c.args.self.now.mark.number < 2 ^ 64 - 2
number g c = omega (arith, c.requires.may.fast.fits.mark.most, c.if-self.false, ap (λ (s : SiteState). s.mark.number) c.self.view_is)

pub invariant_of-self : goal.invariant_of-self
invariant_of-self g c =
    let f = (goal.at.invariant_of-self g c).After-sync_written in
    let all = c.self.invariant in
    record {
      room_is = all.room_is;
      marked_is = all.marked_is;
      told_is = all.told_is;
      home = subst (λ (l : List (VolumeJob _)). IsTrue (are_home_from 0 l)) (kept g f) c.sync_written.ensures.jobs;
      flags = omega (arith, all.flags, size g f, ap length (kept g f), c.self.inside.jobs.ok.0);
      due_is = all.due_is;
    }

-- ---- the mark

pub put_next_mark-requires-clause-may : goal.put_next_mark-requires-clause-may
put_next_mark-requires-clause-may g c κs within =
    let f = (goal.at.put_next_mark-requires-clause-may g c).After-sync_written in
    let tells = g.P.Plant.tells in
    let site = c.args.self.now in
    let old = g.P.Plant.state c.args.plant.now in
    let mid = g.P.Plant.state c.sync_written.new.plant in
    let durable = durable_as tells site old mid c.deref.result.now c.deref_mut.result.now c.sync_written.new.jobs (with_items c.self.inside.jobs c.sync_written.new.jobs).items (written g f) (first g f) (kept g f) c.sync_written.ensures.durable in
    seen_may tells site (flags g f) old mid (synced g f) _ c.self.view_is (may_put tells site (flags g f) old mid (synced g f) c.sync_written.ensures.home c.requires.may.fast c.requires.may.idle (number g f) durable)

pub returns-clause-ok : goal.returns-clause-ok
returns-clause-ok g c =
    let f = (goal.at.returns-clause-ok g c).After-sync_written in
    record {
      next_is = on_ok c.put_next_mark.result (λ is. seen_next g.P.Plant.tells c.args.self.now (flags g f) (g.P.Plant.state c.args.plant.now) (g.P.Plant.state c.sync_written.new.plant) (synced g f) _ c.put_next_mark.new.self (g.P.Plant.state c.put_next_mark.new.plant) c.args.ended c.args.ended _ c.args.self.now.level c.self.view_is refl (ap (λ (s : SiteState). s.level) c.self.view_is) c.put_next_mark.ensures.failed c.put_next_mark.ensures.only is ∙ after_level c.args.ended (rows_at_mark c.args.self.now.level c.args.self.now c.put_next_mark.new.self.failed) c.put_next_mark.new.self.failed c.args.self.now c.requires.may.level) c.put_next_mark.ensures.ok;
      spent = (λ e. absurd (c.put_next_mark.ensures.unspent e), λ spent. let last = eqb-true c.args.self.now.mark.number most spent in let low = number g f in absurd (omega (arith, last, low)));
      nothing = λ e. absurd (c.put_next_mark.ensures.unspent e);
    }

pub returns-clause-leaves : goal.returns-clause-leaves
returns-clause-leaves g c =
    let f = (goal.at.returns-clause-leaves g c).After-sync_written in
    on_ok c.put_next_mark.result (λ left. seen_leaves g.P.Plant.tells c.args.self.now (flags g f) (g.P.Plant.state c.args.plant.now) (g.P.Plant.state c.sync_written.new.plant) (synced g f) _ c.put_next_mark.new.self (g.P.Plant.state c.put_next_mark.new.plant) c.args.ended c.args.ended _ c.args.self.now.level c.self.view_is refl (ap (λ (s : SiteState). s.level) c.self.view_is) c.put_next_mark.ensures.failed c.put_next_mark.ensures.only (λ e. none_excepted) left) c.put_next_mark.ensures.leaves

pub returns-clause-moments : goal.returns-clause-moments
returns-clause-moments g c =
    let f = (goal.at.returns-clause-moments g c).After-sync_written in
    seen_makes g.P.Plant.tells c.args.self.now (flags g f) (g.P.Plant.state c.args.plant.now) (g.P.Plant.state c.sync_written.new.plant) (synced g f) _ c.put_next_mark.new.self (g.P.Plant.state c.put_next_mark.new.plant) c.args.ended c.args.ended _ c.args.self.now.level c.self.view_is refl (ap (λ (s : SiteState). s.level) c.self.view_is) c.put_next_mark.ensures.failed c.put_next_mark.ensures.only c.put_next_mark.result c.put_next_mark.ensures.makes

pub returns-clause-others : goal.returns-clause-others
returns-clause-others g c =
    let f = (goal.at.returns-clause-others g c).After-sync_written in
    mark_works_lent g.P.Plant.tells c.args.self.now (g.P.Plant.state c.args.plant.now) (g.P.Plant.state c.sync_written.new.plant) (g.P.Plant.state c.put_next_mark.new.plant)
    (subst (λ (w : List Bool). WorksOnLent g.P.Plant.tells (IsAmong w) (g.P.Plant.state c.args.plant.now) (g.P.Plant.state c.sync_written.new.plant)) (written g f) c.sync_written.ensures.only) c.put_next_mark.ensures.only

pub returns-clause-heard_said : goal.returns-clause-heard_said
returns-clause-heard_said g c =
    let f = (goal.at.returns-clause-heard_said g c).After-sync_written in
    (mark_works_lent g.P.Plant.tells c.args.self.now (g.P.Plant.state c.args.plant.now) (g.P.Plant.state c.sync_written.new.plant) (g.P.Plant.state c.put_next_mark.new.plant)
    (subst (λ (w : List Bool). WorksOnLent g.P.Plant.tells (IsAmong w) (g.P.Plant.state c.args.plant.now) (g.P.Plant.state c.sync_written.new.plant)) (written g f) c.sync_written.ensures.only) c.put_next_mark.ensures.only).silent

pub returns-clause-cause : goal.returns-clause-cause
returns-clause-cause g c =
    let f = (goal.at.returns-clause-cause g c).After-sync_written in
    cause_after g.P.Plant.tells c.args.self.now (flags g f) (g.P.Plant.state c.args.plant.now) (g.P.Plant.state c.sync_written.new.plant) (synced g f) (g.P.Plant.state c.put_next_mark.new.plant) c.put_next_mark.result c.put_next_mark.ensures.cause

pub returns-clause-failed : goal.returns-clause-failed
returns-clause-failed g c =
    let f = (goal.at.returns-clause-failed g c).After-sync_written in
    seen_fails g.P.Plant.tells c.args.self.now (flags g f) (g.P.Plant.state c.args.plant.now) (g.P.Plant.state c.sync_written.new.plant) (synced g f) _ c.put_next_mark.new.self (g.P.Plant.state c.put_next_mark.new.plant) c.args.ended c.args.ended _ c.args.self.now.level c.self.view_is refl (ap (λ (s : SiteState). s.level) c.self.view_is) c.put_next_mark.ensures.failed c.put_next_mark.ensures.only
