use Rattle.std.proofs.Common.{◌≡◌, ℕ, ◌<◌, Bool, false, not, cond, ◌&&◌, ◌||◌, List, [], length, map, get_or, refl, sym, ap, subst, ◌∙◌, arith}
use Rattle.std.specs.Vec.{with_items}
use Rattle.std.proofs.lemmas.List.{length-map, with_items_is}
use Rattle.crash_plant.specs.declared.device.Device.TheVariants.{Volume}
use Rattle.xrc_journal.specs.declared.job.VolumeJob.{VolumeJob}
use Rattle.site_store.proofs.Single.{no_call}
use Rattle.site_store.specs.Applying.{Applies, AppliesToVolume, excepted_by_apply, with_applied}
use Rattle.site_store.specs.Jobs.{are_home_from, has_device, has_job_failed}
use Rattle.site_store.specs.Sites.{SiteState}
use Rattle.site_store.specs.Standing.{Leaves, none_excepted}
use Rattle.site_store.proofs.Applied.{applies_nothing, applies_to, does_apply, does_nothing, fits_applied, leaves_nothing, stands_applied, volumes_alone}
use Rattle.site_store.proofs.WaitingVolumes.{waiting_alone}
use Rattle.site_store.proofs.site.Site.apply.Goals as goal

-- ---- nothing waits

pub returns-then-not-self-clause-ok : goal.returns-then-not-self-clause-ok
returns-then-not-self-clause-ok g c =
    let none : c.args.self.now.waiting ≡ [] = sym (ap (λ (s : SiteState). s.waiting) c.self.view_is) ∙ ap (λ (b : Bool). cond b c.self.inside.body.items []) c.if-not-self.true in
    applies_nothing g.P.Plant.tells c.args.self.now (g.P.Plant.state c.args.plant.now) none

pub returns-then-not-self-clause-leaves : goal.returns-then-not-self-clause-leaves
returns-then-not-self-clause-leaves g c =
    let none : c.args.self.now.waiting ≡ [] = sym (ap (λ (s : SiteState). s.waiting) c.self.view_is) ∙ ap (λ (b : Bool). cond b c.self.inside.body.items []) c.if-not-self.true in
    leaves_nothing g.P.Plant.tells c.args.self.now (g.P.Plant.state c.args.plant.now) none c.requires.fast.fits

pub returns-then-not-self-clause-moments : goal.returns-then-not-self-clause-moments
returns-then-not-self-clause-moments g c told = does_nothing c.args.self.now (g.P.Plant.state c.args.plant.now) (no_call (g.P.Plant.state c.args.plant.now) none_excepted c.args.self.now.told)

-- ---- the group is applied

pub apply_jobs-requires-clause-due : goal.apply_jobs-requires-clause-due
apply_jobs-requires-clause-due g c κs within d =
    let due : c.deref-3.result.now ≡ c.self.inside.due.items = cc (c.deref-3.ensures.value) in
    ap (λ (l : List Bool). get_or l d false) due ∙ c.self.invariant.due_is c.if-not-self.false d

pub invariant_of-self : goal.invariant_of-self
invariant_of-self g c =
    let jobs_are : (with_items c.self.inside.jobs c.apply_jobs.new.jobs).items ≡ c.apply_jobs.new.jobs = with_items_is c.self.inside.jobs c.apply_jobs.new.jobs (omega (arith, c.apply_jobs.auto.jobs, c.self.inside.jobs.ok.0)) in
    record {
      room_is = c.self.invariant.room_is;
      marked_is = c.self.invariant.marked_is;
      told_is = c.self.invariant.told_is;
      home = ap (λ (l : List (VolumeJob _)). are_home_from 0 l) jobs_are ∙ c.apply_jobs.ensures.jobs;
      flags = omega (arith, c.fill.ensures.len, c.fill.new.self.ok.0, c.self.inside.due.ok.0, c.self.invariant.flags, ap length jobs_are, c.apply_jobs.auto.jobs);
      due_is = λ waits. absurd (cc waits);
    }

pub returns-clause-ok : goal.returns-clause-ok
returns-clause-ok g c =
    let site = c.args.self.now in
    let old = g.P.Plant.state c.args.plant.now in
    let new = g.P.Plant.state c.apply_jobs.new.plant in
    let failed = map has_job_failed c.apply_jobs.new.jobs in
    let written = c.note_written.new.written in
    let jobs_are : (with_items c.self.inside.jobs c.apply_jobs.new.jobs).items ≡ c.apply_jobs.new.jobs = with_items_is c.self.inside.jobs c.apply_jobs.new.jobs (omega (arith, c.apply_jobs.auto.jobs, c.self.inside.jobs.ok.0)) in
    let written_are : (with_items c.self.inside.written written).items ≡ written = with_items_is c.self.inside.written written (omega (arith, c.note_written.auto.written, c.self.inside.written.ok.0)) in
    let is : with_applied failed written site ≡ _ = λ i. record (sym c.self.view_is i) { waiting = []; failed = map has_job_failed (sym jobs_are i); written = sym written_are i } in
    let items_are : c.self.inside.body.items ≡ site.waiting = ap (λ (b : Bool). cond b c.self.inside.body.items []) (sym c.if-not-self.false) ∙ ap (λ (s : SiteState). s.waiting) c.self.view_is in
    let jobs : c.deref_mut-2.result.now ≡ c.self.inside.jobs.items = cc (c.deref_mut-2.ensures.value) in
    let jobs_noted : c.deref-2.result.now ≡ c.self.inside.jobs.items = cc (c.deref-2.ensures.value) in
    let due : c.deref-3.result.now ≡ c.self.inside.due.items = cc (c.deref-3.ensures.value) in
    let due_noted : c.deref.result.now ≡ c.self.inside.due.items = cc (c.deref.ensures.value) in
    let failures : map has_job_failed c.self.inside.jobs.items ≡ site.failed = ap (λ (s : SiteState). s.failed) c.self.view_is in
    let flags : c.self.inside.written.items ≡ site.written = ap (λ (s : SiteState). s.written) c.self.view_is in
    let marked : c.deref_mut.result.now ≡ c.self.inside.written.items = cc (c.deref_mut.ensures.value) in
    let due_is = c.self.invariant.due_is c.if-not-self.false in
    let applies = λ (d : ℕ) (lt : d < length (map has_job_failed c.self.inside.jobs.items)).
    subst (λ (x : Type 0). x) (λ i. let was = get_or (map has_job_failed (jobs i)) d false in AppliesToVolume g.P.Plant.tells c.self.inside.body.items (not was && get_or (due i) d false) was (get_or failed d false) d old new)
    (c.apply_jobs.ensures.applies d (omega (arith, lt, length-map c.self.inside.jobs.items has_job_failed, ap length jobs))) in
    let marks = λ (d : ℕ) (lt : d < length c.self.inside.written.items).
    subst (λ (x : Type 0). x) (λ i. get_or written d false ≡ (get_or (marked i) d false || (not (get_or (map has_job_failed (jobs_noted i)) d false) && get_or (due_noted i) d false)))
    (c.note_written.ensures.written d (omega (arith, lt, ap length marked))) in
    let each = applies_to g.P.Plant.tells site failed written (map has_job_failed c.self.inside.jobs.items) c.self.inside.written.items c.self.inside.due.items c.self.inside.body.items old new items_are failures flags due_is applies marks c.requires.fast.fits.failed c.requires.fast.fits.written in
    subst (λ (s : SiteState). Applies g.P.Plant.tells site s old new) is (record { next_is = refl; volumes = each })

pub returns-clause-leaves : goal.returns-clause-leaves
returns-clause-leaves g c =
    let site = c.args.self.now in
    let old = g.P.Plant.state c.args.plant.now in
    let new = g.P.Plant.state c.apply_jobs.new.plant in
    let failed = map has_job_failed c.apply_jobs.new.jobs in
    let written = c.note_written.new.written in
    let jobs_are : (with_items c.self.inside.jobs c.apply_jobs.new.jobs).items ≡ c.apply_jobs.new.jobs = with_items_is c.self.inside.jobs c.apply_jobs.new.jobs (omega (arith, c.apply_jobs.auto.jobs, c.self.inside.jobs.ok.0)) in
    let written_are : (with_items c.self.inside.written written).items ≡ written = with_items_is c.self.inside.written written (omega (arith, c.note_written.auto.written, c.self.inside.written.ok.0)) in
    let is : with_applied failed written site ≡ _ = λ i. record (sym c.self.view_is i) { waiting = []; failed = map has_job_failed (sym jobs_are i); written = sym written_are i } in
    let items_are : c.self.inside.body.items ≡ site.waiting = ap (λ (b : Bool). cond b c.self.inside.body.items []) (sym c.if-not-self.false) ∙ ap (λ (s : SiteState). s.waiting) c.self.view_is in
    let jobs : c.deref_mut-2.result.now ≡ c.self.inside.jobs.items = cc (c.deref_mut-2.ensures.value) in
    let jobs_noted : c.deref-2.result.now ≡ c.self.inside.jobs.items = cc (c.deref-2.ensures.value) in
    let due : c.deref-3.result.now ≡ c.self.inside.due.items = cc (c.deref-3.ensures.value) in
    let due_noted : c.deref.result.now ≡ c.self.inside.due.items = cc (c.deref.ensures.value) in
    let failures : map has_job_failed c.self.inside.jobs.items ≡ site.failed = ap (λ (s : SiteState). s.failed) c.self.view_is in
    let flags : c.self.inside.written.items ≡ site.written = ap (λ (s : SiteState). s.written) c.self.view_is in
    let marked : c.deref_mut.result.now ≡ c.self.inside.written.items = cc (c.deref_mut.ensures.value) in
    let due_is = c.self.invariant.due_is c.if-not-self.false in
    let applies = λ (d : ℕ) (lt : d < length (map has_job_failed c.self.inside.jobs.items)).
    subst (λ (x : Type 0). x) (λ i. let was = get_or (map has_job_failed (jobs i)) d false in AppliesToVolume g.P.Plant.tells c.self.inside.body.items (not was && get_or (due i) d false) was (get_or failed d false) d old new)
    (c.apply_jobs.ensures.applies d (omega (arith, lt, length-map c.self.inside.jobs.items has_job_failed, ap length jobs))) in
    let marks = λ (d : ℕ) (lt : d < length c.self.inside.written.items).
    subst (λ (x : Type 0). x) (λ i. get_or written d false ≡ (get_or (marked i) d false || (not (get_or (map has_job_failed (jobs_noted i)) d false) && get_or (due_noted i) d false)))
    (c.note_written.ensures.written d (omega (arith, lt, ap length marked))) in
    let each = applies_to g.P.Plant.tells site failed written (map has_job_failed c.self.inside.jobs.items) c.self.inside.written.items c.self.inside.due.items c.self.inside.body.items old new items_are failures flags due_is applies marks c.requires.fast.fits.failed c.requires.fast.fits.written in
    subst (λ (s : SiteState). Leaves g.P.Plant.tells (excepted_by_apply site) site s old new) is (record {
      fits = fits_applied site failed written old new c.apply_jobs.ensures.only.site c.apply_jobs.ensures.home
          (omega (arith, length-map c.apply_jobs.new.jobs has_job_failed, c.apply_jobs.auto.jobs, ap length failures, length-map c.self.inside.jobs.items has_job_failed, ap length jobs)) (omega (arith, c.note_written.auto.written, ap length flags, ap length marked)) c.requires.fast.fits;
      stands = λ told e stands.
          let works = volumes_alone g.P.Plant.tells c.deref-3.result.now old new c.apply_jobs.ensures.only in
          let sizes = λ (d : ℕ) (there : d < old.volumes). g.met.P.Plant.length_told c.args.plant.now (Volume d) told (there, c.requires.fast.fits.home d there) in
          stands_applied g.P.Plant.tells told site (with_applied failed written site) old new works each c.requires.fast.fits.items sizes e stands refl;
    })

pub returns-clause-moments : goal.returns-clause-moments
returns-clause-moments g c told =
    let site = c.args.self.now in
    let old = g.P.Plant.state c.args.plant.now in
    let new = g.P.Plant.state c.apply_jobs.new.plant in
    let failed = map has_job_failed c.apply_jobs.new.jobs in
    let written = c.note_written.new.written in
    let jobs_are : (with_items c.self.inside.jobs c.apply_jobs.new.jobs).items ≡ c.apply_jobs.new.jobs = with_items_is c.self.inside.jobs c.apply_jobs.new.jobs (omega (arith, c.apply_jobs.auto.jobs, c.self.inside.jobs.ok.0)) in
    let written_are : (with_items c.self.inside.written written).items ≡ written = with_items_is c.self.inside.written written (omega (arith, c.note_written.auto.written, c.self.inside.written.ok.0)) in
    let is : with_applied failed written site ≡ _ = λ i. record (sym c.self.view_is i) { waiting = []; failed = map has_job_failed (sym jobs_are i); written = sym written_are i } in
    let items_are : c.self.inside.body.items ≡ site.waiting = ap (λ (b : Bool). cond b c.self.inside.body.items []) (sym c.if-not-self.false) ∙ ap (λ (s : SiteState). s.waiting) c.self.view_is in
    let jobs : c.deref_mut-2.result.now ≡ c.self.inside.jobs.items = cc (c.deref_mut-2.ensures.value) in
    let jobs_noted : c.deref-2.result.now ≡ c.self.inside.jobs.items = cc (c.deref-2.ensures.value) in
    let due : c.deref-3.result.now ≡ c.self.inside.due.items = cc (c.deref-3.ensures.value) in
    let due_noted : c.deref.result.now ≡ c.self.inside.due.items = cc (c.deref.ensures.value) in
    let failures : map has_job_failed c.self.inside.jobs.items ≡ site.failed = ap (λ (s : SiteState). s.failed) c.self.view_is in
    let flags : c.self.inside.written.items ≡ site.written = ap (λ (s : SiteState). s.written) c.self.view_is in
    let marked : c.deref_mut.result.now ≡ c.self.inside.written.items = cc (c.deref_mut.ensures.value) in
    let due_is = c.self.invariant.due_is c.if-not-self.false in
    let applies = λ (d : ℕ) (lt : d < length (map has_job_failed c.self.inside.jobs.items)).
    subst (λ (x : Type 0). x) (λ i. let was = get_or (map has_job_failed (jobs i)) d false in AppliesToVolume g.P.Plant.tells c.self.inside.body.items (not was && get_or (due i) d false) was (get_or failed d false) d old new)
    (c.apply_jobs.ensures.applies d (omega (arith, lt, length-map c.self.inside.jobs.items has_job_failed, ap length jobs))) in
    let marks = λ (d : ℕ) (lt : d < length c.self.inside.written.items).
    subst (λ (x : Type 0). x) (λ i. get_or written d false ≡ (get_or (marked i) d false || (not (get_or (map has_job_failed (jobs_noted i)) d false) && get_or (due_noted i) d false)))
    (c.note_written.ensures.written d (omega (arith, lt, ap length marked))) in
    let each = applies_to g.P.Plant.tells site failed written (map has_job_failed c.self.inside.jobs.items) c.self.inside.written.items c.self.inside.due.items c.self.inside.body.items old new items_are failures flags due_is applies marks c.requires.fast.fits.failed c.requires.fast.fits.written in
    let works = volumes_alone g.P.Plant.tells c.deref-3.result.now old new c.apply_jobs.ensures.only in
    let sizes = λ (d : ℕ) (there : d < old.volumes). g.met.P.Plant.length_told c.args.plant.now (Volume d) told (there, c.requires.fast.fits.home d there) in
    does_apply g.P.Plant.tells told site (with_applied failed written site) old new works each c.requires.fast.fits.items sizes (c.requires.fast.stands told).0 (c.requires.fast.stands told).1

pub returns-clause-others : goal.returns-clause-others
returns-clause-others g c =
    let site = c.args.self.now in
    let items_are : c.self.inside.body.items ≡ site.waiting = ap (λ (b : Bool). cond b c.self.inside.body.items []) (sym c.if-not-self.false) ∙ ap (λ (s : SiteState). s.waiting) c.self.view_is in
    let due : c.deref-3.result.now ≡ c.self.inside.due.items = cc (c.deref-3.ensures.value) in
    waiting_alone g.P.Plant.tells site c.deref-3.result.now (g.P.Plant.state c.args.plant.now) (g.P.Plant.state c.apply_jobs.new.plant) (λ d. ap (λ (l : List Bool). get_or l d false) due ∙ c.self.invariant.due_is c.if-not-self.false d ∙ ap (has_device d) items_are)
    c.apply_jobs.ensures.only
