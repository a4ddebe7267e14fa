use Rattle.std.proofs.Common.{◌≡◌, ℕ, ◌<◌, false, length, length-set, map, set, is_none, sym, ap, ◌∙◌, arith}
use Rattle.std.proofs.lemmas.List.{length-map}
use Rattle.xrc_journal.specs.declared.job.VolumeJob.{VolumeJob}
use Rattle.site_store.specs.Commands.{added_device, without_flag}
use Rattle.site_store.specs.Jobs.{has_job_failed}
use Rattle.site_store.specs.Sites.{SiteState}
use Rattle.site_store.proofs.CommandRows.{added_below, flags_after, flags_same, none_there}
use Rattle.site_store.proofs.HomeJobs.{home_set, job_at, map_set}
use Rattle.site_store.proofs.site.Site.take_added.Goals as goal

pub index_mut-requires : goal.index_mut-requires
index_mut-requires g c =
    let lt = added_below (length c.args.self.now.failed) c.args.change.now c.in-Some.device c.requires (sym c.in-Some.ensures) in
    omega (arith, lt, c.from.ensures, ap (λ (s : SiteState). length s.failed) c.self.view_is, length-map c.self.inside.jobs.items has_job_failed, c.self.inside.jobs.ok.0)

pub invariant_of-self : goal.invariant_of-self
invariant_of-self g c =
    let jobs = c.self.inside.jobs.items in
    let k = c.from.result in
    let job = c.index_mut.result.now in
    let now : VolumeJob _ = record job { failed = false } in
    let below = added_below (length c.args.self.now.failed) c.args.change.now c.in-Some.device c.requires (sym c.in-Some.ensures) in
    let lt : k < length jobs = omega (arith, below, c.from.ensures, ap (λ (s : SiteState). length s.failed) c.self.view_is, length-map jobs has_job_failed) in
    let own = job_at 0 jobs k job c.self.invariant.home lt in
    record {
      room_is = c.self.invariant.room_is;
      marked_is = c.self.invariant.marked_is;
      told_is = c.self.invariant.told_is;
      home = home_set 0 jobs k now c.self.invariant.home lt (ap (λ (j : VolumeJob _). j.device) c.index_mut.ensures.value ∙ own.0) (ap (λ (j : VolumeJob _). is_none j.disk) c.index_mut.ensures.value ∙ own.1);
      flags = c.self.invariant.flags ∙ sym (length-set jobs k now);
      due_is = c.self.invariant.due_is;
    }

pub returns-in_default : goal.returns-in_default
returns-in_default g c =
    let none = none_there (added_device c.args.change.now) (λ d is. c.in_default.not-Some d (c.added_device.ensures ∙ is)) in
    λ i. record c.args.self.now { failed = sym (flags_same c.args.change.now c.args.self.now.failed none) i }

pub returns-in-Some : goal.returns-in-Some
returns-in-Some g c =
    let jobs = c.self.inside.jobs.items in
    let k = c.from.result in
    let job = c.index_mut.result.now in
    let now : VolumeJob _ = record job { failed = false } in
    let flags : map has_job_failed (set jobs k now) ≡ without_flag 0 c.args.change.now c.args.self.now.failed =
    map_set jobs k now ∙ ap (λ (n : ℕ). set (map has_job_failed jobs) n false) c.from.ensures ∙ sym (flags_after c.args.change.now (map has_job_failed jobs) c.in-Some.device (sym c.in-Some.ensures))
    ∙ ap (λ (s : SiteState). without_flag 0 c.args.change.now s.failed) c.self.view_is in
    λ i. record (c.self.view_is i) { failed = flags i }
