use Rattle.std.proofs.Common.{◌≡◌, ◌<◌, ◌+◌, ℕ, Bool, take, set, true, false, List, length, get_or, refl, sym, ◌∙◌, ap, subst}
use Rattle.std.proofs.lemmas.Bool.{both_ways}
use Rattle.std.proofs.lemmas.List.{get_or_default}
use Rattle.xrc_journal.specs.declared.job.VolumeJob.{VolumeJob}
use Rattle.xrc_journal.specs.Items.{Item}
use Rattle.xrc_journal.specs.Bodies.{BodyState}
use Rattle.image_former.specs.Steps.{AreFormed, GoesBy}
use Rattle.image_former.proofs.Lists.{zip_refl}
use Rattle.image_former.proofs.Going.{by_here}
use Rattle.image_former.proofs.OneEntry.{row_there, job_there, slot_there, passed_failed, passed_earlier, all_go, not_late, not_there, formed_then}
use Rattle.image_former.proofs.forming.form_image.Goals as goal
use Rattle.image_former.proofs.forming.form_image.Goals.{then-jobs-job-via-then-jobs-job, then-jobs-job-via-else-jobs-job+then-has_earlier}

-- the job that was looked at, whatever stands for one after the end
failed_here : {D : Type 0} (jobs : List (VolumeJob D)) (i : ℕ) (one other : VolumeJob D) (b : Bool) → i < length jobs → (get_or jobs i one).failed ≡ b → (get_or jobs i other).failed ≡ b
failed_here jobs i one other b lt bad = ap (λ (j : VolumeJob _). j.failed) (get_or_default jobs i other one lt) ∙ bad

pub device_of-requires : goal.device_of-requires
device_of-requires g c = row_there g.D.Disk.state g.D.Disk.tells c.args.table.now.rows c.args.formed.now.entries c.args.place c.head-head.result c.args.jobs.now c.requires.ready c.head-head.ensures

pub job_place-job-requires : goal.job_place-job-requires
job_place-job-requires g c = job_there g.D.Disk.state g.D.Disk.tells c.args.table.now.rows c.args.formed.now.entries c.args.place c.head-head.result c.args.jobs.now c.requires.ready c.head-head.ensures c.device_of.result c.device_of.ensures.device

pub returns-then-jobs-job-clause-goes : goal.returns-then-jobs-job-clause-goes
returns-then-jobs-job-clause-goes g c =
    zip_refl (GoesBy g.D.Disk.state g.D.Disk.tells c.args.table.now.rows c.args.formed.now.entries) (by_here g.D.Disk.state g.D.Disk.tells c.args.table.now.rows c.args.formed.now.entries) c.args.jobs.now

pub returns-then-jobs-job-clause-formed : goal.returns-then-jobs-job-clause-formed
returns-then-jobs-job-clause-formed g c = elim c.then-jobs-job.branch [
  | then-jobs-job-via-then-jobs-job w ↦ passed_failed g.D.Disk.state g.D.Disk.tells c.args.table.now.rows c.args.formed.now.entries c.args.place c.head-head.result c.args.jobs.now c.requires.ready c.head-head.ensures c.device_of.result c.device_of.ensures.device c.device_of.ensures.rules c.job_place-job.result c.job_place-job.ensures.within c.job_place-job.ensures.device
      c.args.body.now.items c.index-jobs-job.result (failed_here c.args.jobs.now c.job_place-job.result c.index-jobs-job.result c.index-jobs-job.result true c.job_place-job.ensures.within w.if-jobs-job.true) c.requires.formed
  | then-jobs-job-via-else-jobs-job+then-has_earlier w ↦ passed_earlier g.D.Disk.state g.D.Disk.tells c.args.table.now.rows c.args.formed.now.entries c.args.place c.head-head.result c.args.jobs.now c.requires.ready c.head-head.ensures c.device_of.result c.device_of.ensures.device c.device_of.ensures.rules c.job_place-job.result c.job_place-job.ensures.within c.job_place-job.ensures.device
      c.args.body.now.items (sym w.has_earlier.ensures ∙ w.if-has_earlier.true) c.requires.formed
]

pub form_track-requires-clause-slot : goal.form_track-requires-clause-slot
form_track-requires-clause-slot g c =
    slot_there g.D.Disk.state g.D.Disk.tells c.args.table.now.rows c.args.formed.now.entries c.args.place c.head-head.result c.args.jobs.now c.requires.ready c.head-head.ensures c.device_of.result c.device_of.ensures.device c.device_of.ensures.rules c.job_place-job.result c.job_place-job.ensures.within c.job_place-job.ensures.device c.index-jobs-job-2.result
    (failed_here c.args.jobs.now c.job_place-job.result c.index-jobs-job.result c.index-jobs-job-2.result false c.job_place-job.ensures.within c.if-jobs-job.false)

pub returns-in_err-form_track-clause-goes : goal.returns-in_err-form_track-clause-goes
returns-in_err-form_track-clause-goes g c =
    all_go g.D.Disk.state g.D.Disk.tells c.args.table.now.rows c.args.formed.now.entries c.args.place c.head-head.result c.args.jobs.now c.requires.ready c.head-head.ensures c.device_of.result c.device_of.ensures.device c.device_of.ensures.rules c.job_place-job.result c.job_place-job.ensures.within c.job_place-job.ensures.device (sym c.has_earlier.ensures ∙ c.if-has_earlier.false) c.index-jobs-job-2.result c.form_track.new.job c.form_track.ensures.goes
    c.form_track.ensures.whole (λ whole. absurd (both_ways true (sym whole ∙ c.in_err-form_track.ensures.read) refl))

pub put_track-requires-clause-early : goal.put_track-requires-clause-early
put_track-requires-clause-early g c =
    not_late g.D.Disk.state g.D.Disk.tells c.args.table.now.rows c.args.formed.now.entries c.args.place c.head-head.result c.args.jobs.now c.requires.ready c.head-head.ensures c.device_of.result c.device_of.ensures.device c.device_of.ensures.rules c.job_place-job.result c.job_place-job.ensures.within c.job_place-job.ensures.device (sym c.has_earlier.ensures ∙ c.if-has_earlier.false) c.index-jobs-job-2.result c.form_track.new.job c.form_track.ensures.goes
    c.args.body.now.items c.requires.formed

pub put_track-requires-clause-first : goal.put_track-requires-clause-first
put_track-requires-clause-first g c =
    not_there g.D.Disk.state g.D.Disk.tells c.args.table.now.rows c.args.formed.now.entries c.args.place c.head-head.result c.args.jobs.now c.requires.ready c.head-head.ensures c.device_of.result c.device_of.ensures.device c.device_of.ensures.rules c.job_place-job.result c.job_place-job.ensures.within c.job_place-job.ensures.device (sym c.has_earlier.ensures ∙ c.if-has_earlier.false) c.index-jobs-job-2.result c.form_track.new.job c.form_track.ensures.goes
    c.args.body.now.items c.index-jobs-job-3.result c.requires.formed

pub returns-clause-goes : goal.returns-clause-goes
returns-clause-goes g c =
    let good = failed_here c.args.jobs.now c.job_place-job.result c.index-jobs-job.result c.index-jobs-job-2.result false c.job_place-job.ensures.within c.if-jobs-job.false in
    all_go g.D.Disk.state g.D.Disk.tells c.args.table.now.rows c.args.formed.now.entries c.args.place c.head-head.result c.args.jobs.now c.requires.ready c.head-head.ensures c.device_of.result c.device_of.ensures.device c.device_of.ensures.rules c.job_place-job.result c.job_place-job.ensures.within c.job_place-job.ensures.device (sym c.has_earlier.ensures ∙ c.if-has_earlier.false) c.index-jobs-job-2.result c.form_track.new.job c.form_track.ensures.goes
    c.form_track.ensures.whole (λ whole. c.in_ok-form_track.ensures.ok ∙ sym good)

pub returns-clause-formed : goal.returns-clause-formed
returns-clause-formed g c =
    let good = failed_here c.args.jobs.now c.job_place-job.result c.index-jobs-job.result c.index-jobs-job-2.result false c.job_place-job.ensures.within c.if-jobs-job.false in
    let all = all_go g.D.Disk.state g.D.Disk.tells c.args.table.now.rows c.args.formed.now.entries c.args.place c.head-head.result c.args.jobs.now c.requires.ready c.head-head.ensures c.device_of.result c.device_of.ensures.device c.device_of.ensures.rules c.job_place-job.result c.job_place-job.ensures.within c.job_place-job.ensures.device (sym c.has_earlier.ensures ∙ c.if-has_earlier.false) c.index-jobs-job-2.result c.form_track.new.job c.form_track.ensures.goes
    c.form_track.ensures.whole (λ whole. c.in_ok-form_track.ensures.ok ∙ sym good) in
    subst (λ (l : List Item). AreFormed g.D.Disk.state g.D.Disk.tells c.args.table.now.rows c.args.formed.now.entries (take (c.args.place + 1) c.args.formed.now.entries) (set c.args.jobs.now c.job_place-job.result c.form_track.new.job) l)
    (ap (λ (h : BodyState). h.items) (sym c.put_track.ensures.put))
    (formed_then g.D.Disk.state g.D.Disk.tells c.args.table.now.rows c.args.formed.now.entries c.args.place c.head-head.result c.args.jobs.now c.requires.ready c.head-head.ensures c.device_of.result c.device_of.ensures.device c.device_of.ensures.rules c.job_place-job.result c.job_place-job.ensures.within c.job_place-job.ensures.device (sym c.has_earlier.ensures ∙ c.if-has_earlier.false) c.index-jobs-job-2.result c.form_track.new.job c.form_track.ensures.goes
    c.args.body.now.items c.index-jobs-job-3.result good c.in_ok-form_track.ensures.ok all c.in_ok-form_track.ensures.content c.put_track.ensures.short c.requires.formed)
