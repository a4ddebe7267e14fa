use Rattle.std.proofs.Common.{◌∙◌, ◌∷◌, ◌++◌, List, [], ap, sym, arith, length, length-append, map}
use Rattle.std.specs.Prelude.{is_none}
use Rattle.xrc_journal.specs.declared.job.VolumeJob.{VolumeJob}
use Rattle.site_store.specs.Jobs.{are_home_from, has_job_failed}
use Rattle.site_store.proofs.HomeJobs.{failed_push, false_more, home_push}
use Rattle.site_store.proofs.formatting.jobs.Goals as goal

pub loop-device-preserved : goal.loop-device-preserved
loop-device-preserved g c =
    let so_far = c.loop-device.jobs.items in
    let job = c.in_ok-make.field-0 in
    let inv = c.loop-device.invariant in
    let items = c.in_ok-push.ensures.items in
    let made = c.in_ok-make.ensures in
    record {
      home = ap (λ (l : List (VolumeJob _)). are_home_from 0 l) items ∙ home_push 0 so_far job inv.home (ap (λ (j : VolumeJob _). j.device) made ∙ sym inv.size ∙ omega arith) (ap (λ (j : VolumeJob _). is_none j.disk) made);
      size = ap length items ∙ length-append so_far (job ∷ []) ∙ omega (arith, inv.size);
      good = ap (λ (l : List (VolumeJob _)). map has_job_failed l) items ∙ failed_push so_far job ∙ (λ i. inv.good i ++ (made i).failed ∷ []) ∙ false_more c.loop-device.device;
    }
