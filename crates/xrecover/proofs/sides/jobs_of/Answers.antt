use Rattle.std.proofs.Common.{◌≡◌, ◌+◌, ◌∙◌, ℕ, List, length, not, sym, ap, subst, arith}
use Rattle.std.specs.List.{list_any}
use Rattle.xrc_journal.specs.declared.job.VolumeJob.{VolumeJob}
use Rattle.xrecover.specs.Pairs.{is_duplex_of}
use Rattle.xrecover.specs.SideVolumes.{AreHome, is_left}
use Rattle.xrecover.proofs.LentSides.{home_push, left_push}
use Rattle.xrecover.proofs.sides.jobs_of.Goals as goal

pub loop-device-preserved : goal.loop-device-preserved
loop-device-preserved g c =
    let so_far = c.loop-device.jobs.items in
    let inv = c.loop-device.invariant in
    let rows = c.args.table.now.rows in
    let job = c.in_ok-job_on.field-0 in
    let made = c.in_ok-job_on.ensures in
    let items = c.in_ok-push.ensures.items in
    record {
      home = subst (λ (l : List (VolumeJob _)). AreHome (c.loop-device.device + 1) l) (sym items) (home_push c.loop-device.device so_far job inv.home (ap (λ (j : VolumeJob _). j.device) made) (ap (λ (j : VolumeJob _). j.disk) made));
      left = λ sound v lt.
          let own : job.failed ≡ not (list_any (is_duplex_of (length so_far)) rows) = ap (λ (j : VolumeJob _). j.failed) made ∙ ap not (c.has_duplex.ensures sound) ∙ ap (λ (n : ℕ). not (list_any (is_duplex_of n) rows)) (sym inv.home.count) in
          ap (λ (l : List (VolumeJob _)). is_left l v) items ∙ left_push (λ w. not (list_any (is_duplex_of w) rows)) so_far job (λ w less. inv.left sound w (omega (arith, less, inv.home.count))) own v (omega (arith, lt, inv.home.count));
    }
