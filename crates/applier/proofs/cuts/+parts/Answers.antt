use Rattle.applier.proofs.Parts.{of_parts}
use Rattle.applier.proofs.cuts.+parts.Goals as goal

pub work_in_parts-returns : goal.work_in_parts-returns
work_in_parts-returns g t c =
    let cut = c.split_at_mut-front in
    of_parts (g.W.Work.leaves c.args.work.now) c.args.jobs.now cut.result.0.now cut.result.1.now c.work_on_both.new.front c.work_on_both.new.back cut.ensures.value c.work_on_both.ensures.front c.work_on_both.ensures.back
