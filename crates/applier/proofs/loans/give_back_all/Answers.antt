use Rattle.std.proofs.Common.{◌≡◌, ℕ, length, get_or, IfSome, refl, sym, ◌∙◌, ap, subst, arith}
use Rattle.crash_plant.specs.Calls.{IsLentOne, TakesBack}
use Rattle.crash_plant.proofs.Planned.{one_more, still_to_come}
use Rattle.xrc_journal.specs.declared.job.VolumeJob.{VolumeJob}
use Rattle.applier.specs.Disks.{without_disk}
use Rattle.applier.proofs.Giving.{AreHalfBack, none_back, own_lent, back_next, all_back}
use Rattle.applier.proofs.Moving.{only_reads}
use Rattle.applier.proofs.Works.{none_lent_lent}
use Rattle.applier.proofs.loans.give_back_all.Goals as goal

pub loop-job-init : goal.loop-job-init
loop-job-init g c = record {
  jobs = refl;
  back = λ start lent out. none_back g.P.Plant.tells g.P.Volume.Disk.tells g.P.Volume.Disk.state (g.P.Plant.state start) (g.P.Plant.state c.args.plant.now) lent c.args.jobs.now out;
}

pub give_back_own-requires-clause-lent : goal.give_back_own-requires-clause-lent
give_back_own-requires-clause-lent g c κs within =
    let given = c.args.jobs.now in
    let i = c.loop-job.job-index in
    let job = c.job-item.result in
    let before = c.loop-job.invariant in
    let less = c.loop-job-test.true in
    let at : job ≡ get_or given i job = c.job-item.is ∙ still_to_come without_disk given c.loop-job.jobs i job less before.jobs in
    let out = before.back c.requires.out.0 c.requires.out.1 c.requires.out.2 in
    subst (λ (j : VolumeJob _). IfSome j.disk (λ disk. IsLentOne g.P.Plant.tells j.device (g.P.Plant.state c.loop-job.plant) (g.P.Volume.Disk.state disk))) c.job-item.is
    (own_lent g.P.Plant.state g.P.Plant.tells g.P.Volume.Disk.tells g.P.Volume.Disk.state i (g.P.Plant.state c.requires.out.0) c.loop-job.plant c.requires.out.1 given out job less at)

pub loop-job-preserved : goal.loop-job-preserved
loop-job-preserved g c =
    let tells = g.P.Plant.tells in
    let own = g.P.Volume.Disk.tells in
    let disk = g.P.Volume.Disk.state in
    let state = g.P.Plant.state in
    let given = c.args.jobs.now in
    let jobs = c.loop-job.jobs in
    let i = c.loop-job.job-index in
    let job = c.job-item.result in
    let before = c.loop-job.invariant in
    let less = c.loop-job-test.true in
    let at : job ≡ get_or given i job = c.job-item.is ∙ still_to_come without_disk given jobs i job less before.jobs in
    record {
      jobs = one_more without_disk given jobs i job less before.jobs c.give_back_own.new.job c.give_back_own.ensures.job;
      back = λ start lent out. back_next state tells own disk i (state start) c.loop-job.plant lent given (before.back start lent out) job less at c.give_back_own.new.plant
          (λ none. c.give_back_own.ensures.nothing (ap (λ (j : VolumeJob _). j.disk) (sym c.job-item.is) ∙ none))
          (subst (λ (j : VolumeJob _). IfSome j.disk (λ d. TakesBack tells j.device (state c.loop-job.plant) (state c.give_back_own.new.plant) (disk d))) (sym c.job-item.is) c.give_back_own.ensures.back);
    }

pub returns-clause-home : goal.returns-clause-home
returns-clause-home g c =
    let tells = g.P.Plant.tells in
    let own = g.P.Volume.Disk.tells in
    let disk = g.P.Volume.Disk.state in
    let state = g.P.Plant.state in
    let is : c.loop-job.job-index ≡ length c.args.jobs.now = omega (arith, c.loop-job-test.false, c.loop-job.auto.job-index-end) in
    let half = subst (λ (n : ℕ). AreHalfBack tells own disk n (state c.requires.out.0) (state c.loop-job.plant) c.requires.out.1 c.args.jobs.now) is (c.loop-job.invariant.back c.requires.out.0 c.requires.out.1 c.requires.out.2) in
    none_lent_lent tells _ (state c.requires.out.0) (state c.loop-job.plant) (all_back tells own disk (state c.requires.out.0) (state c.loop-job.plant) c.requires.out.1 c.args.jobs.now half).works half.home

pub returns-clause-back : goal.returns-clause-back
returns-clause-back g c start lent out =
    let tells = g.P.Plant.tells in
    let own = g.P.Volume.Disk.tells in
    let disk = g.P.Volume.Disk.state in
    let state = g.P.Plant.state in
    let is : c.loop-job.job-index ≡ length c.args.jobs.now = omega (arith, c.loop-job-test.false, c.loop-job.auto.job-index-end) in
    let half = subst (λ (n : ℕ). AreHalfBack tells own disk n (state start) (state c.loop-job.plant) lent c.args.jobs.now) is (c.loop-job.invariant.back start lent out) in
    all_back tells own disk (state start) (state c.loop-job.plant) lent c.args.jobs.now half

pub returns-clause-read : goal.returns-clause-read
returns-clause-read g c start lent out read =
    let tells = g.P.Plant.tells in
    let own = g.P.Volume.Disk.tells in
    let disk = g.P.Volume.Disk.state in
    let state = g.P.Plant.state in
    let is : c.loop-job.job-index ≡ length c.args.jobs.now = omega (arith, c.loop-job-test.false, c.loop-job.auto.job-index-end) in
    let half = subst (λ (n : ℕ). AreHalfBack tells own disk n (state start) (state c.loop-job.plant) lent c.args.jobs.now) is (c.loop-job.invariant.back start lent out) in
    only_reads tells own disk (state start) (state c.args.plant.now) (state c.loop-job.plant) lent c.args.jobs.now out (all_back tells own disk (state start) (state c.loop-job.plant) lent c.args.jobs.now half) read
