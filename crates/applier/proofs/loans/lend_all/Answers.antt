use Rattle.std.proofs.Common.{◌<◌, refl, sym, ◌∙◌, ap, subst, arith}
use Rattle.xrc_journal.specs.declared.job.VolumeJob.{VolumeJob}
use Rattle.applier.proofs.Lending.{none_out, is_home, out_next, so_far_next}
use Rattle.applier.proofs.loans.lend_all.Goals as goal

pub loop-i-init : goal.loop-i-init
loop-i-init g c = record {
  out = none_out g.P.Plant.tells g.P.Volume.Disk.tells g.P.Volume.Disk.state (g.P.Plant.state c.args.plant.now) c.args.jobs.now c.requires.home c.requires.apart c.requires.idle;
  so_far = record { done = λ k d none less. absurd (omega (arith, none)); rest = λ k d from. refl };
}

pub lend_where-requires-clause-home : goal.lend_where-requires-clause-home
lend_where-requires-clause-home g c κs within =
    let i = c.loop-i.i in
    let job = c.index-jobs-i.result in
    let out = c.loop-i.invariant.out in
    let same = c.loop-i.invariant.so_far.rest i job (omega arith) in
    is_home g.P.Plant.tells g.P.Volume.Disk.tells g.P.Volume.Disk.state (g.P.Plant.state c.args.plant.now) (g.P.Plant.state c.loop-i.plant) c.loop-i.jobs i job out (omega (arith, c.loop-i-test.true, c.loop-i.auto.jobs))
    (subst (λ (j : VolumeJob _). j.device < (g.P.Plant.state c.args.plant.now).volumes) (sym same) (c.requires.there i job c.loop-i-test.true))
    (ap (λ (j : VolumeJob _). j.disk) same ∙ c.requires.idle i job c.loop-i-test.true)

pub lend_where-requires-clause-idle : goal.lend_where-requires-clause-idle
lend_where-requires-clause-idle g c κs within =
    let i = c.loop-i.i in
    let job = c.index-jobs-i.result in
    ap (λ (j : VolumeJob _). j.disk) (c.loop-i.invariant.so_far.rest i job (omega arith)) ∙ c.requires.idle i job c.loop-i-test.true

pub loop-i-preserved : goal.loop-i-preserved
loop-i-preserved g c =
    let i = c.loop-i.i in
    let job = c.index-jobs-i.result in
    let out = c.loop-i.invariant.out in
    let so_far = c.loop-i.invariant.so_far in
    let same = so_far.rest i job (omega arith) in
    let lends = c.lend_where.ensures in
    record {
      out = out_next g.P.Plant.state g.P.Plant.tells g.P.Volume.Disk.tells g.P.Volume.Disk.state (g.P.Plant.state c.args.plant.now) c.loop-i.plant c.lend_where.new.plant c.loop-i.jobs i job c.lend_where.new.job (omega (arith, c.loop-i-test.true, c.loop-i.auto.jobs))
          (subst (λ (j : VolumeJob _). j.device < (g.P.Plant.state c.args.plant.now).volumes) (sym same) (c.requires.there i job c.loop-i-test.true))
          (ap (λ (j : VolumeJob _). j.disk) same ∙ c.requires.idle i job c.loop-i-test.true)
          lends.job.device lends.tells lends.nothing lends.lent out;
      so_far = so_far_next i c.args.wanted.now c.args.jobs.now c.loop-i.jobs job c.lend_where.new.job c.loop-i-test.true c.loop-i.auto.jobs lends.job so_far;
    }
