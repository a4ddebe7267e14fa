use Rattle.std.proofs.Common.{rules, arith, ◌≡◌, ◌∙◌, ℕ, Result, Err, sym, subst}
use Rattle.crash_plant.specs.declared.device.Device.TheVariants.{Volume}
use Rattle.volume_copy.specs.Copying.{IsOfCopy}
use Rattle.volume_copy.specs.Faults.{FailsAmong}
use Rattle.volume_copy.proofs.Copying.{ready_later}
use Rattle.volume_copy.proofs.Faults.{fails_none, fails_so, fails_then}
use Rattle.volume_copy.proofs.Progress.{all_done}
use Rattle.volume_copy.proofs.CopiedCylinders.{volume_then}
use Rattle.volume_copy.proofs.volumes.copy_volume.Goals as goal

pub returns-in_err-first-clause-fails : goal.returns-in_err-first-clause-fails
returns-in_err-first-clause-fails g c =
    let job = c.args.job.now in
    let old = (g.P.Plant.state c.args.plant.now).faults in
    let mid = (g.P.Plant.state c.begin_copy.new.plant).faults in
    let e = c.in_err-first.field-0.0 in
    let is : c.from_residual.result ≡ Err e = search rules in
    subst (λ (r : Result (Unit {0}) _). FailsAmong (IsOfCopy job.source job.target) old mid r) (sym is) (fails_so {T = ℕ} {U = Unit {0}} (IsOfCopy job.source job.target) old mid e e c.in_err-first.ensures.fails)

pub loop-cylinder-init : goal.loop-cylinder-init
loop-cylinder-init g c = record {
  works = c.begin_copy.ensures.works;
  durable = c.in_ok-first.ensures.durable;
  stands = c.in_ok-first.ensures.stands;
  counts = c.in_ok-first.ensures.fails.ok;
}

pub copy_cylinder-requires-clause-ready : goal.copy_cylinder-requires-clause-ready
copy_cylinder-requires-clause-ready g c κs within = ready_later g.P.Plant.tells (IsOfCopy c.args.job.now.source c.args.job.now.target) c.args.job.now (g.P.Plant.state c.args.plant.now) (g.P.Plant.state c.loop-cylinder.plant) c.loop-cylinder.invariant.works.only c.requires.ready

pub copy_cylinder-requires-clause-within : goal.copy_cylinder-requires-clause-within
copy_cylinder-requires-clause-within g c κs within = omega (arith, c.requires.ready.whole, c.loop-cylinder-test.true)

pub returns-in_err-copy_cylinder-clause-works : goal.returns-in_err-copy_cylinder-clause-works
returns-in_err-copy_cylinder-clause-works g c =
    volume_then g.P.Plant.tells c.args.job.now c.requires.ready.apart (g.P.Plant.state c.args.plant.now) (g.P.Plant.state c.loop-cylinder.plant) (g.P.Plant.state c.copy_cylinder.new.plant) c.loop-cylinder.invariant.works c.copy_cylinder.ensures.works

pub returns-in_err-copy_cylinder-clause-fails : goal.returns-in_err-copy_cylinder-clause-fails
returns-in_err-copy_cylinder-clause-fails g c =
    let job = c.args.job.now in
    let old = (g.P.Plant.state c.args.plant.now).faults in
    let mid = (g.P.Plant.state c.loop-cylinder.plant).faults in
    let new = (g.P.Plant.state c.copy_cylinder.new.plant).faults in
    let e = c.in_err-copy_cylinder.field-0.0 in
    let is : c.from_residual-in_err-copy_cylinder.result ≡ Err e = search rules in
    subst (λ (r : Result (Unit {0}) _). FailsAmong (IsOfCopy job.source job.target) old new r) (sym is) (fails_then (IsOfCopy job.source job.target) old mid new (Err e) c.loop-cylinder.invariant.counts c.in_err-copy_cylinder.ensures.fails)

pub loop-cylinder-preserved : goal.loop-cylinder-preserved
loop-cylinder-preserved g c = record {
  works = volume_then g.P.Plant.tells c.args.job.now c.requires.ready.apart (g.P.Plant.state c.args.plant.now) (g.P.Plant.state c.loop-cylinder.plant) (g.P.Plant.state c.copy_cylinder.new.plant) c.loop-cylinder.invariant.works c.copy_cylinder.ensures.works;
  durable = c.in_ok-copy_cylinder.ensures.durable;
  stands = c.in_ok-copy_cylinder.ensures.stands;
  counts = λ d. c.in_ok-copy_cylinder.ensures.fails.ok d ∙ c.loop-cylinder.invariant.counts d;
}

pub returns-clause-done : goal.returns-clause-done
returns-clause-done g c told =
    let job = c.args.job.now in
    all_done job.claim ((g.P.Plant.state c.loop-cylinder.plant).bytes (Volume job.target)) c.requires.ready.cylinders c.loop-cylinder.cylinder c.requires.ready.whole (c.loop-cylinder.invariant.stands told) c.loop-cylinder-test.false

pub returns-clause-fails : goal.returns-clause-fails
returns-clause-fails g c = fails_none (IsOfCopy c.args.job.now.source c.args.job.now.target) (g.P.Plant.state c.args.plant.now).faults (g.P.Plant.state c.loop-cylinder.plant).faults _ c.loop-cylinder.invariant.counts
