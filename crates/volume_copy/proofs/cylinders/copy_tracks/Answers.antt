use Rattle.std.proofs.Common.{rules, arith, ◌≡◌, ◌+◌, ◌-◌, ◌*◌, Result, Err, sym, subst}
use Rattle.volume_copy.specs.Copying.{IsOfCopy}
use Rattle.volume_copy.specs.Faults.{FailsAmong}
use Rattle.volume_copy.proofs.Copying.{ready_later}
use Rattle.volume_copy.proofs.Faults.{fails_none, fails_then}
use Rattle.volume_copy.proofs.CopiedTracks.{tracks_next, tracks_none, tracks_within, tracks_works}
use Rattle.volume_copy.proofs.cylinders.copy_tracks.Goals as goal

pub loop-track-init : goal.loop-track-init
loop-track-init g c = tracks_none g.P.Plant.tells c.args.job.now c.requires.ready.apart (15 * c.args.cylinder) (g.P.Plant.state c.args.plant.now)

pub copy_track-requires-clause-ready : goal.copy_track-requires-clause-ready
copy_track-requires-clause-ready g c κs within = ready_later g.P.Plant.tells (IsOfCopy c.args.job.now.source c.args.job.now.target) c.args.job.now (g.P.Plant.state c.args.plant.now) (g.P.Plant.state c.loop-track.plant) c.loop-track.invariant.works.only c.requires.ready

pub copy_track-requires-clause-within : goal.copy_track-requires-clause-within
copy_track-requires-clause-within g c κs within = omega (arith, c.requires.within, c.loop-track-test.true)

pub returns-in_err-copy_track-clause-works : goal.returns-in_err-copy_track-clause-works
returns-in_err-copy_track-clause-works g c =
    let job = c.args.job.now in
    let first = 15 * c.args.cylinder in
    let track = c.loop-track.track in
    let a = g.P.Plant.state c.args.plant.now in
    let b = g.P.Plant.state c.loop-track.plant in
    let d = g.P.Plant.state c.copy_track.new.plant in
    tracks_within g.P.Plant.tells job c.requires.ready.apart first (track + 1 - first) 15 a d (omega (arith, c.loop-track-test.true)) (tracks_works g.P.Plant.tells job c.requires.ready.apart first track a b d c.loop-track.invariant c.copy_track.ensures.works)

pub returns-in_err-copy_track-clause-fails : goal.returns-in_err-copy_track-clause-fails
returns-in_err-copy_track-clause-fails g c =
    let job = c.args.job.now in
    let old = (g.P.Plant.state c.args.plant.now).faults in
    let mid = (g.P.Plant.state c.loop-track.plant).faults in
    let new = (g.P.Plant.state c.copy_track.new.plant).faults in
    let e = c.in_err-copy_track.field-0.0 in
    let is : c.from_residual.result ≡ Err e = search rules in
    subst (λ (r : Result (Unit {0}) _). FailsAmong (IsOfCopy job.source job.target) old new r) (sym is) (fails_then (IsOfCopy job.source job.target) old mid new (Err e) c.loop-track.invariant.counts c.in_err-copy_track.ensures.fails)

pub loop-track-preserved : goal.loop-track-preserved
loop-track-preserved g c =
    let job = c.args.job.now in
    let a = g.P.Plant.state c.args.plant.now in
    let b = g.P.Plant.state c.loop-track.plant in
    let d = g.P.Plant.state c.copy_track.new.plant in
    tracks_next g.P.Plant.tells job c.requires.ready.apart (15 * c.args.cylinder) c.loop-track.track a b d c.loop-track.invariant c.copy_track.ensures.works (λ told. c.in_ok-copy_track.ensures.copied told) c.in_ok-copy_track.ensures.fails.ok

pub returns-clause-works : goal.returns-clause-works
returns-clause-works g c =
    let first = 15 * c.args.cylinder in
    let track = c.loop-track.track in
    tracks_within g.P.Plant.tells c.args.job.now c.requires.ready.apart first (track - first) 15 (g.P.Plant.state c.args.plant.now) (g.P.Plant.state c.loop-track.plant) (omega (arith, c.loop-track.auto.track-end)) c.loop-track.invariant.works

pub returns-clause-copied : goal.returns-clause-copied
returns-clause-copied g c told x low high = c.loop-track.invariant.copied told x low (omega (arith, high, c.loop-track-test.false))

pub returns-clause-fails : goal.returns-clause-fails
returns-clause-fails g c = fails_none (IsOfCopy c.args.job.now.source c.args.job.now.target) (g.P.Plant.state c.args.plant.now).faults (g.P.Plant.state c.loop-track.plant).faults _ c.loop-track.invariant.counts
