use Rattle.std.proofs.Common.{rules, arith, ◌≡◌, ◌∙◌, ℕ, List, Result, Err, inr, refl, sym, ap, subst}
use Rattle.crash_plant.specs.declared.device.Device.TheVariants.{Volume}
use Rattle.copy_progress.specs.Copies.{done}
use Rattle.volume_copy.specs.Copying.{IsOfCopy}
use Rattle.volume_copy.specs.Faults.{FailsAmong}
use Rattle.volume_copy.proofs.Copying.{durable_read, ready_later, target_there}
use Rattle.volume_copy.proofs.Faults.{fails_none, fails_one, fails_so, fails_then, none_rose}
use Rattle.volume_copy.proofs.Progress.{stands_cleared, stands_done}
use Rattle.volume_copy.proofs.CopiedCylinders.{begin_cleared, begin_same, volume_then}
use Rattle.volume_copy.proofs.begin.begin_copy.Goals as goal

pub sync-requires : goal.sync-requires
sync-requires g c = record { there = target_there (g.P.Plant.state c.args.plant.now) c.args.job.now c.requires.ready }

pub done-requires-clause-there : goal.done-requires-clause-there
done-requires-clause-there g c κs within =
    let job = c.args.job.now in
    let b = g.P.Plant.state c.sync.new.self in
    target_there b job (ready_later g.P.Plant.tells (λ d. d ≡ Volume job.target) job (g.P.Plant.state c.args.plant.now) b c.sync.ensures.only c.requires.ready)

pub done-requires-clause-long : goal.done-requires-clause-long
done-requires-clause-long g c κs within = omega (arith, c.requires.ready.target_long, c.sync.ensures.only.site.lengths (Volume c.args.job.now.target))

pub clear_progress-requires-clause-there : goal.clear_progress-requires-clause-there
clear_progress-requires-clause-there g c κs within =
    let job = c.args.job.now in
    let a = g.P.Plant.state c.args.plant.now in
    let b = g.P.Plant.state c.sync.new.self in
    let d = g.P.Plant.state c.done.new.plant in
    target_there d job (ready_later g.P.Plant.tells (λ d. d ≡ Volume job.target) job b d c.done.ensures.only (ready_later g.P.Plant.tells (λ d. d ≡ Volume job.target) job a b c.sync.ensures.only c.requires.ready))

pub clear_progress-requires-clause-long : goal.clear_progress-requires-clause-long
clear_progress-requires-clause-long g c κs within = omega (arith, c.requires.ready.target_long, c.sync.ensures.only.site.lengths (Volume c.args.job.now.target), c.done.ensures.only.site.lengths (Volume c.args.job.now.target))

pub clear_progress-requires-clause-durable : goal.clear_progress-requires-clause-durable
clear_progress-requires-clause-durable g c κs within told =
    let t = Volume c.args.job.now.target in
    durable_read (g.P.Plant.state c.sync.new.self) (g.P.Plant.state c.done.new.plant) t ((c.done.ensures.only.elapses told).kept t).later (c.done.ensures.moments told) (c.done.ensures.same told) (c.in_ok-sync.ensures.durable told)

pub returns-in_err-sync-clause-works : goal.returns-in_err-sync-clause-works
returns-in_err-sync-clause-works g c =
    begin_same g.P.Plant.tells c.args.job.now c.requires.ready.apart (g.P.Plant.state c.args.plant.now) (g.P.Plant.state c.sync.new.self) c.sync.ensures.only c.sync.ensures.same c.sync.ensures.moments

pub returns-in_err-sync-clause-fails : goal.returns-in_err-sync-clause-fails
returns-in_err-sync-clause-fails g c =
    let job = c.args.job.now in
    let old = (g.P.Plant.state c.args.plant.now).faults in
    let mid = (g.P.Plant.state c.sync.new.self).faults in
    let e = c.in_err-sync.field-0.0 in
    let is : c.from_residual.result ≡ Err e = search rules in
    subst (λ (r : Result ℕ _). FailsAmong (IsOfCopy job.source job.target) old mid r) (sym is)
    (fails_so {T = Unit {0}} {U = ℕ} (IsOfCopy job.source job.target) old mid e e (fails_one (IsOfCopy job.source job.target) (Volume job.target) old mid (Err e) (inr refl) c.in_err-sync.ensures.cause (λ d other. c.sync.ensures.only.others_faults d other)))

pub returns-in_err-next-clause-works : goal.returns-in_err-next-clause-works
returns-in_err-next-clause-works g c =
    let job = c.args.job.now in
    let a = g.P.Plant.state c.args.plant.now in
    let b = g.P.Plant.state c.sync.new.self in
    let d = g.P.Plant.state c.done.new.plant in
    volume_then g.P.Plant.tells job c.requires.ready.apart a b d (begin_same g.P.Plant.tells job c.requires.ready.apart a b c.sync.ensures.only c.sync.ensures.same c.sync.ensures.moments)
    (begin_same g.P.Plant.tells job c.requires.ready.apart b d c.done.ensures.only c.done.ensures.same c.done.ensures.moments)

pub returns-in_err-next-clause-fails : goal.returns-in_err-next-clause-fails
returns-in_err-next-clause-fails g c =
    let job = c.args.job.now in
    let among = IsOfCopy job.source job.target in
    let old = (g.P.Plant.state c.args.plant.now).faults in
    let mid = (g.P.Plant.state c.sync.new.self).faults in
    let new = (g.P.Plant.state c.done.new.plant).faults in
    let e = c.in_err-next.field-0.0 in
    let is : c.from_residual-in_err-next.result ≡ Err e = search rules in
    subst (λ (r : Result ℕ _). FailsAmong among old new r) (sym is)
    (fails_then among old mid new (Err e) (none_rose (Volume job.target) old mid _ c.in_ok-sync.ensures.cause (λ d other. c.sync.ensures.only.others_faults d other))
    (fails_one among (Volume job.target) mid new (Err e) (inr refl) c.in_err-next.ensures.cause (λ d other. c.done.ensures.only.others_faults d other)))

pub returns-in_err-clear_progress-clause-works : goal.returns-in_err-clear_progress-clause-works
returns-in_err-clear_progress-clause-works g c =
    let job = c.args.job.now in
    let t = Volume job.target in
    let a = g.P.Plant.state c.args.plant.now in
    let b = g.P.Plant.state c.sync.new.self in
    let d = g.P.Plant.state c.done.new.plant in
    let e = g.P.Plant.state c.clear_progress.new.plant in
    let apart = c.requires.ready.apart in
    let durable = λ (told : g.P.Plant.tells). durable_read b d t ((c.done.ensures.only.elapses told).kept t).later (c.done.ensures.moments told) (c.done.ensures.same told) (c.in_ok-sync.ensures.durable told) in
    let none = λ (told : g.P.Plant.tells). ap (λ (l : List ℕ). done job.claim l) (c.done.ensures.same told) ∙ sym (c.in_ok-next.ensures.done told) ∙ c.if-next-eq0.true in
    let only = ready_later g.P.Plant.tells (λ x. x ≡ t) job d e c.clear_progress.ensures.only (ready_later g.P.Plant.tells (λ x. x ≡ t) job b d c.done.ensures.only (ready_later g.P.Plant.tells (λ x. x ≡ t) job a b c.sync.ensures.only c.requires.ready)) in
    let image = λ (told : g.P.Plant.tells). g.met.P.Plant.read_is_image c.clear_progress.new.plant t told (target_there e job only) in
    volume_then g.P.Plant.tells job apart a d e
    (volume_then g.P.Plant.tells job apart a b d (begin_same g.P.Plant.tells job apart a b c.sync.ensures.only c.sync.ensures.same c.sync.ensures.moments) (begin_same g.P.Plant.tells job apart b d c.done.ensures.only c.done.ensures.same c.done.ensures.moments))
    (begin_cleared g.P.Plant.tells job apart d e durable none image c.clear_progress.ensures.only c.clear_progress.ensures.moments)

pub returns-in_err-clear_progress-clause-fails : goal.returns-in_err-clear_progress-clause-fails
returns-in_err-clear_progress-clause-fails g c =
    let job = c.args.job.now in
    let among = IsOfCopy job.source job.target in
    let old = (g.P.Plant.state c.args.plant.now).faults in
    let mid = (g.P.Plant.state c.sync.new.self).faults in
    let read = (g.P.Plant.state c.done.new.plant).faults in
    let new = (g.P.Plant.state c.clear_progress.new.plant).faults in
    let e = c.in_err-clear_progress.field-0.0 in
    let is : c.from_residual-in_err-clear_progress.result ≡ Err e = search rules in
    let synced = none_rose (Volume job.target) old mid _ c.in_ok-sync.ensures.cause (λ d other. c.sync.ensures.only.others_faults d other) in
    let told = none_rose (Volume job.target) mid read _ c.in_ok-next.ensures.cause (λ d other. c.done.ensures.only.others_faults d other) in
    subst (λ (r : Result ℕ _). FailsAmong among old new r) (sym is)
    (fails_so {T = Unit {0}} {U = ℕ} among old new e e (fails_then among old read new (Err e) (λ d. told d ∙ synced d) (fails_one among (Volume job.target) read new (Err e) (inr refl) c.in_err-clear_progress.ensures.cause (λ d other. c.clear_progress.ensures.only.others_faults d other))))

pub returns-then-next-eq0-clause-works : goal.returns-then-next-eq0-clause-works
returns-then-next-eq0-clause-works g c =
    let job = c.args.job.now in
    let t = Volume job.target in
    let a = g.P.Plant.state c.args.plant.now in
    let b = g.P.Plant.state c.sync.new.self in
    let d = g.P.Plant.state c.done.new.plant in
    let e = g.P.Plant.state c.clear_progress.new.plant in
    let apart = c.requires.ready.apart in
    let durable = λ (told : g.P.Plant.tells). durable_read b d t ((c.done.ensures.only.elapses told).kept t).later (c.done.ensures.moments told) (c.done.ensures.same told) (c.in_ok-sync.ensures.durable told) in
    let none = λ (told : g.P.Plant.tells). ap (λ (l : List ℕ). done job.claim l) (c.done.ensures.same told) ∙ sym (c.in_ok-next.ensures.done told) ∙ c.if-next-eq0.true in
    let only = ready_later g.P.Plant.tells (λ x. x ≡ t) job d e c.clear_progress.ensures.only (ready_later g.P.Plant.tells (λ x. x ≡ t) job b d c.done.ensures.only (ready_later g.P.Plant.tells (λ x. x ≡ t) job a b c.sync.ensures.only c.requires.ready)) in
    let image = λ (told : g.P.Plant.tells). g.met.P.Plant.read_is_image c.clear_progress.new.plant t told (target_there e job only) in
    volume_then g.P.Plant.tells job apart a d e
    (volume_then g.P.Plant.tells job apart a b d (begin_same g.P.Plant.tells job apart a b c.sync.ensures.only c.sync.ensures.same c.sync.ensures.moments) (begin_same g.P.Plant.tells job apart b d c.done.ensures.only c.done.ensures.same c.done.ensures.moments))
    (begin_cleared g.P.Plant.tells job apart d e durable none image c.clear_progress.ensures.only c.clear_progress.ensures.moments)

pub returns-then-next-eq0-clause-stands : goal.returns-then-next-eq0-clause-stands
returns-then-next-eq0-clause-stands g c told = stands_cleared c.args.job.now.claim ((g.P.Plant.state c.clear_progress.new.plant).bytes (Volume c.args.job.now.target)) (c.in_ok-clear_progress.ensures.clear told)

pub returns-then-next-eq0-clause-fails : goal.returns-then-next-eq0-clause-fails
returns-then-next-eq0-clause-fails g c =
    let job = c.args.job.now in
    let old = (g.P.Plant.state c.args.plant.now).faults in
    let mid = (g.P.Plant.state c.sync.new.self).faults in
    let read = (g.P.Plant.state c.done.new.plant).faults in
    let new = (g.P.Plant.state c.clear_progress.new.plant).faults in
    let synced = none_rose (Volume job.target) old mid _ c.in_ok-sync.ensures.cause (λ d other. c.sync.ensures.only.others_faults d other) in
    let told = none_rose (Volume job.target) mid read _ c.in_ok-next.ensures.cause (λ d other. c.done.ensures.only.others_faults d other) in
    let cleared = none_rose (Volume job.target) read new _ c.in_ok-clear_progress.ensures.cause (λ d other. c.clear_progress.ensures.only.others_faults d other) in
    fails_none (IsOfCopy job.source job.target) old new _ (λ d. cleared d ∙ told d ∙ synced d)

pub returns-clause-works : goal.returns-clause-works
returns-clause-works g c =
    let job = c.args.job.now in
    let a = g.P.Plant.state c.args.plant.now in
    let b = g.P.Plant.state c.sync.new.self in
    let d = g.P.Plant.state c.done.new.plant in
    let apart = c.requires.ready.apart in
    volume_then g.P.Plant.tells job apart a b d (begin_same g.P.Plant.tells job apart a b c.sync.ensures.only c.sync.ensures.same c.sync.ensures.moments) (begin_same g.P.Plant.tells job apart b d c.done.ensures.only c.done.ensures.same c.done.ensures.moments)

pub returns-clause-durable : goal.returns-clause-durable
returns-clause-durable g c told =
    let t = Volume c.args.job.now.target in
    durable_read (g.P.Plant.state c.sync.new.self) (g.P.Plant.state c.done.new.plant) t ((c.done.ensures.only.elapses told).kept t).later (c.done.ensures.moments told) (c.done.ensures.same told) (c.in_ok-sync.ensures.durable told)

pub returns-clause-stands : goal.returns-clause-stands
returns-clause-stands g c told =
    let job = c.args.job.now in
    let target = (g.P.Plant.state c.done.new.plant).bytes (Volume job.target) in
    stands_done job.claim target c.in_ok-next.next (ap (λ (l : List ℕ). done job.claim l) (c.done.ensures.same told) ∙ sym (c.in_ok-next.ensures.done told)) c.if-next-eq0.false

pub returns-clause-fails : goal.returns-clause-fails
returns-clause-fails g c =
    let job = c.args.job.now in
    let old = (g.P.Plant.state c.args.plant.now).faults in
    let mid = (g.P.Plant.state c.sync.new.self).faults in
    let read = (g.P.Plant.state c.done.new.plant).faults in
    let synced = none_rose (Volume job.target) old mid _ c.in_ok-sync.ensures.cause (λ d other. c.sync.ensures.only.others_faults d other) in
    let told = none_rose (Volume job.target) mid read _ c.in_ok-next.ensures.cause (λ d other. c.done.ensures.only.others_faults d other) in
    fails_none (IsOfCopy job.source job.target) old read _ (λ d. told d ∙ synced d)
