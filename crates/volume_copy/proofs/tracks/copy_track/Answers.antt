use Rattle.std.proofs.Common.{rules, arith, ◌≡◌, ◌∙◌, List, Option, Some, Bool, Result, Err, inl, inr, refl, sym, subst}
use Rattle.std.proofs.lemmas.Result.{on_ok_weaker}
use Rattle.ckd_track.specs.declared.rec.Rec.{Rec}
use Rattle.ckd_track.specs.SlotPlaces.{slot_place, slot_track}
use Rattle.crash_plant.specs.declared.device.Device.TheVariants.{Volume}
use Rattle.volume_copy.specs.Copying.{IsOfCopy}
use Rattle.volume_copy.specs.Faults.{FailsAmong}
use Rattle.volume_copy.specs.Targets.{IsCopyOf, IsHeld, WritesTargetSlots}
use Rattle.volume_copy.proofs.Copying.{copy_twice, on_source, on_target, source_there}
use Rattle.volume_copy.proofs.Faults.{fails_none, fails_one, fails_so, fails_then, none_rose}
use Rattle.volume_copy.proofs.Targets.{writes_again, writes_same, writes_slot}
use Rattle.volume_copy.proofs.tracks.copy_track.Goals as goal

pub read_track-requires-clause-there : goal.read_track-requires-clause-there
read_track-requires-clause-there g c κs within = source_there (g.P.Plant.state c.args.plant.now) c.args.job.now c.requires.ready

pub read_track-requires-clause-range : goal.read_track-requires-clause-range
read_track-requires-clause-range g c κs within = omega (arith, c.requires.ready.source_long, c.requires.within)

pub write_image-requires-clause-there : goal.write_image-requires-clause-there
write_image-requires-clause-there g c κs within =
    let ready = c.requires.ready in
    let only = c.read_track.ensures.only in
    (omega (arith, ready.target, only.site.volumes), (only.loans c.args.job.now.target).is_lent ∙ ready.home c.args.job.now.target ready.target)

pub write_image-requires-clause-range : goal.write_image-requires-clause-range
write_image-requires-clause-range g c κs within = omega (arith, c.requires.ready.target_long, c.requires.within, c.read_track.ensures.only.site.lengths (Volume c.args.job.now.target))

pub returns-in_err-held-clause-works : goal.returns-in_err-held-clause-works
returns-in_err-held-clause-works g c =
    let job = c.args.job.now in
    let read = c.read_track.ensures in
    on_source g.P.Plant.tells job.source job.target c.requires.ready.apart (WritesTargetSlots (slot_track ((g.P.Plant.state c.args.plant.now).bytes (Volume job.source))) (slot_place c.args.track) 57344) (g.P.Plant.state c.args.plant.now) (g.P.Plant.state c.read_track.new.plant) (writes_same (slot_track ((g.P.Plant.state c.args.plant.now).bytes (Volume job.source))) (slot_place c.args.track) 57344) read.only read.same read.moments

pub returns-in_err-held-clause-fails : goal.returns-in_err-held-clause-fails
returns-in_err-held-clause-fails g c =
    let job = c.args.job.now in
    let old = (g.P.Plant.state c.args.plant.now).faults in
    let mid = (g.P.Plant.state c.read_track.new.plant).faults in
    let e = c.in_err-held.field-0.0 in
    let is : c.from_residual.result ≡ Err e = search rules in
    subst (λ (r : Result (Unit {0}) _). FailsAmong (IsOfCopy job.source job.target) old mid r) (sym is)
    (fails_so {T = Bool} {U = Unit {0}} (IsOfCopy job.source job.target) old mid e e (fails_one (IsOfCopy job.source job.target) (Volume job.source) old mid (Err e) (inl refl) c.in_err-held.ensures.cause (λ d other. c.read_track.ensures.only.others_faults d other)))

pub returns-then-held-clause-works : goal.returns-then-held-clause-works
returns-then-held-clause-works g c =
    let job = c.args.job.now in
    let read = c.read_track.ensures in
    let write = c.write_image.ensures in
    let a = g.P.Plant.state c.args.plant.now in
    let b = g.P.Plant.state c.read_track.new.plant in
    let d = g.P.Plant.state c.write_image.new.plant in
    let content = slot_track (a.bytes (Volume job.source)) in
    let step = WritesTargetSlots content (slot_place c.args.track) 57344 in
    let recs = c.read_track.new.slot in
    let held : g.P.Plant.tells → content c.args.track ≡ Some recs = λ told. subst (λ (h : Bool). IsHeld (content c.args.track) h recs) c.if-held.true (c.in_ok-held.ensures.held told) in
    copy_twice g.P.Plant.tells job.source job.target c.requires.ready.apart step a b d (writes_again content (slot_place c.args.track) 57344)
    (on_source g.P.Plant.tells job.source job.target c.requires.ready.apart step a b (writes_same content (slot_place c.args.track) 57344) read.only read.same read.moments)
    (on_target g.P.Plant.tells job.source job.target c.requires.ready.apart step b d write.only
    (λ told. writes_slot content c.args.track recs (b.bytes (Volume job.target)) (d.bytes (Volume job.target)) (held told) write.short (write.torn told))
    (λ told s from to z left. let start = write.moments told s from to z left in (start.0, start.1, writes_slot content c.args.track recs start.0 z (held told) write.short start.2)))

pub returns-then-held-clause-copied : goal.returns-then-held-clause-copied
returns-then-held-clause-copied g c told =
    let job = c.args.job.now in
    let source = (g.P.Plant.state c.args.plant.now).bytes (Volume job.source) in
    let target = (g.P.Plant.state c.write_image.new.plant).bytes (Volume job.target) in
    let is = subst (λ (h : Bool). IsHeld (slot_track source c.args.track) h c.read_track.new.slot) c.if-held.true (c.in_ok-held.ensures.held told) in
    on_ok_weaker c.write_image.result (λ k. subst (λ (t : Option (List Rec)). IsCopyOf t target c.args.track) (sym is) k) (c.write_image.ensures.copied told)

pub returns-then-held-clause-fails : goal.returns-then-held-clause-fails
returns-then-held-clause-fails g c =
    let job = c.args.job.now in
    let old = (g.P.Plant.state c.args.plant.now).faults in
    let mid = (g.P.Plant.state c.read_track.new.plant).faults in
    let new = (g.P.Plant.state c.write_image.new.plant).faults in
    let among = IsOfCopy job.source job.target in
    fails_then among old mid new c.write_image.result (none_rose (Volume job.source) old mid c.in_ok-held.held c.in_ok-held.ensures.cause (λ d other. c.read_track.ensures.only.others_faults d other))
    (fails_one among (Volume job.target) mid new c.write_image.result (inr refl) c.write_image.ensures.cause (λ d other. c.write_image.ensures.only.others_faults d other))

pub returns-clause-works : goal.returns-clause-works
returns-clause-works g c =
    let job = c.args.job.now in
    let read = c.read_track.ensures in
    on_source g.P.Plant.tells job.source job.target c.requires.ready.apart (WritesTargetSlots (slot_track ((g.P.Plant.state c.args.plant.now).bytes (Volume job.source))) (slot_place c.args.track) 57344) (g.P.Plant.state c.args.plant.now) (g.P.Plant.state c.read_track.new.plant) (writes_same (slot_track ((g.P.Plant.state c.args.plant.now).bytes (Volume job.source))) (slot_place c.args.track) 57344) read.only read.same read.moments

pub returns-clause-copied : goal.returns-clause-copied
returns-clause-copied g c told =
    let job = c.args.job.now in
    let source = (g.P.Plant.state c.args.plant.now).bytes (Volume job.source) in
    let target = (g.P.Plant.state c.read_track.new.plant).bytes (Volume job.target) in
    let is = subst (λ (h : Bool). IsHeld (slot_track source c.args.track) h c.read_track.new.slot) c.if-held.false (c.in_ok-held.ensures.held told) in
    subst (λ (t : Option (List Rec)). IsCopyOf t target c.args.track) (sym is) tt

pub returns-clause-fails : goal.returns-clause-fails
returns-clause-fails g c =
    let job = c.args.job.now in
    let old = (g.P.Plant.state c.args.plant.now).faults in
    let mid = (g.P.Plant.state c.read_track.new.plant).faults in
    fails_none (IsOfCopy job.source job.target) old mid _ (none_rose (Volume job.source) old mid c.in_ok-held.held c.in_ok-held.ensures.cause (λ d other. c.read_track.ensures.only.others_faults d other))
