use Rattle.std.proofs.Common.{ℕ, refl, ap, arith, inl, inr, rules}
use Rattle.crash_plant.specs.declared.device.Device.TheVariants.{Journal as JournalDevice}
use Rattle.xrc_journal.specs.Appending.{IsOfSwitch}
use Rattle.xrc_journal.proofs.Causes.{counts_still, fault_grows, rose_since}
use Rattle.xrc_journal.proofs.RingAppends.{all_end_shut}
use Rattle.xrc_journal.proofs.RingSwitches.{ClosesGate, HasClosedGate, LeadsOn, MaySwitchTo, moments_closing, moments_switching, only_closing, only_switching, put_switching, shut_between}
use Rattle.xrc_journal.proofs.journal.put_next.Goals as goal

pub returns-in_default-clause-moments : goal.returns-in_default-clause-moments
returns-in_default-clause-moments g c told =
    let tells = g.P.Plant.tells in
    let old = g.P.Plant.state c.args.plant.now in
    let mid = g.P.Plant.state c.put_down.new.plant in
    let j = c.args.journal in
    let may : MaySwitchTo tells j.marked j.at c.args.cut.0 c.args.set old = record {
      there = c.requires.grows.there;
      is_next = c.requires.next;
      few = c.ranges.set.fits;
      number = c.requires.grows.number;
      fresh = c.requires.fresh;
      images = λ told d part. g.met.P.Plant.has_image c.args.plant.now d old.clock told part (omega arith);
      ends = c.requires.ends;
    } in
    let closes : ClosesGate tells c.args.set old mid = record { only = c.put_down.ensures.only; torn = c.put_down.ensures.moments } in
    moments_closing tells told j.marked j.at c.args.cut.0 c.args.set old mid may closes

pub returns-in_default-clause-only : goal.returns-in_default-clause-only
returns-in_default-clause-only g c =
    let tells = g.P.Plant.tells in
    let old = g.P.Plant.state c.args.plant.now in
    let mid = g.P.Plant.state c.put_down.new.plant in
    let closes : ClosesGate tells c.args.set old mid = record { only = c.put_down.ensures.only; torn = c.put_down.ensures.moments } in
    only_closing tells c.args.journal.at c.args.cut.0 c.args.set old mid c.requires.next closes

pub returns-in_default-clause-cause : goal.returns-in_default-clause-cause
returns-in_default-clause-cause g c =
    let old = g.P.Plant.state c.args.plant.now in
    let mid = g.P.Plant.state c.put_down.new.plant in
    fault_grows (IsOfSwitch old.journals c.args.journal.at) old mid c.args.set (inr (ap (λ (n : ℕ). JournalDevice n) c.requires.next)) c.in_default.ensures.cause.failed c.put_down.ensures.only.others_faults

pub put_switch-requires-clause-shut : goal.put_switch-requires-clause-shut
put_switch-requires-clause-shut g c κs within = λ told.
    let tells = g.P.Plant.tells in
    let old = g.P.Plant.state c.args.plant.now in
    let mid = g.P.Plant.state c.put_down.new.plant in
    let j = c.args.journal in
    let may : MaySwitchTo tells j.marked j.at c.args.cut.0 c.args.set old = record {
      there = c.requires.grows.there;
      is_next = c.requires.next;
      few = c.ranges.set.fits;
      number = c.requires.grows.number;
      fresh = c.requires.fresh;
      images = λ told d part. g.met.P.Plant.has_image c.args.plant.now d old.clock told part (omega arith);
      ends = c.requires.ends;
    } in
    let closes : ClosesGate tells c.args.set old mid = record { only = c.put_down.ensures.only; torn = c.put_down.ensures.moments } in
    shut_between tells told j.marked j.at c.args.cut.0 c.args.set old mid may closes (all_end_shut old j.marked j.at c.args.cut.0 (may.images told) (c.requires.ends told))

pub returns-in-Ok-put_switch-clause-moments : goal.returns-in-Ok-put_switch-clause-moments
returns-in-Ok-put_switch-clause-moments g c told =
    let tells = g.P.Plant.tells in
    let old = g.P.Plant.state c.args.plant.now in
    let mid = g.P.Plant.state c.put_down.new.plant in
    let new = g.P.Plant.state c.put_switch.new.plant in
    let j = c.args.journal in
    let may : MaySwitchTo tells j.marked j.at c.args.cut.0 c.args.set old = record {
      there = c.requires.grows.there;
      is_next = c.requires.next;
      few = c.ranges.set.fits;
      number = c.requires.grows.number;
      fresh = c.requires.fresh;
      images = λ told d part. g.met.P.Plant.has_image c.args.plant.now d old.clock told part (omega arith);
      ends = c.requires.ends;
    } in
    let closes : ClosesGate tells c.args.set old mid = record { only = c.put_down.ensures.only; torn = c.put_down.ensures.moments } in
    let shut : HasClosedGate c.args.set old mid = record { written = c.in-Ok.ensures.written told; durable = c.in-Ok.ensures.durable told } in
    let leads : LeadsOn tells j.at c.args.cut.0 c.args.set mid new = record { only = c.put_switch.ensures.only; moments = c.put_switch.ensures.moments } in
    moments_switching tells told j.marked j.at c.args.cut.0 c.args.set old mid may closes new c.put_switch.ensures.stamp shut leads

pub returns-in-Err-clause-moments : goal.returns-in-Err-clause-moments
returns-in-Err-clause-moments g c told =
    let tells = g.P.Plant.tells in
    let old = g.P.Plant.state c.args.plant.now in
    let mid = g.P.Plant.state c.put_down.new.plant in
    let new = g.P.Plant.state c.put_switch.new.plant in
    let j = c.args.journal in
    let may : MaySwitchTo tells j.marked j.at c.args.cut.0 c.args.set old = record {
      there = c.requires.grows.there;
      is_next = c.requires.next;
      few = c.ranges.set.fits;
      number = c.requires.grows.number;
      fresh = c.requires.fresh;
      images = λ told d part. g.met.P.Plant.has_image c.args.plant.now d old.clock told part (omega arith);
      ends = c.requires.ends;
    } in
    let closes : ClosesGate tells c.args.set old mid = record { only = c.put_down.ensures.only; torn = c.put_down.ensures.moments } in
    let shut : HasClosedGate c.args.set old mid = record { written = c.in-Ok.ensures.written told; durable = c.in-Ok.ensures.durable told } in
    let leads : LeadsOn tells j.at c.args.cut.0 c.args.set mid new = record { only = c.put_switch.ensures.only; moments = c.put_switch.ensures.moments } in
    moments_switching tells told j.marked j.at c.args.cut.0 c.args.set old mid may closes new c.put_switch.ensures.stamp shut leads

pub returns-in-Ok-put_switch-clause-put : goal.returns-in-Ok-put_switch-clause-put
returns-in-Ok-put_switch-clause-put g c told =
    let tells = g.P.Plant.tells in
    let old = g.P.Plant.state c.args.plant.now in
    let mid = g.P.Plant.state c.put_down.new.plant in
    let new = g.P.Plant.state c.put_switch.new.plant in
    let j = c.args.journal in
    let may : MaySwitchTo tells j.marked j.at c.args.cut.0 c.args.set old = record {
      there = c.requires.grows.there;
      is_next = c.requires.next;
      few = c.ranges.set.fits;
      number = c.requires.grows.number;
      fresh = c.requires.fresh;
      images = λ told d part. g.met.P.Plant.has_image c.args.plant.now d old.clock told part (omega arith);
      ends = c.requires.ends;
    } in
    let closes : ClosesGate tells c.args.set old mid = record { only = c.put_down.ensures.only; torn = c.put_down.ensures.moments } in
    let shut : HasClosedGate c.args.set old mid = record { written = c.in-Ok.ensures.written told; durable = c.in-Ok.ensures.durable told } in
    let leads : LeadsOn tells j.at c.args.cut.0 c.args.set mid new = record { only = c.put_switch.ensures.only; moments = c.put_switch.ensures.moments } in
    let size = g.met.P.Plant.length_told c.args.plant.now (JournalDevice j.at.set) told c.requires.grows.there in
    let long = g.met.P.Plant.length_told c.args.plant.now (JournalDevice c.args.set) told (search rules) in
    put_switching tells told j.marked j.at c.args.cut.0 c.args.set old mid may closes new c.put_switch.ensures.stamp shut leads (c.in-Ok-put_switch.ensures.written told) (c.in-Ok-put_switch.ensures.durable told) (omega (arith, size, c.requires.grows.room)) (omega (arith, long, c.requires.room))

pub returns-in-Ok-put_switch-clause-only : goal.returns-in-Ok-put_switch-clause-only
returns-in-Ok-put_switch-clause-only g c =
    let tells = g.P.Plant.tells in
    let old = g.P.Plant.state c.args.plant.now in
    let mid = g.P.Plant.state c.put_down.new.plant in
    let new = g.P.Plant.state c.put_switch.new.plant in
    let closes : ClosesGate tells c.args.set old mid = record { only = c.put_down.ensures.only; torn = c.put_down.ensures.moments } in
    only_switching tells c.args.journal.at c.args.cut.0 c.args.set old mid c.requires.next closes new (record { only = c.put_switch.ensures.only; moments = c.put_switch.ensures.moments })

pub returns-in-Err-clause-only : goal.returns-in-Err-clause-only
returns-in-Err-clause-only g c =
    let tells = g.P.Plant.tells in
    let old = g.P.Plant.state c.args.plant.now in
    let mid = g.P.Plant.state c.put_down.new.plant in
    let new = g.P.Plant.state c.put_switch.new.plant in
    let closes : ClosesGate tells c.args.set old mid = record { only = c.put_down.ensures.only; torn = c.put_down.ensures.moments } in
    only_switching tells c.args.journal.at c.args.cut.0 c.args.set old mid c.requires.next closes new (record { only = c.put_switch.ensures.only; moments = c.put_switch.ensures.moments })

pub returns-in-Err-clause-cause : goal.returns-in-Err-clause-cause
returns-in-Err-clause-cause g c =
    let old = g.P.Plant.state c.args.plant.now in
    let mid = g.P.Plant.state c.put_down.new.plant in
    let new = g.P.Plant.state c.put_switch.new.plant in
    let device = JournalDevice c.args.journal.at.set in
    fault_grows (IsOfSwitch old.journals c.args.journal.at) old new c.args.journal.at.set (inl refl) (rose_since (old.faults device) (mid.faults device) (new.faults device) (c.put_down.ensures.only.faults device) c.in-Err.ensures.cause.failed)
    (counts_still (JournalDevice c.args.set) old mid new c.put_down.ensures.only.others_faults c.in-Ok.ensures.cause.ok device c.put_switch.ensures.only.others_faults)
