use Rattle.std.proofs.Common.{◌≢◌, ℕ, ◌∙◌, arith}
use Rattle.crash_plant.specs.declared.device.Device.TheVariants.{Volume}
use Rattle.crash_plant.specs.MemoryPlant.{memory_state}
use Rattle.crash_plant.specs.MemoryVolume.{volume_standing}
use Rattle.crash_plant.proofs.Lent.{lent_one}
use Rattle.crash_plant.proofs.Steps.{kept_trans}
use Rattle.plant_tests.proofs.crashes.work_both.Goals as goal

zero_one : ◌≢◌ {A = ℕ} 0 1
zero_one = λ same. absurd (omega (arith, same))

one_zero : ◌≢◌ {A = ℕ} 1 0
one_zero = λ same. absurd (omega (arith, same))

pub give_back-requires : goal.give_back-requires
give_back-requires g c =
    let a = memory_state c.args.plant.now in
    let b = memory_state c.lend-first.new.self in
    let d = memory_state c.lend-second.new.self in
    let first = volume_standing c.lend-first.result in
    let rest = c.lend-second.ensures.lent.rest in
    let one = c.write_own-2.ensures in
    let two = c.sync_own-2.ensures in
    lent_one (Unit {0}) 0 a b d first (volume_standing c.sync_own-2.new.volume) c.lend-first.ensures.lent c.assert_there.ensures.0 (rest.loans 0 zero_one) rest.site (rest.others_faults (Volume 0) (λ same. zero_one (cc same)))
    (λ told. kept_trans first (volume_standing c.write_own-2.new.volume) (volume_standing c.sync_own-2.new.volume) (one.past tt) (two.past tt)) (two.length ∙ one.length) (omega (arith, one.faults, two.faults))

pub give_back-requires-2 : goal.give_back-requires-2
give_back-requires-2 g c =
    let b = memory_state c.lend-first.new.self in
    let d = memory_state c.lend-second.new.self in
    let e = memory_state c.give_back.new.self in
    let second = volume_standing c.lend-second.result in
    let rest = c.give_back.ensures.back.rest in
    let one = c.write_own.ensures in
    let two = c.sync_own.ensures in
    let three = c.write_own-3.ensures in
    lent_one (Unit {0}) 1 b d e second (volume_standing c.write_own-3.new.volume) c.lend-second.ensures.lent (omega (arith, c.assert_there-2.ensures.0, c.lend-first.ensures.lent.rest.site.volumes)) (rest.loans 1 one_zero) rest.site (rest.others_faults (Volume 1) (λ same. one_zero (cc same)))
    (λ told. kept_trans second (volume_standing c.sync_own.new.volume) (volume_standing c.write_own-3.new.volume) (kept_trans second (volume_standing c.write_own.new.volume) (volume_standing c.sync_own.new.volume) (one.past tt) (two.past tt)) (three.past tt))
    (three.length ∙ two.length ∙ one.length) (omega (arith, one.faults, two.faults, three.faults))
