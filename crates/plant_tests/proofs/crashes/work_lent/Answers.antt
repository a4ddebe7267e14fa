use Rattle.std.proofs.Common.{refl, ◌∙◌, arith}
use Rattle.crash_plant.specs.MemoryPlant.{memory_state}
use Rattle.crash_plant.specs.MemoryVolume.{volume_standing}
use Rattle.crash_plant.proofs.Lent.{lent_one}
use Rattle.crash_plant.proofs.Steps.{kept_trans, works_on_here}
use Rattle.plant_tests.proofs.crashes.work_lent.Goals as goal

pub give_back-requires : goal.give_back-requires
give_back-requires g c =
    let b = memory_state c.lend-volume.new.self in
    let same = works_on_here (Unit {0}) (λ d. ⊥) b in
    let first = volume_standing c.lend-volume.result in
    let one = c.write_own.ensures in
    let two = c.sync_own.ensures in
    let three = c.write_own-2.ensures in
    lent_one (Unit {0}) c.args.number (memory_state c.args.plant.now) b b first (volume_standing c.write_own-2.new.volume) c.lend-volume.ensures.lent c.assert_there.ensures.0 (same.loans c.args.number) same.site refl
    (λ told. kept_trans first (volume_standing c.sync_own.new.volume) (volume_standing c.write_own-2.new.volume) (kept_trans first (volume_standing c.write_own.new.volume) (volume_standing c.sync_own.new.volume) (one.past tt) (two.past tt)) (three.past tt))
    (three.length ∙ two.length ∙ one.length) (omega (arith, one.faults, two.faults, three.faults))
