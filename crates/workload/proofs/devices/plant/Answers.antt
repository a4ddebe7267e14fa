use Rattle.std.proofs.Common.{◌≡◌, ℕ, subst, arith}
use Rattle.crash_plant.specs.PlainPlant.{plain_state}
use Rattle.workload.specs.Sites.{IsLabelledUpTo}
use Rattle.workload.proofs.Labelling.{all_labelled, none_labelled, one_label_more, volume_is_long, volume_is_there}
use Rattle.workload.proofs.devices.plant.Goals as goal

pub loop-device-init : goal.loop-device-init
loop-device-init c = none_labelled c.journal_length-length.result c.need.result c.in_ok-script.script (plain_state c.in_ok-plant.plant) c.in_ok-plant.ensures c.need.ensures

pub label-requires-clause-there : goal.label-requires-clause-there
label-requires-clause-there c = volume_is_there c.journal_length-length.result c.need.result c.in_ok-script.script (plain_state c.in_ok-plant.plant) c.in_ok-plant.ensures (plain_state c.loop-device.plant) c.loop-device.device c.loop-device.device c.loop-device-test.true c.loop-device.invariant

pub label-requires-clause-long : goal.label-requires-clause-long
label-requires-clause-long c = volume_is_long c.journal_length-length.result c.need.result c.in_ok-script.script c.in_ok-plant.plant (plain_state c.loop-device.plant) c.loop-device.device c.loop-device.device c.in_ok-plant.ensures c.need.ensures c.loop-device-test.true c.loop-device.invariant

pub loop-device-preserved : goal.loop-device-preserved
loop-device-preserved c = one_label_more (plain_state c.in_ok-plant.plant) (plain_state c.loop-device.plant) (plain_state c.label.new.plant) c.loop-device.device c.loop-device-test.true c.loop-device.invariant c.label.ensures

pub returns : goal.returns
returns c =
    let at : c.loop-device.device ≡ 8 = omega (arith, c.loop-device-test.false, c.loop-device.auto.device-end) in
    all_labelled c.journal_length-length.result c.need.result c.in_ok-script.script (plain_state c.in_ok-plant.plant) c.in_ok-plant.ensures (plain_state c.loop-device.plant) c.journal_length-length.ensures c.in_ok-script.ensures
    (subst (λ (n : ℕ). IsLabelledUpTo n (plain_state c.in_ok-plant.plant) (plain_state c.loop-device.plant)) at c.loop-device.invariant)
