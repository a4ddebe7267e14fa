use Rattle.std.proofs.Common.{◌≡◌, ℕ, ◌+◌, ◌-◌, drop, take, ◌∙◌, ap, arith}
use Rattle.crash_plant.specs.declared.device.Device.TheVariants.{State}
use Rattle.state_set.proofs.slots.read_slot.Goals as goal

pub returns-clause-bytes : goal.returns-clause-bytes
returns-clause-bytes g c told =
    let bytes = (g.P.Plant.state c.args.plant.now).bytes State in
    let n : c.slot_place.result + 2447 - c.slot_place.result ≡ 2447 = omega arith in
    c.in_ok-read.ensures.bytes told ∙ ap (λ (k : ℕ). take k (drop c.slot_place.result bytes)) n ∙ ap (λ (k : ℕ). take 2447 (drop k bytes)) c.slot_place.ensures
