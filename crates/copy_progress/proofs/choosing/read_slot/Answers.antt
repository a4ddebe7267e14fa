use Rattle.std.proofs.Common.{ℕ, List, ◌+◌, ◌-◌, ◌==◌, drop, take, slice_index, get_or-take, ◌≡◌, ◌∙◌, ap, arith}
use Rattle.crash_plant.specs.declared.device.Device.TheVariants.{Volume}
use Rattle.copy_progress.specs.Slots.{slot_in}
use Rattle.copy_progress.proofs.choosing.read_slot.Goals as goal

pub returns-clause-slot : goal.returns-clause-slot
returns-clause-slot g c told =
    let old = g.P.Plant.state c.args.plant.now in
    let bytes = old.bytes (Volume c.args.device) in
    let n : c.args.place + 43 - c.args.place ≡ 43 = omega arith in
    let is = c.in_ok-read.ensures.bytes told ∙ ap (λ (k : ℕ). take k (drop c.args.place bytes)) n in
    record {
      gate = c.decode.ensures.gate ∙ ap (λ (l : List ℕ). slice_index l 0 == 1) is ∙ ap (λ (b : ℕ). b == 1) (get_or-take 43 (drop c.args.place bytes) 0 0 (omega arith));
      progress = c.decode.ensures.progress ∙ ap slot_in is;
    }
