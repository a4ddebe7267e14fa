use Rattle.std.proofs.Common.{List, ℕ, length, ◌∙◌, ap, arith, slice_index}
use Rattle.crash_plant.specs.declared.device.Device.TheVariants.{Volume}
use Rattle.crash_plant.proofs.BehindGates.{shuts}
use Rattle.copy_progress.proofs.noting.close_gate.Goals as goal

pub returns-then-is_open-clause-moments : goal.returns-then-is_open-clause-moments
returns-then-is_open-clause-moments g c told t from to f left =
    let start = c.put_down.ensures.moments told t from to f left in
    let is = c.requires.durable told start.0 start.1 in
    let size = g.met.P.Plant.length_told c.args.plant.now (Volume c.args.device) told c.requires.there in
    (start.0, start.1, shuts c.args.place start.0 f (omega (arith, size, ap length is, c.requires.range)) (ap (λ (l : List ℕ). slice_index l c.args.place) is ∙ c.requires.opened told c.if-is_open.true) start.2)
