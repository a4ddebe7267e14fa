use Rattle.std.proofs.Common.{sym, ◌∙◌}
use Rattle.std.proofs.lemmas.Bool.{eqb-true}
use Rattle.crash_plant.specs.declared.device.Device.TheVariants.{Control}
use Rattle.crash_plant.specs.Moments.{on}
use Rattle.site_store.proofs.Shutting.{gate_left, gate_shuts}
use Rattle.site_store.proofs.starting.shut_gate.Goals as goal

-- The gate is open in each image, and is written.
pub returns-then-slot-clause-moments : goal.returns-then-slot-clause-moments
returns-then-slot-clause-moments g c told durable =
    gate_shuts c.args.slot.place (on (g.P.Plant.state c.args.plant.now) Control) (on (g.P.Plant.state c.put_down.new.plant) Control) durable (eqb-true _ _ (sym (c.requires.gate told) ∙ c.if-slot.true)) (c.put_down.ensures.moments told)

pub returns-clause-moments : goal.returns-clause-moments
returns-clause-moments g c told durable =
    gate_left c.args.slot.place (on (g.P.Plant.state c.args.plant.now) Control) (on (g.P.Plant.state c.sync.new.self) Control) (c.sync.ensures.moments told)
