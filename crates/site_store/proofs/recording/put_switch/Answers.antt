use Rattle.std.proofs.Common.{Err, ap, ◌∙◌}
use Rattle.xrc_journal.specs.declared.journal.AppendError.{AppendError}
use Rattle.site_store.proofs.StoreCauses.{switch_fault}
use Rattle.site_store.proofs.recording.put_switch.Goals as goal

pub returns-in-Err-Fault-clause-cause : goal.returns-in-Err-Fault-clause-cause
returns-in-Err-Fault-clause-cause g c =
    let old = g.P.Plant.state c.args.plant.now in
    let new = g.P.Plant.state c.switch.new.plant in
    switch_fault _ old new c.in-Err-Fault.set c.switch.result (c.in-Err-Fault.is ∙ ap (λ (e : AppendError). Err e) c.in-Err-Fault.field-0-is) c.switch.ensures.cause
