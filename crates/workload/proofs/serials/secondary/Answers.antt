use Rattle.workload.proofs.serials.secondary.Goals as goal

pub returns : goal.returns
returns c = c.serial.ensures
