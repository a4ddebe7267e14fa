use Rattle.std.proofs.Common.{[], ◌∙◌, sym, ap, arith}
use Rattle.crash_plant.specs.FilePlant.{file_sight, file_shelf_length, file_shelf_faults, file_shelf_is_lent}
use Rattle.crash_plant.proofs.Only.{only_journal, only_volume}
use Rattle.crash_plant.proofs.file_plant.FilePlantPlant.read.Goals as goal

pub returns-in-Journal-clause-only : goal.returns-in-Journal-clause-only
returns-in-Journal-clause-only g c =
    let p = c.args.self.now in
    only_journal file_sight ⊥ p.control p.state p.journals.items p.volumes.items [] [] [] p.console.faults c.args.device _ _ c.from.ensures
    _ c.read-in-Journal.new.self c.in-Journal.is c.index_mut.ensures.value c.read-in-Journal.ensures.length c.read-in-Journal.ensures.cause.later

pub returns-in-Here-clause-only : goal.returns-in-Here-clause-only
returns-in-Here-clause-only g c =
    let p = c.args.self.now in
    only_volume file_sight ⊥ p.control p.state p.journals.items p.volumes.items [] [] [] p.console.faults c.args.device _ _ c.from-in-Volume.ensures
    _ _ c.in-Volume.is c.index_mut-in-Volume.ensures.value (c.read-in-Here.ensures.length ∙ sym (ap file_shelf_length c.in-Here.is)) (omega (arith, ap file_shelf_faults c.in-Here.is, c.read-in-Here.ensures.cause.later)) (sym (ap file_shelf_is_lent c.in-Here.is))
