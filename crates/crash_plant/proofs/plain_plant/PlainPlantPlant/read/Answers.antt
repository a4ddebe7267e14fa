use Rattle.std.proofs.Common.{◌∙◌, sym, ap, arith, take, drop}
use Rattle.crash_plant.specs.PlainPlant.{plain_sight, place_length, place_is_lent}
use Rattle.crash_plant.proofs.Only.{only_journal, only_volume}
use Rattle.crash_plant.proofs.plain_plant.PlainPlantPlant.read.Goals as goal

pub returns-in-Journal-clause-only : goal.returns-in-Journal-clause-only
returns-in-Journal-clause-only c =
    let p = c.args.self.now in
    only_journal plain_sight (Unit {0}) p.control p.state p.journals.items p.volumes.items (take p.next p.script) p.said.items (drop p.next p.script) p.console_faults c.args.device _ _ c.from.ensures
    _ c.read-in-Journal.new.self c.in-Journal.is c.index_mut.ensures.value c.read-in-Journal.ensures.length (omega arith)

pub returns-in-Here-clause-only : goal.returns-in-Here-clause-only
returns-in-Here-clause-only c =
    let p = c.args.self.now in
    only_volume plain_sight (Unit {0}) p.control p.state p.journals.items p.volumes.items (take p.next p.script) p.said.items (drop p.next p.script) p.console_faults c.args.device _ _ c.from-in-Volume.ensures
    _ _ c.in-Volume.is c.index_mut-in-Volume.ensures.value (c.read-in-Here.ensures.length ∙ sym (ap place_length c.in-Here.is)) (omega arith) (sym (ap place_is_lent c.in-Here.is))
