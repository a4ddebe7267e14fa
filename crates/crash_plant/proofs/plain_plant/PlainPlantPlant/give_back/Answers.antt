use Rattle.std.proofs.Common.{refl, arith, take, drop}
use Rattle.crash_plant.specs.PlainPlant.{plain_sight}
use Rattle.crash_plant.proofs.Only.{takes_back_volume}
use Rattle.crash_plant.proofs.plain_plant.PlainPlantPlant.give_back.Goals as goal

pub returns : goal.returns
returns c =
    let p = c.args.self.now in
    takes_back_volume plain_sight (Unit {0}) p.control p.state p.journals.items p.volumes.items (take p.next p.script) p.said.items (drop p.next p.script) p.console_faults _ _ c.from.ensures (omega (arith, c.from.ensures, c.requires.there)) _ _ _ 0 c.requires.length_is refl refl (λ told. refl)
