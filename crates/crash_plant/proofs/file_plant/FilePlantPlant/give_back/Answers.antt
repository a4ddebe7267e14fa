use Rattle.std.proofs.Common.{[], refl, arith}
use Rattle.crash_plant.specs.FilePlant.{file_sight}
use Rattle.crash_plant.proofs.Only.{takes_back_volume}
use Rattle.crash_plant.proofs.file_plant.FilePlantPlant.give_back.Goals as goal

pub returns : goal.returns
returns g c =
    let p = c.args.self.now in
    takes_back_volume file_sight ⊥ p.control p.state p.journals.items p.volumes.items [] [] [] p.console.faults _ _ c.from.ensures (omega (arith, c.from.ensures, c.requires.there)) _ _ _ _ c.requires.length_is refl refl (λ none. absurd none)
