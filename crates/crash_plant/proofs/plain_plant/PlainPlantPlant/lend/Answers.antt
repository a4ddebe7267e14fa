use Rattle.std.proofs.Common.{◌≡◌, refl, ◌∙◌, ap, arith, take, drop}
use Rattle.crash_plant.specs.declared.plain_plant.VolumePlace.TheVariants.{Here}
use Rattle.crash_plant.specs.PlainPlant.{plain_sight, place_length, place_bytes, place_is_lent}
use Rattle.crash_plant.proofs.Only.{lends_volume}
use Rattle.crash_plant.proofs.plain_plant.PlainPlantPlant.lend.Goals as goal

pub returns-clause-lent : goal.returns-clause-lent
returns-clause-lent c =
    let p = c.args.self.now in
    let here : Here c.in-Here.disk ≡ c.index_mut.result.now = cc in
    lends_volume plain_sight (Unit {0}) p.control p.state p.journals.items p.volumes.items (take p.next p.script) p.said.items (drop p.next p.script) p.console_faults _ _ c.from.ensures (omega (arith, c.from.ensures, c.requires.0)) _ _ _ 0
    c.index_mut.result.now c.index_mut.ensures.value (ap place_length c.replace.ensures.after ∙ c.length-length.ensures) refl (ap place_is_lent c.replace.ensures.after) (ap place_length here) refl (λ told. ap place_bytes here)
