use Rattle.std.proofs.Common.{◌≡◌, [], sym, ◌∙◌, ap, arith}
use Rattle.crash_plant.specs.declared.file_plant.Shelf.TheVariants.{Here}
use Rattle.crash_plant.specs.FilePlant.{file_sight, file_shelf_length, file_shelf_faults, file_shelf_is_lent}
use Rattle.crash_plant.proofs.Only.{lends_volume}
use Rattle.crash_plant.proofs.Seen.{seen_is_at}
use Rattle.crash_plant.proofs.file_plant.FilePlantPlant.lend.Goals as goal

pub returns-clause-lent : goal.returns-clause-lent
returns-clause-lent g c =
    let p = c.args.self.now in
    let here : Here c.in-Here.disk ≡ c.index_mut-shelf.result.now = cc in
    lends_volume file_sight ⊥ p.control p.state p.journals.items p.volumes.items [] [] [] p.console.faults _ _ c.from.ensures (omega (arith, c.from.ensures, c.requires.0)) _ _ _ _
    c.index_mut-shelf.result.now c.index_mut-shelf.ensures.value (ap file_shelf_length c.replace.ensures.after ∙ c.lent-lent.ensures.length ∙ sym (seen_is_at file_shelf_length 0 p.volumes.items c.from.result c.args.device _ c.from.ensures c.index_mut-shelf.ensures.value (omega (arith, c.from.ensures, c.requires.0)))) (ap file_shelf_faults c.replace.ensures.after ∙ c.lent-lent.ensures.faults) (ap file_shelf_is_lent c.replace.ensures.after ∙ c.lent-lent.ensures.lent) (ap file_shelf_length here) (ap file_shelf_faults here) (λ none. absurd none)
