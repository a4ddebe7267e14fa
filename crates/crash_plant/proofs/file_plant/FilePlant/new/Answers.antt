use Rattle.std.proofs.Common.{List, length, false, ◌∙◌, ap, arith}
use Rattle.std.proofs.lemmas.List.{length-map}
use Rattle.crash_plant.specs.declared.file_plant.Shelf.{Shelf}
use Rattle.crash_plant.specs.declared.file_plant.Shelf.TheVariants.{Here}
use Rattle.crash_plant.specs.FilePlant.{file_shelf_is_lent}
use Rattle.crash_plant.specs.Devices.{seen_at}
use Rattle.crash_plant.proofs.Seen.{seen_map, seen_at_alike}
use Rattle.crash_plant.proofs.file_plant.FilePlant.new.Goals as goal

pub invariant_of-result-clause-few_volumes : goal.invariant_of-result-clause-few_volumes
invariant_of-result-clause-few_volumes g c = omega (arith, c.requires.few_volumes, ap length c.in_ok-volumes.ensures, length-map c.args.volumes.items (λ disk. Here disk), c.in_ok-volumes.volumes.ok.0, c.args.volumes.ok.0)

pub returns-clause-none_lent : goal.returns-clause-none_lent
returns-clause-none_lent g c v there = ap (λ (shelves : List Shelf). seen_at file_shelf_is_lent false shelves v) c.in_ok-volumes.ensures ∙ seen_map (λ disk. Here disk) file_shelf_is_lent false c.args.volumes.items v ∙ seen_at_alike false c.args.volumes.items v
