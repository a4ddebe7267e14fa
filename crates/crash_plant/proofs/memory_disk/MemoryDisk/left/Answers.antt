use Rattle.std.proofs.Common.{◌-◌, List, ℕ, length, take, drop, map, sym, ◌∙◌, ap, subst}
use Rattle.crash_plant.specs.DiskRemains.{all_filled, open_writes}
use Rattle.crash_plant.specs.MemoryDisk.{past_of, first_held, held}
use Rattle.crash_plant.specs.Pasts.{Note, AllFit, note_of}
use Rattle.crash_plant.proofs.Lefts.{notes_after, open_writes_fit}
use Rattle.crash_plant.proofs.memory_disk.MemoryDisk.left.Goals as goal

pub fill_all-requires : goal.fill_all-requires
fill_all-requires c =
    let disk = c.args.self.now in
    let writes = notes_after disk.log.items c.deref-3.result.now _ c.open_from-from.result c.deref-3.ensures.value c.deref-2.ensures.value c.open_from-from.ensures.open_ones in
    let same = c.in_ok-bytes.ensures ∙ c.deref.ensures.value in
    subst (λ (l : List ℕ). AllFit (length l) (map note_of (take (length c.deref-3.result.now - c.open_from-from.result) (drop c.open_from-from.result c.deref-3.result.now)))) (sym same) (subst (λ (l : List Note). AllFit (length (held disk)) l) (sym writes) (open_writes_fit (past_of disk) (first_held disk) (held disk) disk.chained))

pub returns : goal.returns
returns c =
    let disk = c.args.self.now in
    let writes = notes_after disk.log.items c.deref-3.result.now _ c.open_from-from.result c.deref-3.ensures.value c.deref-2.ensures.value c.open_from-from.ensures.open_ones in
    c.in_ok-fill_all.ensures ∙ ap (λ (l : List Note). all_filled c.args.choice.now l c.in_ok-bytes.bytes.items) writes ∙ ap (λ (l : List ℕ). all_filled c.args.choice.now (open_writes (past_of disk)) l) (c.in_ok-bytes.ensures ∙ c.deref.ensures.value)
