use Rattle.std.proofs.Common.{◌≡◌, ◌≤◌, ◌+◌, ◌++◌, ◌∷◌, [], ℕ, drop, get_or, take, map, sym, subst}
use Rattle.std.proofs.lemmas.List.{take_more}
use Rattle.crash_plant.specs.DiskRemains.{open_writes}
use Rattle.crash_plant.specs.Pasts.{note_of}
use Rattle.crash_plant.proofs.Lefts.{open_next}
use Rattle.crash_plant.proofs.left.open_from.Goals as goal

pub loop-i-preserved : goal.loop-i-preserved
loop-i-preserved c =
    let log = c.args.log.now in
    let i = c.loop-i.i in
    let e = get_or log i c.index-log-i.result in
    let next : take (i + 1) log ≡ take i log ++ e ∷ [] = take_more log i c.index-log-i.result c.loop-i-test.true in
    let more = open_next log i c.loop-i.from e next c.loop-i-test.true c.loop-i.invariant.0 c.loop-i.invariant.1 in
    subst (λ (k : ℕ). (k ≤ i + 1) × (drop k (map note_of (take (i + 1) log)) ≡ open_writes (map note_of (take (i + 1) log)))) (sym c.begin_then-from.ensures) more
