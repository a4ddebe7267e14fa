use Rattle.std.proofs.Common.{◌≡◌, ◌++◌, take, drop, map}
use Rattle.crash_plant.specs.Pasts.{moved_entry}
use Rattle.crash_plant.proofs.memory_disk.move_entries.Given as goal

abbrev pub invariant-loop-entry : goal.invariant-loop-entry
invariant-loop-entry l =
    let old = l.initial.entry-items in
    l.entry-items ≡ map (moved_entry l.lent l.till) (take l.entry-index old) ++ drop l.entry-index old
