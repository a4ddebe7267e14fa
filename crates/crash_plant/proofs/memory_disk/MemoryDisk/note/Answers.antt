use Rattle.crash_plant.proofs.Records.{noted_or_not}
use Rattle.crash_plant.proofs.memory_disk.MemoryDisk.note.Goals as goal

pub invariant_of-self : goal.invariant_of-self
invariant_of-self c =
    let disk = c.args.self.now in
    let now = noted_or_not c.note.result _ _ _ _ _ _ _ _ disk.chained disk.in_time c.requires.later c.requires.does c.note.ensures.written c.note.ensures.noted c.note.ensures.same c.note.ensures.same_log in
    record { chained = now.0; in_time = now.1 }
