use Rattle.std.proofs.Common.{List, map, sym, ◌∙◌, ap, subst, arith, refl}
use Rattle.crash_plant.specs.declared.entry.PastCall.{PastCall}
use Rattle.crash_plant.specs.Pasts.{Note, note_of, Chains, InTime}
use Rattle.crash_plant.specs.MemoryDisk.{past_of, first_held, held}
use Rattle.crash_plant.proofs.Records.{chains_moved, in_time_moved, notes_moved}
use Rattle.crash_plant.proofs.memory_disk.MemoryDisk.moved.Goals as goal

pub invariant_of-result : goal.invariant_of-result
invariant_of-result c =
    let disk = c.args.self in
    let is = ap (λ (l : List PastCall). map note_of l) c.move_entries.ensures ∙ notes_moved c.args.lent c.args.till disk.log.items in
    record {
      chained = subst (λ (l : List Note). Chains (first_held disk) l (held disk)) (sym is) (chains_moved c.args.lent c.args.till c.requires (first_held disk) (past_of disk) (held disk) disk.chained);
      in_time = subst (λ (l : List Note). InTime 0 0 l) (sym is) (in_time_moved c.args.lent c.args.till c.requires 0 0 (past_of disk) (omega arith) (omega arith) disk.in_time);
    }

pub returns : goal.returns
returns c = record { bytes_are = refl; base = refl; past = ap (λ (l : List PastCall). map note_of l) c.move_entries.ensures ∙ notes_moved c.args.lent c.args.till c.args.self.log.items }
