use Rattle.std.proofs.Common.{Err, ap}
use Rattle.xrc_journal.specs.declared.journal.AppendError.{AppendError}
use Rattle.site_store.proofs.StoreCauses.{not_full, one_journal_fault}
use Rattle.site_store.proofs.recording.put_group.Goals as goal

pub unreachable-requires : goal.unreachable-requires
unreachable-requires g c =
    let full = c.in-Err-NoRoom.ensures.no_room.only c.in-Err-NoRoom.field-0-0 c.in-Err-NoRoom.field-0-1 (ap (λ (e : AppendError). Err e) c.in-Err-NoRoom.field-0-is) in
    not_full _ _ c.requires.may.room full.0

pub returns-in-Err-Fault-clause-cause : goal.returns-in-Err-Fault-clause-cause
returns-in-Err-Fault-clause-cause g c =
    let old = g.P.Plant.state c.args.plant.now in
    let new = g.P.Plant.state c.append.new.plant in
    let why = c.in-Err-Fault.ensures.cause.fault c.in-Err-Fault.set (ap (λ (e : AppendError). Err e) c.in-Err-Fault.field-0-is) in
    one_journal_fault c.args.journal.now.at.set c.in-Err-Fault.set old.faults new.faults why.0 why.1 c.append.ensures.others.others_faults
