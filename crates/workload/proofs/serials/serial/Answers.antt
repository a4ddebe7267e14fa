use Rattle.tod_stamp.proofs.NameLaws.{names_are_read}
use Rattle.workload.proofs.serials.serial.Goals as goal

pub unreachable-requires : goal.unreachable-requires
unreachable-requires c = let read = names_are_read 6 c.args.name c.requires in absurd (cc (read, c.read.ensures, c.in-Err.is))
