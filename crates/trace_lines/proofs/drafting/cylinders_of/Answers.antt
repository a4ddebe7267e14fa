use Rattle.write_trace.proofs.Keeping.{cylinders_is}
use Rattle.trace_lines.proofs.drafting.cylinders_of.Goals as goal

pub returns : goal.returns
returns c = cylinders_is c.args.volumes.now c.args.volume c.index-volumes-volume.result c.requires.there
