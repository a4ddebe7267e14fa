use Rattle.applier.specs.Sides.{SyncsJob}
use Rattle.applier.proofs.Parts.{of_parts}
use Rattle.applier.proofs.pace.sync_some.Goals as goal

pub returns-clause-each : goal.returns-clause-each
returns-clause-each g c =
    let cut = c.split_at_mut-first in
    (of_parts (SyncsJob g.D.Disk.state g.D.Disk.tells) c.args.jobs.now cut.result.0.now cut.result.1.now c.sync_watched-pace.new.jobs c.sync_by_pace-2.new.jobs cut.ensures.value c.sync_watched-pace.ensures c.sync_by_pace-2.ensures).each
