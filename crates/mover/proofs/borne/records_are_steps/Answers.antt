use Rattle.mover.proofs.Records.{after_marks_are_steps, records_are_steps}
use Rattle.mover.proofs.borne.records_are_steps.Goals as goal

pub returns-clause-plain : goal.returns-clause-plain
returns-clause-plain c = records_are_steps

pub returns-clause-after_mark : goal.returns-clause-after_mark
returns-clause-after_mark c = after_marks_are_steps
