use Rattle.turn_group.proofs.Notes.{notes_true, notes_apart}
use Rattle.turn_group.proofs.group.open.Goals as goal

pub make-requires-clause-notes : goal.make-requires-clause-notes
make-requires-clause-notes c = notes_true c.args.state

pub make-requires-clause-apart : goal.make-requires-clause-apart
make-requires-clause-apart c = notes_apart c.args.state
