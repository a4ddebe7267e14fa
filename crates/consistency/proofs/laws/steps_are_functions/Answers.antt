use Rattle.row_changes.proofs.Functions.{rows_determined}
use Rattle.consistency.proofs.laws.steps_are_functions.Goals as goal

pub returns : goal.returns
returns c level breaks names from old line changes hits apart commanded plain =
    rows_determined level breaks from line.time.0 changes old.rows apart commanded.toward.may_come commanded.toward.broken commanded.not_broken_yet commanded.settled plain
