use Rattle.site_store.proofs.Turning.{leave_in_turn, marks_are_meant, means_are}
use Rattle.site_store.proofs.deeds.deeds_leave_in_turn.Goals as goal

pub returns-clause-means : goal.returns-clause-means
returns-clause-means c = means_are

pub returns-clause-turn : goal.returns-clause-turn
returns-clause-turn c = leave_in_turn

pub returns-clause-mark : goal.returns-clause-mark
returns-clause-mark c = marks_are_meant
