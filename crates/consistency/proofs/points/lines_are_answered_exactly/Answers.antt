use Rattle.consistency.proofs.Replying.{command_exactly, inactive_exactly}
use Rattle.consistency.proofs.points.lines_are_answered_exactly.Goals as goal

pub returns : goal.returns
returns c = record {
  answered = λ run s l q hits text reply first points number goes leg commanding counted names exact. command_exactly run s goes l leg q hits commanding text reply first points number names counted exact;
  inactive = inactive_exactly;
}
