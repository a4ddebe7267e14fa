use Rattle.consistency.proofs.Answering.{command_is_answered, inactive_is_answered, leg_after_command, leg_after_end, content_as_accepted, told_before}
use Rattle.consistency.proofs.points.lines_are_answered.Goals as goal

pub returns : goal.returns
returns c = record {
  answered = λ run s l q hits text reply goes leg commanding counted said. command_is_answered run s goes l leg q hits commanding text reply counted said;
  inactive = inactive_is_answered;
  next = λ run s l q hits text reply number goes leg commanding none. leg_after_command run s goes l leg q hits commanding text reply number none;
  ended = λ run s l q r hits more text reply number goes leg commanding ending. leg_after_end run s goes l leg q hits commanding text reply r more number ending;
  told = content_as_accepted;
  before = told_before;
}
