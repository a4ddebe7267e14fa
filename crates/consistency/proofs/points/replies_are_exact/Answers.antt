use Rattle.consistency.proofs.Replying.{exact_is_reply, exact_says, exact_says_up_to, report_first}
use Rattle.consistency.proofs.Reading.{exact_tell_apart, lines_tell_apart}
use Rattle.consistency.proofs.Naming.{course_has_names}
use Rattle.consistency.proofs.points.replies_are_exact.Goals as goal

pub returns : goal.returns
returns c = record {
  names = course_has_names;
  reply = λ run s first points number a names exact. exact_is_reply run s first points number a names exact;
  report = report_first;
  times = λ run s first points number a names old new exact. exact_says run s first points number a names old new exact;
  apart = lines_tell_apart;
  exact = λ run other s t first start points passed number place a b names named short brief one two same. exact_tell_apart run other s t first start points passed number place a b names named short brief one two same;
  up_to = λ run s first points number a names old new exact. exact_says_up_to run s first points number a names old new exact;
}
