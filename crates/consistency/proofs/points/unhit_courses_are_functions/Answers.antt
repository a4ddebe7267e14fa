use Rattle.consistency.proofs.Unhit.{course_by_lines}
use Rattle.consistency.proofs.points.unhit_courses_are_functions.Goals as goal

pub returns : goal.returns
returns c = course_by_lines
