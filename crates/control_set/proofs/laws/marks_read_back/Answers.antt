use Rattle.control_set.proofs.Again.{marks_again}
use Rattle.control_set.proofs.Spelled.{marks_spelled}
use Rattle.control_set.proofs.laws.marks_read_back.Goals as goal

pub returns : goal.returns
returns c = record {
  back = marks_again;
  spelled = marks_spelled;
}
