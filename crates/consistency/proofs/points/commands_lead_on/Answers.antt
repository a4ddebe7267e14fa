use Rattle.consistency.proofs.Between.{stages_are_points}
use Rattle.consistency.proofs.Legs.{command_is_step, command_may_be_meant, ended_may_be_meant, ending_may_be_meant, mark_may_be_meant}
use Rattle.consistency.proofs.Marked.{marked_rows_stand}
use Rattle.consistency.proofs.points.commands_lead_on.Goals as goal

pub returns : goal.returns
returns c = record {
  meant = λ run s l q hits goes leg commanding counted. command_may_be_meant run s goes l q hits leg commanding counted;
  mark = λ run s l q hits goes leg marking counted. mark_may_be_meant run s goes l q hits leg marking counted;
  stand = marked_rows_stand;
  step = λ run s l q hits goes leg commanding. command_is_step run s goes l q hits leg commanding;
  ending = λ run s l q r hits more goes leg commanding ending counted. ending_may_be_meant run s goes l q r hits more leg commanding ending counted;
  ended = ended_may_be_meant;
  stage = stages_are_points;
}
