use Rattle.consistency.proofs.Flags.{command_in_time, ending_in_time, flags_may_be, leg_in_time, mark_in_time, stage_in_time, ways_in_time}
use Rattle.consistency.proofs.points.flags_are_in_time.Goals as goal

pub returns : goal.returns
returns c = record {
  flag = flags_may_be;
  leg = λ run s l goes leg may. leg_in_time run s goes l leg may;
  ways = λ run s asked l points goes leg on linked may. ways_in_time run s goes asked l points leg on linked may;
  command = λ run s l q hits goes leg commanding may. command_in_time run s goes l q hits leg commanding may;
  mark = λ run s l q hits goes leg marking may. mark_in_time run s goes l q hits leg marking may;
  ending = λ run s l q r hits more goes leg commanding ending may. ending_in_time run s goes l q r hits more leg commanding ending may;
  stage = stage_in_time;
}
