use Rattle.consistency.proofs.Legs.{leg_begins, leg_is_hit, leg_is_marked, leg_may_be_meant}
use Rattle.consistency.proofs.OnTheWay.{ended_points_stay, ends_are_commanded, ends_are_ended, legs_go_on, marks_are_commanded, points_rise, ways_may_be_meant}
use Rattle.consistency.proofs.points.ways_lead_on.Goals as goal

pub returns : goal.returns
returns c = record {
  begins = leg_begins;
  goes_on = legs_go_on;
  hit = leg_is_hit;
  marked = leg_is_marked;
  follow = marks_are_commanded;
  rise = points_rise;
  ends = ends_are_ended;
  commanded = ends_are_commanded;
  ended = ended_points_stay;
  meant = λ run s l goes leg in_time counted rests. leg_may_be_meant run s goes l leg in_time counted rests;
  each = ways_may_be_meant;
}
