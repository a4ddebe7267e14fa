use Rattle.consistency.proofs.CountingHits.{command_is_counted, end_is_counted, hits_stay, leg_is_counted, mark_is_counted, marked_hits_counted}
use Rattle.consistency.proofs.points.hits_are_counted.Goals as goal

pub returns : goal.returns
returns c = record {
  stay = hits_stay;
  more = marked_hits_counted;
  leg = λ run s l leg has. leg_is_counted run s l leg has;
  mark = λ run s l q number marked leg has. mark_is_counted run s l leg q number marked has;
  command = λ run s l q number after leg has. command_is_counted run s l leg q number after has;
  ending = λ run s l q r number after more leg has. end_is_counted run s l leg q r number after more has;
}
