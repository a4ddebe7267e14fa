use Rattle.record_rows.proofs.Coming.{after_marks_are_changes, after_marks_may_come, marked_records_are_changes, marked_records_may_come, marks_may_come}
use Rattle.record_rows.proofs.Devices.{apart_of}
use Rattle.record_rows.proofs.HitRows.{marks_are_changes}
use Rattle.record_rows.proofs.laws.marks_are_changes.Goals as goal

pub returns : goal.returns
returns c = record {
  rows = marks_are_changes;
  may_come = marks_may_come;
  record_rows = λ level breaks marked group failed rows apart are. after_marks_are_changes level breaks marked group failed rows (apart_of rows apart) are;
  record_may_come = λ level breaks marked group failed time from rows apart are. after_marks_may_come level breaks marked group failed time from rows (apart_of rows apart) are;
  both = λ level breaks group early late time rows apart are. marked_records_are_changes level breaks group early late time rows (apart_of rows apart) are;
  both_may_come = λ level breaks group early late from time rows apart are. marked_records_may_come level breaks group early late time rows (apart_of rows apart) are from;
}
