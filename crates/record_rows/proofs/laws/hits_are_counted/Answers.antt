use Rattle.record_rows.proofs.Counting.{after_marks_count, hits_count, marked_records_count, marks_count, records_count}
use Rattle.record_rows.proofs.laws.hits_are_counted.Goals as goal

pub returns : goal.returns
returns c = record {
  after = records_count;
  after_mark = after_marks_count;
  hits = hits_count;
  mark = marks_count;
  both = marked_records_count;
}
