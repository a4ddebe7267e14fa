use Rattle.record_rows.proofs.Changed.{after_marks_change, changed_make, hits_change, records_change}
use Rattle.record_rows.proofs.Devices.{apart_of}
use Rattle.record_rows.proofs.laws.changed_rows_make_them.Goals as goal

pub returns : goal.returns
returns c = record {
  make = λ state rows apart. changed_make state rows (apart_of rows apart);
  after = records_change;
  after_mark = after_marks_change;
  hits = hits_change;
}
