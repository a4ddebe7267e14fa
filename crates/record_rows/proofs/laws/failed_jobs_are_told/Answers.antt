use Rattle.record_rows.proofs.Devices.{apart_of}
use Rattle.record_rows.proofs.Telling.{after_marks_tell, hits_tell, marks_tell, none_hit_again, only_failed, records_tell}
use Rattle.record_rows.proofs.laws.failed_jobs_are_told.Goals as goal

pub returns : goal.returns
returns c = record {
  after = λ level group failed rows apart. records_tell level group failed rows (apart_of rows apart);
  after_mark = λ level marked group failed rows apart. after_marks_tell level marked group failed rows (apart_of rows apart);
  hits = λ level time failed rows apart. hits_tell level time failed rows (apart_of rows apart);
  mark = λ time failed rows apart. marks_tell time failed rows (apart_of rows apart);
  only_failed = only_failed;
  no_more = none_hit_again;
}
