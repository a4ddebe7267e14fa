use Rattle.record_rows.proofs.Coming.{records_are_changes, records_may_come}
use Rattle.record_rows.proofs.Devices.{apart_of}
use Rattle.record_rows.proofs.laws.records_are_changes.Goals as goal

pub returns : goal.returns
returns c = record {
  rows = λ level breaks group failed rows apart are. records_are_changes level breaks group failed rows (apart_of rows apart) are;
  may_come = λ level breaks group failed from rows apart are. records_may_come level breaks group failed from rows (apart_of rows apart) are;
}
