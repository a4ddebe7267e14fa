use Rattle.record_rows.specs.Hits.{hit_now}
use Rattle.record_rows.proofs.Coming.{hits_may_come}
use Rattle.record_rows.proofs.HitRows.{hits_are_changes}
use Rattle.record_rows.proofs.laws.hits_are_changes.Goals as goal

pub returns : goal.returns
returns c = record { rows = λ level time failed rows. hits_are_changes level time (hit_now failed rows) rows; may_come = hits_may_come }
