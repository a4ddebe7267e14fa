use Rattle.record_rows.proofs.Grouped.{after_marks_group, records_group}
use Rattle.record_rows.proofs.laws.groups_are_told.Goals as goal

pub returns : goal.returns
returns c = record { after = records_group; after_mark = after_marks_group }
