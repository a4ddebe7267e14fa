use Rattle.site_tests.proofs.WorkedPoints.{cut_row, ended_row, failing_row, marked_row, resumed_mark, resumed_row}
use Rattle.site_tests.proofs.point_vectors.worked_points.Goals as goal

pub returns : goal.returns
returns c = record { resumed = resumed_row; failing = failing_row; marked = marked_row; resumed_mark = resumed_mark; ended = ended_row; cut = cut_row }
