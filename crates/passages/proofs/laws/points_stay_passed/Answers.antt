use Rattle.passages.proofs.InARow.{passed_still}
use Rattle.passages.proofs.laws.points_stay_passed.Goals as goal

pub returns : goal.returns
returns g c = passed_still g.row.Point.Denot g.row.Way.Denot g.row.Left.Denot g.T.Passage.left g.T.Passage.later g.T.Passage.shows
