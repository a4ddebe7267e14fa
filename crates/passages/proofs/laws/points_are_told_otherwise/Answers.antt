use Rattle.passages.proofs.Telling.{told_otherwise}
use Rattle.passages.proofs.laws.points_are_told_otherwise.Goals as goal

pub returns : goal.returns
returns g c told way from to p xs next step gp all gn goes =
    told_otherwise g.row.Point.Denot g.row.Way.Denot g.row.Told.Denot g.row.ToldWay.Denot g.row.Left.Denot g.T.Passage.left g.T.Passage.shows g.T.Passage.is_good g.U.Passage.shows told way step from to p xs next gp all gn goes
