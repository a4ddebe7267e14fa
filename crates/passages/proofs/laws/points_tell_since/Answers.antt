use Rattle.passages.proofs.Since.{tell_since}
use Rattle.passages.proofs.laws.points_tell_since.Goals as goal

pub returns : goal.returns
returns g c so now so_meant now_meant from to p xs so_shown now_shown begins goes some =
    tell_since g.row.Point.Denot g.row.Way.Denot g.row.Left.Denot g.T.Passage.left g.T.Passage.shows so now so_meant now_meant so_shown now_shown from to p xs begins goes some
