use Rattle.consistency.proofs.Owed.{duplex_by_moments, duplex_by_points, owes_all, owes_changes}
use Rattle.consistency.proofs.Told.{told_points_are_walked}
use Rattle.consistency.proofs.points.owed_tracks_are_told.Goals as goal

pub returns-clause-duplex : goal.returns-clause-duplex
returns-clause-duplex g c run row from to first points walked =
    let plant = g.P.Plant.state c.args.plant.now in
    (duplex_by_points run plant row from to first points walked, duplex_by_moments run plant row from to first points walked)

pub returns-clause-owed : goal.returns-clause-owed
returns-clause-owed g c run row cause since from to first points time track walked is =
    let plant = g.P.Plant.state c.args.plant.now in
    (owes_changes run plant row from to first points walked cause since time track is, owes_all run plant row from to first points walked cause since time track is)

pub returns-clause-told : goal.returns-clause-told
returns-clause-told g c = told_points_are_walked (g.P.Plant.state c.args.plant.now)
