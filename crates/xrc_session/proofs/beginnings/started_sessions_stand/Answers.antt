use Rattle.xrc_session.proofs.StartedSessions.{started_stands}
use Rattle.xrc_session.proofs.beginnings.started_sessions_stand.Goals as goal

pub returns : goal.returns
returns g c = λ run time next answered size counts group site started.
    started_stands g.P.Plant.tells (g.P.Plant.state c.args.plant.now) run time next answered size counts group site started (λ d there. g.met.P.Plant.read_is_image c.args.plant.now d started.told there)
