use Rattle.xrc_session.proofs.Adding.{added_rows_stand}
use Rattle.xrc_session.proofs.Beginning.{first_rows_stand}
use Rattle.xrc_session.proofs.Forgetting.{forgotten_rows_stand}
use Rattle.xrc_session.proofs.Resuming.{resumed_rows_stand}
use Rattle.xrc_session.proofs.Suspending.{suspended_rows_stand}
use Rattle.xrc_session.proofs.carried.rows_stand_again.Goals as goal

pub returns-clause-begun : goal.returns-clause-begun
returns-clause-begun g c = first_rows_stand (g.P.Plant.state c.args.start.now)

pub returns-clause-suspended : goal.returns-clause-suspended
returns-clause-suspended g c = suspended_rows_stand (g.P.Plant.state c.args.start.now)

pub returns-clause-resumed : goal.returns-clause-resumed
returns-clause-resumed g c = resumed_rows_stand (g.P.Plant.state c.args.start.now)

pub returns-clause-forgotten : goal.returns-clause-forgotten
returns-clause-forgotten g c = forgotten_rows_stand (g.P.Plant.state c.args.start.now)

pub returns-clause-added : goal.returns-clause-added
returns-clause-added g c = added_rows_stand (g.P.Plant.state c.args.start.now)
