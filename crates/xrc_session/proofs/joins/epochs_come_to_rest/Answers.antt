use Rattle.xrc_session.proofs.JoinsLogs.{epochs_rest, rows_stand}
use Rattle.xrc_session.proofs.joins.epochs_come_to_rest.Goals as goal

pub returns-clause-logs : goal.returns-clause-logs
returns-clause-logs g c = rows_stand

pub returns-clause-rest : goal.returns-clause-rest
returns-clause-rest g c = epochs_rest g.P.Plant.tells g.S.Source.left g.S.Source.faults (g.P.Plant.state c.args.old.now) (g.P.Plant.state c.args.new.now)
