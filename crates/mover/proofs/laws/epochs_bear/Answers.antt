use Rattle.mover.proofs.EpochStands.{epochs_stand_again}
use Rattle.mover.proofs.EpochWork.{epochs_bear}
use Rattle.mover.proofs.laws.epochs_bear.Goals as goal

pub returns-clause-moments : goal.returns-clause-moments
returns-clause-moments g c = epochs_bear g.P.Plant.tells g.S.Source.left g.S.Source.faults (g.P.Plant.state c.args.old.now) (g.P.Plant.state c.args.new.now)

pub returns-clause-reached : goal.returns-clause-reached
returns-clause-reached g c =
    epochs_stand_again g.P.Plant.tells g.S.Source.left g.S.Source.faults (g.P.Plant.state c.args.old.now) (g.P.Plant.state c.args.new.now) (λ told d there. g.met.P.Plant.read_is_image c.args.new.now d told there)
