use Rattle.crash_plant.proofs.Steps.{none_lent_then}
use Rattle.site_store.proofs.Between.{starts_idle}
use Rattle.store_tests.proofs.calls.start_at.Goals as goal

pub returns-clause-home : goal.returns-clause-home
returns-clause-home g c = none_lent_then g.P.Plant.tells _ _ _ c.format.ensures.others c.requires

pub returns-clause-idle : goal.returns-clause-idle
returns-clause-idle g c =
    starts_idle g.P.Plant.tells 1 (g.P.Plant.state c.args.plant.now).volumes c.session.result c.args.level c.args.at (g.P.Plant.state c.format.new.plant) c.format.result c.format.ensures.ok c.format.ensures.fits c.format.ensures.stands
