use Rattle.site_store.specs.Applying.{excepted_by_apply}
use Rattle.site_store.proofs.Between.{applied_idle}
use Rattle.mover_tests.proofs.steps.apply.Goals as goal

pub returns-clause-idle : goal.returns-clause-idle
returns-clause-idle g c =
    applied_idle g.P.Plant.tells c.args.site.now c.apply.new.self (g.P.Plant.state c.args.plant.now) (g.P.Plant.state c.apply.new.plant) (excepted_by_apply c.args.site.now) c.requires.logged c.apply.ensures.leaves c.apply.ensures.ok.next_is
