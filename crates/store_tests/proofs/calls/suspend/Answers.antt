use Rattle.applier.proofs.Works.{none_lent_lent}
use Rattle.site_store.proofs.Between.{suspended_idle}
use Rattle.store_tests.proofs.calls.suspend.Goals as goal

pub returns-clause-home : goal.returns-clause-home
returns-clause-home g c = none_lent_lent g.P.Plant.tells _ _ _ c.suspend.ensures.others c.requires.may.fast.fits.home

pub returns-clause-idle : goal.returns-clause-idle
returns-clause-idle g c =
    suspended_idle g.P.Plant.tells c.args.site.now c.suspend.new.self (g.P.Plant.state c.args.plant.now) (g.P.Plant.state c.suspend.new.plant) (λ e. e) c.args.cut.0 _ _ c.suspend.result c.requires c.suspend.ensures.leaves c.suspend.ensures.ok
