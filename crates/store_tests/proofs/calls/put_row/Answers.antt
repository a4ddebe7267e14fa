use Rattle.applier.proofs.Works.{none_lent_lent}
use Rattle.pair_table.specs.declared.command.Change.TheVariants.{Added}
use Rattle.site_store.proofs.Between.{changed_idle}
use Rattle.store_tests.proofs.calls.put_row.Goals as goal

pub returns-clause-home : goal.returns-clause-home
returns-clause-home g c = none_lent_lent g.P.Plant.tells _ _ _ c.log_change.ensures.others c.requires.may.fast.fits.home

pub returns-clause-idle : goal.returns-clause-idle
returns-clause-idle g c =
    changed_idle g.P.Plant.tells c.put.new.site c.log_change.new.self (g.P.Plant.state c.args.plant.now) (g.P.Plant.state c.log_change.new.plant) (λ e. e) c.args.cut.0 (Added c.args.row.device) _ _ c.log_change.result c.put.ensures c.log_change.ensures.leaves c.log_change.ensures.ok
