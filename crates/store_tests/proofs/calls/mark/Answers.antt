use Rattle.std.proofs.Common.{false}
use Rattle.applier.proofs.Works.{none_lent_lent}
use Rattle.site_store.specs.Standing.{none_excepted}
use Rattle.site_store.proofs.Shutting.{on_ok_both}
use Rattle.site_store.proofs.Between.{marked_idle}
use Rattle.store_tests.proofs.calls.mark.Goals as goal

pub returns-clause-home : goal.returns-clause-home
returns-clause-home g c = none_lent_lent g.P.Plant.tells _ _ _ c.mark.ensures.others c.requires.may.fast.fits.home

pub returns-clause-idle : goal.returns-clause-idle
returns-clause-idle g c =
    on_ok_both c.mark.result (λ is leaves. marked_idle g.P.Plant.tells c.args.site.now c.mark.new.self (g.P.Plant.state c.args.plant.now) (g.P.Plant.state c.mark.new.plant) (λ e. none_excepted) false _ _ c.requires.may.fast leaves is) c.mark.ensures.ok.next_is c.mark.ensures.leaves
