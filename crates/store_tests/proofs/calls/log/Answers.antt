use Rattle.std.proofs.Common.{rules, ◌≡◌, ◌≤◌, subst, arith}
use Rattle.std.specs.List.{All}
use Rattle.applier.proofs.Works.{none_lent_lent}
use Rattle.pair_table.specs.Tables.{Table}
use Rattle.site_store.specs.Logging.{IsOfSomeRow}
use Rattle.site_store.proofs.Shutting.{on_ok_both}
use Rattle.site_store.proofs.Between.{logged_stands}
use Rattle.store_tests.proofs.calls.log.Goals as goal

pub log-requires-clause-may : goal.log-requires-clause-may
log-requires-clause-may g c κs within =
    let one : c.args.formed.now.controls ≡ 1 = search rules in
    let late : c.args.site.now.time ≤ c.args.formed.now.cut.0 = search rules in
    record { controls = omega (arith, one, c.requires.may.fast.fits.controls.0); entries = subst (λ (t : Table). All (IsOfSomeRow t.rows) c.args.formed.now.entries) c.table.ensures.table c.assert_rows.ensures; cut = late }

pub returns-clause-home : goal.returns-clause-home
returns-clause-home g c = none_lent_lent g.P.Plant.tells _ _ _ c.log.ensures.others c.requires.may.fast.fits.home

pub returns-clause-logged : goal.returns-clause-logged
returns-clause-logged g c =
    on_ok_both c.log.result (λ is leaves. logged_stands g.P.Plant.tells c.args.site.now c.log.new.self (g.P.Plant.state c.args.plant.now) (g.P.Plant.state c.log.new.plant) (λ e. e) _ _ _ _ _ _ c.requires leaves is) c.log.ensures.ok.logs.next_is c.log.ensures.leaves
