use Rattle.std.proofs.Common.{rules, ◌≡◌, ◌≤◌, length, ap, subst, sym, ◌∙◌, arith}
use Rattle.std.specs.List.{All}
use Rattle.applier.proofs.Works.{none_lent_lent}
use Rattle.pair_table.specs.Tables.{Table}
use Rattle.site_store.specs.Logging.{IsOfSomeRow}
use Rattle.site_store.specs.Sites.{SiteState}
use Rattle.site_store.proofs.Shutting.{on_ok_both}
use Rattle.site_store.proofs.Between.{logged_stands}
use Rattle.mover_tests.proofs.Stepping.{group_controls}
use Rattle.mover_tests.proofs.steps.log.Goals as goal

pub log-requires-clause-may : goal.log-requires-clause-may
log-requires-clause-may g c κs within =
    let formed = c.form-formed.result in
    let few : formed.controls ≤ c.args.site.now.controls = search rules in
    let late : c.args.site.now.time ≤ formed.cut.0 = search rules in
    record { controls = few; entries = subst (λ (t : Table). All (IsOfSomeRow t.rows) formed.entries) c.table.ensures.table c.assert_rows.ensures; cut = late }

pub returns-clause-home : goal.returns-clause-home
returns-clause-home g c = none_lent_lent g.P.Plant.tells _ _ _ c.log.ensures.others c.requires.idle.may.fast.fits.home

pub returns-clause-few : goal.returns-clause-few
returns-clause-few g c =
    let site = c.args.site.now in
    let logged = c.log.ensures.ok in
    let few : length c.form-formed.new.self.group.controls ≤ site.controls = omega (arith, c.requires.few, c.form-formed.ensures.same) in
    on_ok_both c.log.result
    (λ is leaves. subst (λ n. length c.form-formed.new.self.group.controls ≤ n) (sym (ap (λ (t : SiteState). t.controls) is ∙ group_controls (g.P.Plant.state c.args.plant.now).journals logged.placement c.form-formed.result c.log.new.self.waiting logged.logs.early c.log.new.self.failed site)) few)
    logged.logs.next_is c.log.ensures.leaves

pub returns-clause-logged : goal.returns-clause-logged
returns-clause-logged g c =
    on_ok_both c.log.result (λ is leaves. logged_stands g.P.Plant.tells c.args.site.now c.log.new.self (g.P.Plant.state c.args.plant.now) (g.P.Plant.state c.log.new.plant) (λ e. e) _ _ _ _ _ _ c.requires.idle leaves is) c.log.ensures.ok.logs.next_is c.log.ensures.leaves
