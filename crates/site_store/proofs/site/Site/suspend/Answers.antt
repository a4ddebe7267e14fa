use Rattle.std.proofs.Common.{◌≡◌, false, List, [], refl, sym, ap, ◌∙◌}
use Rattle.pair_table.specs.declared.row.PairRow.{PairRow}
use Rattle.record_rows.specs.Hits.{hit_now}
use Rattle.site_store.specs.Hits.{are_some}
use Rattle.site_store.proofs.PlanEnds.{rows_works}
use Rattle.site_store.proofs.SuspensionEnds.{may_log, none_does, none_of, none_suspends, suspends, suspends_does}
use Rattle.site_store.proofs.Views.{flags_below}
use Rattle.site_store.proofs.VolumesStaying.{stay_here}
use Rattle.site_store.proofs.site.Site.suspend.Given as given
use Rattle.site_store.proofs.site.Site.suspend.Goals as goal
use Rattle.site_store.proofs.site.Site.suspend.Goals.{After-has_hit}

pub has_hit-requires : goal.has_hit-requires
has_hit-requires g c = flags_below c.args.self.now c.args.self.now (g.P.Plant.state c.args.plant.now) refl c.requires.ready.fast.fits

told : (g : given.Over) (c : After-has_hit g) → c.args.self.now.told ≡ c.args.self.now.table.rows
told g c = c.has_hit.ensures.told c.requires.ready.level

hit_is : (g : given.Over) (c : After-has_hit g) → are_some (hit_now c.args.self.now.failed c.args.self.now.told) ≡ c.has_hit.result
hit_is g c = ap (λ (rows : List PairRow). are_some (hit_now c.args.self.now.failed rows)) (told g c) ∙ sym c.has_hit.ensures.hit

-- ---- no device is hit

none : (g : given.Over) (c : After-has_hit g) → c.has_hit.result ≡ false → hit_now c.args.self.now.failed c.args.self.now.told ≡ []
none g c not = none_of (hit_now c.args.self.now.failed c.args.self.now.told) (hit_is g c ∙ not)

pub returns-then-not-has_hit-clause-ok : goal.returns-then-not-has_hit-clause-ok
returns-then-not-has_hit-clause-ok g c =
    let f = (goal.at.returns-then-not-has_hit-clause-ok g c).After-has_hit in
    none_suspends c.args.cut.0 c.args.self.now (g.P.Plant.state c.args.plant.now) c.args.plant.now (none g f c.if-not-has_hit.true)

pub returns-then-not-has_hit-clause-moments : goal.returns-then-not-has_hit-clause-moments
returns-then-not-has_hit-clause-moments g c =
    let f = (goal.at.returns-then-not-has_hit-clause-moments g c).After-has_hit in
    none_does g.P.Plant.tells c.args.cut.0 c.args.self.now (g.P.Plant.state c.args.plant.now) (none g f c.if-not-has_hit.true)

pub returns-then-not-has_hit-clause-volumes : goal.returns-then-not-has_hit-clause-volumes
returns-then-not-has_hit-clause-volumes g c = stay_here g.P.Plant.tells (g.P.Plant.state c.args.plant.now)

-- ---- a record is logged

pub log_by_plan-requires-clause-may : goal.log_by_plan-requires-clause-may
log_by_plan-requires-clause-may g c κs within =
    let f = (goal.at.log_by_plan-requires-clause-may g c).After-has_hit in
    may_log g.P.Plant.tells c.args.cut.0 c.args.self.now (g.P.Plant.state c.args.plant.now) (told g f) c.requires.ready c.requires.cut

pub returns : goal.returns
returns g c =
    let f = (goal.at.returns g c).After-has_hit in
    let site = c.args.self.now in
    let tells = g.P.Plant.tells in
    let old = g.P.Plant.state c.args.plant.now in
    let k = c.log_by_plan in
    let by = k.ensures.recorded in
    let new = g.P.Plant.state k.new.plant in
    let some = hit_is g f ∙ c.if-not-has_hit.false in
    record {
      ok = suspends tells c.args.cut.0 site old (told g f) k.new.self new k.result some by.logged c.args.plant.now k.new.plant;
      leaves = by.leaves;
      moments = suspends_does tells c.args.cut.0 site old (told g f) k.new.self new k.result some by.logged;
      others = rows_works tells site old new by.works;
      volumes = by.volumes;
      uncalled = k.ensures.unwritten;
      heard_said = by.works.silent;
      cause = by.cause;
      failed = by.failed;
    }
