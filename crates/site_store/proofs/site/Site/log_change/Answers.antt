use Rattle.std.proofs.Common.{◌≡◌, Bool, false, List, [], refl, sym, ap, subst, ◌∙◌}
use Rattle.pair_table.specs.Tables.{Table}
use Rattle.site_store.specs.Causes.{FailByCounts}
use Rattle.site_store.specs.Changing.{changed_items}
use Rattle.site_store.specs.RowRecords.{names_rows}
use Rattle.site_store.specs.Sites.{SiteState}
use Rattle.site_store.specs.Standing.{Leaves}
use Rattle.site_store.proofs.ChangeEnds.{change_does, change_logs, level_view, no_items, none_done, none_leaves, told_is}
use Rattle.site_store.proofs.LogFails.{none_fails}
use Rattle.site_store.proofs.PlanEnds.{rows_works}
use Rattle.site_store.proofs.VolumesStaying.{stay_here}
use Rattle.site_store.proofs.site.Site.log_change.Given as given
use Rattle.site_store.proofs.site.Site.log_change.Goals as goal
use Rattle.site_store.proofs.site.Site.log_change.Goals.{After-names_rows}

-- whether the change names a row of the site
named : (g : given.Over) (c : After-names_rows g) → c.names_rows.result ≡ names_rows c.args.change.now c.args.self.now.table.rows
named g c = c.names_rows.ensures ∙ ap (λ (t : Table). names_rows c.args.change.now t.rows) c.table.ensures.table

-- ---- nothing is logged

none : (g : given.Over) (c : After-names_rows g) → c.names_rows.result ≡ false → changed_items c.args.change.now c.args.self.now.table.rows ≡ []
none g c not = no_items (changed_items c.args.change.now c.args.self.now.table.rows) (sym (named g c) ∙ not)

pub returns-then-not-names_rows-clause-ok : goal.returns-then-not-names_rows-clause-ok
returns-then-not-names_rows-clause-ok g c =
    let f = (goal.at.returns-then-not-names_rows-clause-ok g c).After-names_rows in
    let site = c.args.self.now in
    let nothing = none g f c.if-not-names_rows.true in
    record { nothing = λ e. (refl, level_view _ site c.self.view_is (told_is g.P.Plant.tells c.args.cut.0 c.args.change.now site (g.P.Plant.state c.args.plant.now) c.requires.may nothing), refl); rows = λ some. absurd (some nothing) }

pub returns-then-not-names_rows-clause-failed : goal.returns-then-not-names_rows-clause-failed
returns-then-not-names_rows-clause-failed g c =
    let count = (g.P.Plant.state c.args.plant.now).faults in
    subst (λ (failed : List Bool). FailByCounts c.args.self.now.failed failed count count) (sym (ap (λ (x : SiteState). x.failed) c.self.view_is)) (none_fails c.args.self.now.failed count count (λ d. refl))

pub returns-then-not-names_rows-clause-leaves : goal.returns-then-not-names_rows-clause-leaves
returns-then-not-names_rows-clause-leaves g c =
    let f = (goal.at.returns-then-not-names_rows-clause-leaves g c).After-names_rows in
    let site = c.args.self.now in
    let tells = g.P.Plant.tells in
    let old = g.P.Plant.state c.args.plant.now in
    let told = told_is tells c.args.cut.0 c.args.change.now site old c.requires.may (none g f c.if-not-names_rows.true) in
    subst (λ (x : SiteState). Leaves tells (λ e. e) site x old old) (sym (level_view _ site c.self.view_is told)) (none_leaves tells site old c.requires.may.fast.fits)

pub returns-then-not-names_rows-clause-moments : goal.returns-then-not-names_rows-clause-moments
returns-then-not-names_rows-clause-moments g c =
    let f = (goal.at.returns-then-not-names_rows-clause-moments g c).After-names_rows in
    none_done g.P.Plant.tells c.args.cut.0 c.args.change.now c.args.self.now _ (g.P.Plant.state c.args.plant.now) (none g f c.if-not-names_rows.true)

pub returns-then-not-names_rows-clause-volumes : goal.returns-then-not-names_rows-clause-volumes
returns-then-not-names_rows-clause-volumes g c = stay_here g.P.Plant.tells (g.P.Plant.state c.args.plant.now)

-- ---- a record is logged

pub log_by_plan-requires-clause-may : goal.log_by_plan-requires-clause-may
log_by_plan-requires-clause-may g c κs within =
    let f = (goal.at.log_by_plan-requires-clause-may g c).After-names_rows in
    record { may = c.requires.may; level = λ not. absurd (let yes = sym (named g f) ∙ c.if-not-names_rows.false in cc (yes, not)) }

pub returns : goal.returns
returns g c =
    let f = (goal.at.returns g c).After-names_rows in
    let site = c.args.self.now in
    let tells = g.P.Plant.tells in
    let old = g.P.Plant.state c.args.plant.now in
    let k = c.log_by_plan in
    let by = k.ensures.recorded in
    let new = g.P.Plant.state k.new.plant in
    let follow = sym (named g f) ∙ c.if-not-names_rows.false in
    record {
      ok = change_logs tells c.args.cut.0 c.args.change.now site k.new.self old new k.result follow by.logged c.args.plant.now k.new.plant;
      leaves = by.leaves;
      moments = change_does tells c.args.cut.0 c.args.change.now site k.new.self old new k.result follow by.logged;
      others = rows_works tells site old new by.works;
      volumes = by.volumes;
      uncalled = λ spent. (k.ensures.unwritten spent).1;
      heard_said = by.works.silent;
      cause = by.cause;
      failed = by.failed;
    }
