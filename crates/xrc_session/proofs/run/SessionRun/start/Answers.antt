-- A session is started at the time of a line.
use Rattle.std.proofs.Common.{◌<◌, ◌∙◌, [], Option, Result, Err, sym, ap, subst}
use Rattle.std.specs.Prelude.{IfSome}
use Rattle.std.proofs.lemmas.Result.{IfOk-from_err}
use Rattle.crash_plant.specs.declared.device.Device.TheVariants.{Control}
use Rattle.crash_plant.specs.Moments.{IsDurable, on}
use Rattle.state_set.specs.Slots.{started_table}
use Rattle.site_store.specs.Sites.{SiteState}
use Rattle.xrc_status.specs.declared.stop.Stop.{Stop}
use Rattle.xrc_session.specs.Lines.{IsBegunTable}
use Rattle.xrc_session.specs.Runs.{AreLabelsRead}
use Rattle.xrc_session.specs.Starting.{FormatsFirst, IsSafeStart, IsSafeThroughout, IsWorkOfStart, MayBeStarted}
use Rattle.xrc_session.specs.States.{SessionState}
use Rattle.xrc_session.proofs.LinesBegun.{begun_between, begun_is_started_at, begun_may_start, begun_stands, begun_unstarted}
use Rattle.xrc_session.proofs.Numbered.{given_on}
use Rattle.xrc_session.proofs.StartWorks.{safe_err, works_err, works_ok}
use Rattle.xrc_session.proofs.run.SessionRun.start.Goals as goal

pub start-requires-clause-may : goal.start-requires-clause-may
start-requires-clause-may g c κs within =
    let old = g.P.Plant.state c.args.plant.now in
    let at = c.args.line.now.time.0 in
    subst (λ (x : SessionState). MayBeStarted x.controls at x.names x.group c.args.traces.now old) (sym c.self.view_is) (begun_may_start g.P.Plant.tells c.args.self.now c.args.traces.now old c.requires.between at c.requires.time)

-- ---- it wasn't started

pub returns-in_err-site-clause-between : goal.returns-in_err-site-clause-between
returns-in_err-site-clause-between g c = IfOk-from_err c.from_residual.result _ c.from_residual.ensures.0

pub returns-in_err-site-clause-started : goal.returns-in_err-site-clause-started
returns-in_err-site-clause-started g c = IfOk-from_err c.from_residual.result _ c.from_residual.ensures.0

pub returns-in_err-site-clause-same : goal.returns-in_err-site-clause-same
returns-in_err-site-clause-same g c = record { session = ap (λ (x : SessionState). x.session) c.self.view_is; controls = ap (λ (x : SessionState). x.controls) c.self.view_is }

pub returns-in_err-site-clause-went : goal.returns-in_err-site-clause-went
returns-in_err-site-clause-went g c = c.start.ensures.went

pub returns-in_err-site-clause-lanes : goal.returns-in_err-site-clause-lanes
returns-in_err-site-clause-lanes g c = IfOk-from_err c.from_residual.result _ c.from_residual.ensures.0

pub returns-in_err-site-clause-safe : goal.returns-in_err-site-clause-safe
returns-in_err-site-clause-safe g c told =
    let old = g.P.Plant.state c.args.plant.now in
    let new = g.P.Plant.state c.start.new.plant in
    let e = c.in_err-site.field-0.0 in
    subst (λ (r : Result (Unit {0}) Stop). IsSafeStart c.args.self.now.session c.args.level c.args.line.now.time.0 old new r) (sym (given_on c.from_residual.result e c.from_residual.ensures))
    (safe_err {T = SiteState} {U = Unit {0}} c.args.self.now.session c.args.level c.args.line.now.time.0 old new e
    (subst (λ (x : SessionState). let r : Result SiteState Stop = Err e in IsSafeStart x.session c.args.level c.args.line.now.time.0 old new r) c.self.view_is (c.in_err-site.ensures.safe told)))

pub returns-in_err-site-clause-works : goal.returns-in_err-site-clause-works
returns-in_err-site-clause-works g c =
    let old = g.P.Plant.state c.args.plant.now in
    let new = g.P.Plant.state c.start.new.plant in
    let e = c.in_err-site.field-0.0 in
    subst (λ (r : Result (Unit {0}) Stop). IsWorkOfStart g.P.Plant.tells old new r) (sym (given_on c.from_residual.result e c.from_residual.ensures))
    (works_err {T = SiteState} {U = Unit {0}} g.P.Plant.tells old new e c.in_err-site.ensures.works)

pub returns-in_err-site-clause-labels : goal.returns-in_err-site-clause-labels
returns-in_err-site-clause-labels g c told =
    let old = g.P.Plant.state c.args.plant.now in
    let new = g.P.Plant.state c.start.new.plant in
    let none = ap (λ (x : SessionState). x.site) c.self.view_is ∙ begun_unstarted g.P.Plant.tells c.args.self.now c.args.traces.now old c.requires.between in
    subst (λ (o : Option SiteState). IfSome o (λ site. AreLabelsRead old new c.start.new.self.names.labels)) (sym none) tt

pub returns-in_err-site-clause-stands : goal.returns-in_err-site-clause-stands
returns-in_err-site-clause-stands g c told began run over counts = IfOk-from_err c.from_residual.result _ c.from_residual.ensures.0

-- ---- it was

pub returns-clause-between : goal.returns-clause-between
returns-clause-between g c =
    let old = g.P.Plant.state c.args.plant.now in
    let new = g.P.Plant.state c.start.new.plant in
    let begun = subst (λ (x : SessionState). IsBegunTable g.P.Plant.tells x c.args.traces.now old) (sym c.self.view_is) c.requires.between in
    let done = c.in_ok-site.ensures in
    begun_between g.P.Plant.tells _ c.args.traces.now old begun c.args.level c.args.line.now.time.0 c.start.new.traces c.start.new.self.names c.start.new.self.group c.in_ok-site.site new c.start.ensures.works.site c.start.ensures.works.home done.same done.primaries done.site

pub returns-clause-started : goal.returns-clause-started
returns-clause-started g c =
    let old = g.P.Plant.state c.args.plant.now in
    let new = g.P.Plant.state c.start.new.plant in
    let begun = subst (λ (x : SessionState). IsBegunTable g.P.Plant.tells x c.args.traces.now old) (sym c.self.view_is) c.requires.between in
    let done = c.in_ok-site.ensures in
    let is = begun_is_started_at g.P.Plant.tells _ c.args.traces.now old begun c.args.level c.args.line.now.time.0 c.start.new.traces c.start.new.self.names c.start.new.self.group c.in_ok-site.site new c.start.ensures.works.site c.start.ensures.works.home done.same done.primaries done.site in
    record {
      same = record { session = ap (λ (x : SessionState). x.session) c.self.view_is; controls = ap (λ (x : SessionState). x.controls) c.self.view_is };
      table = is.table ∙ ap (λ (x : SessionState). started_table x.session []) c.self.view_is;
      started = is.started;
    }

pub returns-clause-same : goal.returns-clause-same
returns-clause-same g c = record { session = ap (λ (x : SessionState). x.session) c.self.view_is; controls = ap (λ (x : SessionState). x.controls) c.self.view_is }

pub returns-clause-went : goal.returns-clause-went
returns-clause-went g c = c.start.ensures.went

pub returns-clause-lanes : goal.returns-clause-lanes
returns-clause-lanes g c = c.in_ok-site.ensures.same

pub returns-clause-safe : goal.returns-clause-safe
returns-clause-safe g c told =
    let old = g.P.Plant.state c.args.plant.now in
    let new = g.P.Plant.state c.start.new.plant in
    record {
      safe = subst (λ (x : SessionState). IsSafeThroughout x.session c.args.level c.args.line.now.time.0 old new) c.self.view_is (c.in_ok-site.ensures.safe told).safe;
      spent = λ is. absurd (cc is);
      formats = subst (λ (x : SessionState). 0 < old.clock → IsDurable (on old Control) → FormatsFirst x.session c.args.level c.args.line.now.time.0 old new new.clock) c.self.view_is (c.in_ok-site.ensures.safe told).formats;
    }

pub returns-clause-works : goal.returns-clause-works
returns-clause-works g c =
    let old = g.P.Plant.state c.args.plant.now in
    let new = g.P.Plant.state c.start.new.plant in
    works_ok {T = SiteState} {U = Unit {0}} g.P.Plant.tells old new c.in_ok-site.site tt c.in_ok-site.ensures.works

pub returns-clause-labels : goal.returns-clause-labels
returns-clause-labels g c told = c.in_ok-site.ensures.names told

pub returns-clause-stands : goal.returns-clause-stands
returns-clause-stands g c told began run over counts =
    let old = g.P.Plant.state c.args.plant.now in
    let new = g.P.Plant.state c.start.new.plant in
    let begun = subst (λ (x : SessionState). IsBegunTable g.P.Plant.tells x c.args.traces.now old) (sym c.self.view_is) c.requires.between in
    let done = c.in_ok-site.ensures in
    begun_stands g.P.Plant.tells _ c.args.traces.now old begun c.args.level c.args.line.now.time.0 c.start.new.traces c.start.new.self.names c.start.new.self.group c.in_ok-site.site new c.start.ensures.works.site c.start.ensures.works.home done.same done.primaries done.site
    g.S.Source.left c.requires.time done.broke (g.P.Plant.state began) run over counts (done.stands told began)
