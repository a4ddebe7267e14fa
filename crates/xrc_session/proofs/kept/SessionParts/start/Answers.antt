-- A session is started: the site is formatted and the labels are read, and then it is brought to the time of its start.
use Rattle.std.proofs.Common.{◌∙◌, Option, Result, Ok, Err, refl, sym, ap, subst, arith}
use Rattle.std.specs.Prelude.{IsSomeAnd}
use Rattle.std.proofs.lemmas.Result.{IfOk-from_err}
use Rattle.crash_plant.specs.declared.device.Device.TheVariants.{Control, Volume}
use Rattle.crash_plant.specs.Choices.{AtEveryMoment, AtNow}
use Rattle.pair_table.specs.Naming.{Naming}
use Rattle.group_state.specs.Groups.{Group}
use Rattle.site_store.specs.Sites.{SiteState}
use Rattle.site_store.proofs.MarkFits.{reads_choice}
use Rattle.xrc_status.specs.declared.stop.Stop.{Stop}
use Rattle.xrc_session.specs.LinePauses.{IsReadyForEpoch}
use Rattle.xrc_session.specs.Starting.{IsSafeStart, IsSafeThroughout, IsWorkOfStart, MeansStart}
use Rattle.xrc_session.specs.Runs.{AreLabelsRead}
use Rattle.xrc_session.proofs.InTurn.{went_here}
use Rattle.xrc_session.proofs.Labelled.{read_still}
use Rattle.xrc_session.proofs.LinesBegun.{lanes_may_go_on}
use Rattle.xrc_session.proofs.Numbered.{given_on}
use Rattle.xrc_session.proofs.Readying.{broken_alone}
use Rattle.xrc_session.proofs.Started.{first_group, formats_on, ready_at_start, safe_then, site_started, start_before, starts_runs}
use Rattle.xrc_session.proofs.StartedWorks.{none_worked, works_then}
use Rattle.xrc_session.proofs.StartWorks.{err_as}
use Rattle.xrc_session.proofs.kept.SessionParts.start.Given as given
use Rattle.xrc_session.proofs.kept.SessionParts.start.Goals as goal
use Rattle.xrc_session.proofs.kept.SessionParts.start.Goals.{After-bring_to}

pub format-requires-clause-time : goal.format-requires-clause-time
format-requires-clause-time g c κs within = c.requires.may.time

pub format-requires-clause-controls : goal.format-requires-clause-controls
format-requires-clause-controls g c κs within = c.requires.may.few

pub format-requires-clause-home : goal.format-requires-clause-home
format-requires-clause-home g c κs within = c.requires.may.home

pub format-requires-clause-lengths : goal.format-requires-clause-lengths
format-requires-clause-lengths g c κs within = c.requires.may.lengths

pub format-requires-clause-unlabelled : goal.format-requires-clause-unlabelled
format-requires-clause-unlabelled g c κs within = c.requires.may.labels

-- ---- the site wasn't formatted

pub returns-in_err-site-clause-site : goal.returns-in_err-site-clause-site
returns-in_err-site-clause-site g c = IfOk-from_err c.from_residual.result _ c.from_residual.ensures.0

pub returns-in_err-site-clause-names : goal.returns-in_err-site-clause-names
returns-in_err-site-clause-names g c told = IfOk-from_err c.from_residual.result _ c.from_residual.ensures.0

pub returns-in_err-site-clause-primaries : goal.returns-in_err-site-clause-primaries
returns-in_err-site-clause-primaries g c = IfOk-from_err c.from_residual.result _ c.from_residual.ensures.0

pub returns-in_err-site-clause-went : goal.returns-in_err-site-clause-went
returns-in_err-site-clause-went g c = went_here g.S.Source.left g.S.Source.faults c.args.traces.now (lanes_may_go_on (first_group c.args.beginning.controls) 0 c.args.traces.now c.requires.may.lanes_of)

pub returns-in_err-site-clause-safe : goal.returns-in_err-site-clause-safe
returns-in_err-site-clause-safe g c told =
    let b = c.args.beginning in
    let e = c.in_err-site.field-0.0 in
    subst (λ (r : Result SiteState Stop). IsSafeStart b.session b.level b.at.0 (g.P.Plant.state c.args.plant.now) (g.P.Plant.state c.format.new.plant) r)
    (c.in_err-site.was ∙ sym (given_on c.from_residual.result e c.from_residual.ensures)) (c.format.ensures.safe told)

pub returns-in_err-site-clause-works : goal.returns-in_err-site-clause-works
returns-in_err-site-clause-works g c =
    let e = c.in_err-site.field-0.0 in
    subst (λ (r : Result SiteState Stop). IsWorkOfStart g.P.Plant.tells (g.P.Plant.state c.args.plant.now) (g.P.Plant.state c.format.new.plant) r)
    (c.in_err-site.was ∙ sym (given_on c.from_residual.result e c.from_residual.ensures)) c.format.ensures.works

pub returns-in_err-site-clause-stands : goal.returns-in_err-site-clause-stands
returns-in_err-site-clause-stands g c told began = IfOk-from_err c.from_residual.result _ c.from_residual.ensures.0

pub returns-in_err-site-clause-broke : goal.returns-in_err-site-clause-broke
returns-in_err-site-clause-broke g c = IfOk-from_err c.from_residual.result _ c.from_residual.ensures.0

pub returns-in_err-site-clause-same : goal.returns-in_err-site-clause-same
returns-in_err-site-clause-same g c = IfOk-from_err c.from_residual.result _ c.from_residual.ensures.0

-- ---- the first epoch

pub bring_to-requires-clause-ready : goal.bring_to-requires-clause-ready
bring_to-requires-clause-ready g c κs within =
    let b = c.args.beginning in
    let mid = g.P.Plant.state c.format.new.plant in
    let site = c.in_ok-site.site in
    subst (λ (o : Option Group). IsSomeAnd o (IsReadyForEpoch g.P.Plant.tells c.args.traces.now site mid)) (sym c.requires.may.fresh)
    (ready_at_start g.P.Plant.tells b.controls (g.P.Plant.state c.args.plant.now).volumes b.session b.level b.at c.args.traces.now c.format.new.names site mid c.requires.may.few.0 c.requires.may.few.1 c.in_ok-site.ensures.site c.in_ok-site.ensures.may
    c.requires.may.lanes_of)

pub bring_to-requires-clause-later : goal.bring_to-requires-clause-later
bring_to-requires-clause-later g c κs within =
    let time = ap (λ (s : SiteState). s.time) c.in_ok-site.ensures.site in
    (c.requires.may.time, omega (arith, time))

pub bring_to-requires-clause-goes_on : goal.bring_to-requires-clause-goes_on
bring_to-requires-clause-goes_on g c κs within = ap (λ (s : SiteState). s.mark.ended) c.in_ok-site.ensures.site

-- The epoch leaves at every moment just the session that starts.
means : (g : given.Over) (c : After-bring_to g) → g.P.Plant.tells
    → AtEveryMoment (MeansStart c.args.beginning.session c.args.beginning.level c.args.beginning.at.0 (g.P.Plant.state c.format.new.plant)) (g.P.Plant.state c.format.new.plant) (g.P.Plant.state c.bring_to.new.plant)
means g c told =
    let b = c.args.beginning in
    let mid = g.P.Plant.state c.format.new.plant in
    let new = g.P.Plant.state c.bring_to.new.plant in
    let is = c.in_ok-site.ensures.site in
    subst (λ (s : SiteState). AtEveryMoment (MeansStart s.table.session s.level b.at.0 mid) mid new) is (c.bring_to.ensures.starts told (ap (λ (s : SiteState). s.told) is) (ap (λ (s : SiteState). s.time) is))

means_now : (g : given.Over) (c : After-bring_to g) → g.P.Plant.tells → AtNow (MeansStart c.args.beginning.session c.args.beginning.level c.args.beginning.at.0 (g.P.Plant.state c.args.plant.now)) (g.P.Plant.state c.bring_to.new.plant)
means_now g c told choice left =
    let b = c.args.beginning in
    let new = g.P.Plant.state c.bring_to.new.plant in
    start_before b.session b.level b.at.0 (g.P.Plant.state c.args.plant.now) (g.P.Plant.state c.format.new.plant) choice c.format.ensures.works.site
    (means g c told new.clock ((c.bring_to.ensures.works.works.elapses told).kept Control).later (omega arith) choice left)

-- So it is safe throughout.
safe : (g : given.Over) (c : After-bring_to g) → g.P.Plant.tells → IsSafeThroughout c.args.beginning.session c.args.beginning.level c.args.beginning.at.0 (g.P.Plant.state c.args.plant.now) (g.P.Plant.state c.bring_to.new.plant)
safe g c told =
    let b = c.args.beginning in
    let old = g.P.Plant.state c.args.plant.now in
    let mid = g.P.Plant.state c.format.new.plant in
    let new = g.P.Plant.state c.bring_to.new.plant in
    let works = c.format.ensures.works in
    let then = c.bring_to.ensures.works.works in
    safe_then b.session b.level b.at.0 old mid new ((works.elapses told).kept Control).later works.site then.site (then.elapses told) (mid.bytes, reads_choice mid works.home (λ d there. g.met.P.Plant.read_is_image c.format.new.plant d told there)) (c.format.ensures.safe told).safe
    (means g c told)

-- ---- it wasn't brought there

pub returns-in_err-bring_to-clause-site : goal.returns-in_err-bring_to-clause-site
returns-in_err-bring_to-clause-site g c = IfOk-from_err c.from_residual-in_err-bring_to.result _ c.from_residual-in_err-bring_to.ensures.0

pub returns-in_err-bring_to-clause-names : goal.returns-in_err-bring_to-clause-names
returns-in_err-bring_to-clause-names g c told = IfOk-from_err c.from_residual-in_err-bring_to.result _ c.from_residual-in_err-bring_to.ensures.0

pub returns-in_err-bring_to-clause-primaries : goal.returns-in_err-bring_to-clause-primaries
returns-in_err-bring_to-clause-primaries g c = IfOk-from_err c.from_residual-in_err-bring_to.result _ c.from_residual-in_err-bring_to.ensures.0

pub returns-in_err-bring_to-clause-went : goal.returns-in_err-bring_to-clause-went
returns-in_err-bring_to-clause-went g c = c.bring_to.ensures.went

pub returns-in_err-bring_to-clause-safe : goal.returns-in_err-bring_to-clause-safe
returns-in_err-bring_to-clause-safe g c told =
    let at = (goal.at.returns-in_err-bring_to-clause-safe g c).After-bring_to in
    record { safe = safe g at told; spent = λ is. means_now g at told; formats = IfOk-from_err c.from_residual-in_err-bring_to.result _ c.from_residual-in_err-bring_to.ensures.0 }

pub returns-in_err-bring_to-clause-works : goal.returns-in_err-bring_to-clause-works
returns-in_err-bring_to-clause-works g c =
    let b = c.args.beginning in
    let old = g.P.Plant.state c.args.plant.now in
    let mid = g.P.Plant.state c.format.new.plant in
    let new = g.P.Plant.state c.bring_to.new.plant in
    let site = c.in_ok-site.site in
    let e = c.in_err-bring_to.field-0.0 in
    let r : Result (Unit {0}) Stop = Err e in
    let end : Result SiteState Stop = Err e in
    let unworked = none_worked b.controls old.volumes b.session b.level b.at site c.in_ok-site.ensures.site in
    subst (λ (x : Result SiteState Stop). IsWorkOfStart g.P.Plant.tells old new x) (sym (given_on c.from_residual-in_err-bring_to.result e c.from_residual-in_err-bring_to.ensures))
    (works_then g.P.Plant.tells site c.bring_to.new.site old mid new site r end unworked (λ s is. err_as {T = SiteState} {U = Unit {0}} e s is) (λ s is. err_as {T = Unit {0}} {U = SiteState} e s is) c.in_ok-site.ensures.works c.in_err-bring_to.ensures.works c.in_err-bring_to.ensures.works.cause)

pub returns-in_err-bring_to-clause-stands : goal.returns-in_err-bring_to-clause-stands
returns-in_err-bring_to-clause-stands g c told began = IfOk-from_err c.from_residual-in_err-bring_to.result _ c.from_residual-in_err-bring_to.ensures.0

pub returns-in_err-bring_to-clause-broke : goal.returns-in_err-bring_to-clause-broke
returns-in_err-bring_to-clause-broke g c = IfOk-from_err c.from_residual-in_err-bring_to.result _ c.from_residual-in_err-bring_to.ensures.0

pub returns-in_err-bring_to-clause-same : goal.returns-in_err-bring_to-clause-same
returns-in_err-bring_to-clause-same g c = IfOk-from_err c.from_residual-in_err-bring_to.result _ c.from_residual-in_err-bring_to.ensures.0

-- ---- it has started

pub same-site : goal.same-site
same-site g c = refl

pub returns-clause-site : goal.returns-clause-site
returns-clause-site g c =
    let b = c.args.beginning in
    let mid = g.P.Plant.state c.format.new.plant in
    let new = g.P.Plant.state c.bring_to.new.plant in
    let there = c.in_ok-bring_to.ensures in
    site_started g.P.Plant.tells b.controls (g.P.Plant.state c.args.plant.now).volumes b.session b.level b.at c.bring_to.new.traces c.format.new.names c.bring_to.new.self.names c.bring_to.new.self.group c.in_ok-site.site c.bring_to.new.site mid new c.in_ok-site.ensures.site
    c.in_ok-site.ensures.may (c.in_ok-site.ensures.others.1 ∙ c.requires.may.broken) c.bring_to.ensures.works.works.site there.site there.ready there.cut there.names

pub returns-clause-names : goal.returns-clause-names
returns-clause-names g c told =
    let b = c.args.beginning in
    let old = g.P.Plant.state c.args.plant.now in
    let mid = g.P.Plant.state c.format.new.plant in
    let new = g.P.Plant.state c.bring_to.new.plant in
    let alone = broken_alone c.bring_to.new.traces c.format.new.names in
    let unworked = none_worked b.controls old.volumes b.session b.level b.at c.in_ok-site.site c.in_ok-site.ensures.site in
    subst (AreLabelsRead old new) (sym (ap (λ (n : Naming). n.labels) c.in_ok-bring_to.ensures.names ∙ alone.1))
    (read_still old mid new c.format.new.names.labels (λ d. c.format.ensures.works.counts.later (Volume d)) (λ d. c.bring_to.ensures.works.works.others_faults (Volume d) (unworked d)) (c.in_ok-site.ensures.labels told))

pub returns-clause-primaries : goal.returns-clause-primaries
returns-clause-primaries g c =
    let alone = broken_alone c.bring_to.new.traces c.format.new.names in
    ap (λ (n : Naming). n.primaries) c.in_ok-bring_to.ensures.names ∙ alone.0 ∙ c.in_ok-site.ensures.others.0

pub returns-clause-went : goal.returns-clause-went
returns-clause-went g c = c.bring_to.ensures.went

pub returns-clause-safe : goal.returns-clause-safe
returns-clause-safe g c told =
    let at = (goal.at.returns-clause-safe g c).After-bring_to in
    let b = c.args.beginning in
    let old = g.P.Plant.state c.args.plant.now in
    let mid = g.P.Plant.state c.format.new.plant in
    let new = g.P.Plant.state c.bring_to.new.plant in
    let then = c.bring_to.ensures.works.works in
    record {
      safe = safe g at told;
      spent = λ is. means_now g at told;
      formats = λ up durable.
          formats_on b.session b.level b.at.0 old mid new mid.clock new.clock then.site (then.elapses told) (omega (arith, up, ((c.format.ensures.works.elapses told).kept Control).later)) (omega arith) ((then.elapses told).kept Control).later
          ((c.in_ok-site.ensures.safe told).formats up durable);
    }

pub returns-clause-works : goal.returns-clause-works
returns-clause-works g c =
    let b = c.args.beginning in
    let old = g.P.Plant.state c.args.plant.now in
    let mid = g.P.Plant.state c.format.new.plant in
    let new = g.P.Plant.state c.bring_to.new.plant in
    let site = c.in_ok-site.site in
    let r : Result (Unit {0}) Stop = Ok tt in
    let end : Result SiteState Stop = Ok c.bring_to.new.site in
    let unworked = none_worked b.controls old.volumes b.session b.level b.at site c.in_ok-site.ensures.site in
    works_then g.P.Plant.tells site c.bring_to.new.site old mid new site r end unworked (λ s is. absurd (cc is)) (λ s is. absurd (cc is)) c.in_ok-site.ensures.works c.in_ok-bring_to.ensures.works tt

pub returns-clause-stands : goal.returns-clause-stands
returns-clause-stands g c told began =
    let b = c.args.beginning in
    let old = g.P.Plant.state c.args.plant.now in
    let mid = g.P.Plant.state c.format.new.plant in
    let new = g.P.Plant.state c.bring_to.new.plant in
    let works = c.format.ensures.works in
    starts_runs g.P.Plant.tells told g.S.Source.left b.controls old.volumes b.session b.level b.at c.args.traces.now c.bring_to.new.traces (record c.args.self.now { names = c.format.new.names }) c.bring_to.new.self c.in_ok-site.site c.bring_to.new.site
    (g.P.Plant.state began) old mid new c.requires.may.few.0 c.requires.may.few.1 c.requires.may.time c.in_ok-site.ensures.site (c.in_ok-site.ensures.stands told) c.format.new.names c.in_ok-site.ensures.may c.requires.may.fresh c.requires.may.lanes_of
    (λ d. works.counts.later (Volume d)) c.in_ok-bring_to.ensures.site (c.in_ok-bring_to.ensures.brings told began) (λ d there. g.met.P.Plant.read_is_image c.format.new.plant d told there)

pub returns-clause-broke : goal.returns-clause-broke
returns-clause-broke g c = c.in_ok-bring_to.ensures.broke

pub returns-clause-same : goal.returns-clause-same
returns-clause-same g c = c.in_ok-bring_to.ensures.same
