-- A site is formatted, and the labels are read.
use Rattle.std.proofs.Common.{◌≡◌, ◌∙◌, Result, Err, refl, sym, subst, arith}
use Rattle.std.proofs.lemmas.Result.{IfOk-from_err}
use Rattle.applier.proofs.Works.{lent_of_works, none_lent_lent}
use Rattle.site_store.specs.Formats.{IsFormatted}
use Rattle.site_store.specs.Sites.{SiteState}
use Rattle.xrc_status.specs.declared.stop.Stop.{Stop}
use Rattle.xrc_status.specs.declared.stop.Stop.TheVariants as stops
use Rattle.xrc_session.specs.Starting.{IsWorkOfStart}
use Rattle.xrc_session.proofs.Formatted.{format_stops, format_unspent, formats_new, labels_of_start, may_command, safe_new, shuts_or_starts, stands_still, store_of_format, work_goes_on, work_without}
use Rattle.xrc_session.proofs.Numbered.{given_on}
use Rattle.xrc_session.proofs.starting.format.Goals as goal

pub format-requires-clause-time : goal.format-requires-clause-time
format-requires-clause-time g c κs within = c.requires.time

pub format-requires-clause-controls : goal.format-requires-clause-controls
format-requires-clause-controls g c κs within = c.requires.controls

pub format-requires-clause-home : goal.format-requires-clause-home
format-requires-clause-home g c κs within = c.requires.home

pub format-requires-clause-lengths : goal.format-requires-clause-lengths
format-requires-clause-lengths g c κs within = c.requires.lengths

-- ---- the site wasn't formatted

pub stop_of_store-requires : goal.stop_of_store-requires
stop_of_store-requires g c d fault = store_of_format (g.P.Plant.state c.args.plant.now) (g.P.Plant.state c.format.new.plant) c.format.result c.in-Err.error c.in-Err.is c.format.ensures.cause d fault

pub returns-in-Err-clause-safe : goal.returns-in-Err-clause-safe
returns-in-Err-clause-safe g c told =
    let b = c.args.beginning in
    let old = g.P.Plant.state c.args.plant.now in
    let new = g.P.Plant.state c.format.new.plant in
    record {
      safe = shuts_or_starts b.session b.level b.at g.P.Plant.tells told old new c.format.ensures.others (c.format.ensures.moments told);
      spent = λ is. let stop : c.stop_of_store.result ≡ stops.Spent = cc is in absurd (format_unspent old new c.format.result c.in-Err.error c.in-Err.is c.format.ensures.cause (sym c.stop_of_store.ensures ∙ stop));
      formats = tt;
    }

pub returns-in-Err-clause-works : goal.returns-in-Err-clause-works
returns-in-Err-clause-works g c =
    let old = g.P.Plant.state c.args.plant.now in
    let new = g.P.Plant.state c.format.new.plant in
    subst (λ (s : Stop). let r : Result SiteState Stop = Err s in IsWorkOfStart g.P.Plant.tells old new r) (sym c.stop_of_store.ensures)
    (format_stops g.P.Plant.tells old new c.format.result c.in-Err.error c.in-Err.is c.requires.home c.format.ensures.others c.format.ensures.cause)

-- ---- the labels

pub name_devices-requires-clause-home : goal.name_devices-requires-clause-home
name_devices-requires-clause-home g c κs within =
    let old = g.P.Plant.state c.args.plant.now in
    let mid = g.P.Plant.state c.format.new.plant in
    none_lent_lent g.P.Plant.tells IsFormatted old mid (lent_of_works g.P.Plant.tells IsFormatted old mid c.format.ensures.others) c.requires.home

pub name_devices-requires-clause-few : goal.name_devices-requires-clause-few
name_devices-requires-clause-few g c κs within =
    let same = c.format.ensures.others.site.volumes in
    let few = c.requires.lengths.volumes in
    omega (arith, same, few)

pub name_devices-requires-clause-none : goal.name_devices-requires-clause-none
name_devices-requires-clause-none g c κs within = c.requires.unlabelled

-- ---- there is no memory for them

pub returns-in_err-name_devices-clause-site : goal.returns-in_err-name_devices-clause-site
returns-in_err-name_devices-clause-site g c = IfOk-from_err c.from_residual.result _ c.from_residual.ensures.0

pub returns-in_err-name_devices-clause-may : goal.returns-in_err-name_devices-clause-may
returns-in_err-name_devices-clause-may g c = IfOk-from_err c.from_residual.result _ c.from_residual.ensures.0

pub returns-in_err-name_devices-clause-labels : goal.returns-in_err-name_devices-clause-labels
returns-in_err-name_devices-clause-labels g c told = IfOk-from_err c.from_residual.result _ c.from_residual.ensures.0

pub returns-in_err-name_devices-clause-others : goal.returns-in_err-name_devices-clause-others
returns-in_err-name_devices-clause-others g c = IfOk-from_err c.from_residual.result _ c.from_residual.ensures.0

pub returns-in_err-name_devices-clause-stands : goal.returns-in_err-name_devices-clause-stands
returns-in_err-name_devices-clause-stands g c told = IfOk-from_err c.from_residual.result _ c.from_residual.ensures.0

pub returns-in_err-name_devices-clause-safe : goal.returns-in_err-name_devices-clause-safe
returns-in_err-name_devices-clause-safe g c told =
    let b = c.args.beginning in
    record {
      safe = safe_new g.P.Plant.tells b.session b.level b.controls b.at (g.P.Plant.state c.args.plant.now) (g.P.Plant.state c.format.new.plant) (g.P.Plant.state c.name_devices.new.plant) c.requires.home c.format.ensures.others c.name_devices.ensures.only c.name_devices.ensures.stay told
          (c.format.ensures.moments told);
      spent = λ is. let clash = sym (given_on c.from_residual.result stops.NoMemory c.from_residual.ensures) ∙ is in absurd (cc clash);
      formats = IfOk-from_err c.from_residual.result _ c.from_residual.ensures.0;
    }

pub returns-in_err-name_devices-clause-works : goal.returns-in_err-name_devices-clause-works
returns-in_err-name_devices-clause-works g c =
    let b = c.args.beginning in
    let old = g.P.Plant.state c.args.plant.now in
    let new = g.P.Plant.state c.name_devices.new.plant in
    subst (λ (r : Result SiteState Stop). IsWorkOfStart g.P.Plant.tells old new r) (sym (given_on c.from_residual.result stops.NoMemory c.from_residual.ensures))
    (work_without g.P.Plant.tells b.session b.level b.controls b.at old (g.P.Plant.state c.format.new.plant) new c.requires.home c.format.ensures.others c.name_devices.ensures.only c.name_devices.ensures.stay (λ d. c.in-Ok.ensures.cause.others d (λ no. cc no)))

-- ---- both were done

pub same-site : goal.same-site
same-site g c = refl

pub returns-clause-site : goal.returns-clause-site
returns-clause-site g c = c.in-Ok.ensures.ok

pub returns-clause-may : goal.returns-clause-may
returns-clause-may g c =
    let b = c.args.beginning in
    may_command g.P.Plant.tells b.session b.level b.controls b.at (g.P.Plant.state c.args.plant.now) (g.P.Plant.state c.format.new.plant) (g.P.Plant.state c.name_devices.new.plant) c.requires.home c.format.ensures.others c.name_devices.ensures.only c.name_devices.ensures.stay
    c.name_devices.new.names c.in-Ok.site c.in-Ok.ensures.ok c.in-Ok.ensures.fits (λ told. c.in-Ok.ensures.stands told) c.name_devices.ensures.fit

pub returns-clause-labels : goal.returns-clause-labels
returns-clause-labels g c told =
    let b = c.args.beginning in
    labels_of_start g.P.Plant.tells b.session b.level b.controls b.at (g.P.Plant.state c.args.plant.now) (g.P.Plant.state c.format.new.plant) (g.P.Plant.state c.name_devices.new.plant) c.requires.home c.format.ensures.others c.name_devices.ensures.only
    c.name_devices.ensures.stay told c.name_devices.new.names.labels (c.in_ok-name_devices.ensures.labels told)

pub returns-clause-others : goal.returns-clause-others
returns-clause-others g c = c.in_ok-name_devices.ensures.others

pub returns-clause-stands : goal.returns-clause-stands
returns-clause-stands g c told =
    let b = c.args.beginning in
    stands_still g.P.Plant.tells b.session b.level b.controls b.at (g.P.Plant.state c.args.plant.now) (g.P.Plant.state c.format.new.plant) (g.P.Plant.state c.name_devices.new.plant) c.requires.home c.format.ensures.others c.name_devices.ensures.only c.name_devices.ensures.stay
    told c.in-Ok.site (c.in-Ok.ensures.stands told)

pub returns-clause-safe : goal.returns-clause-safe
returns-clause-safe g c told =
    let b = c.args.beginning in
    record {
      safe = safe_new g.P.Plant.tells b.session b.level b.controls b.at (g.P.Plant.state c.args.plant.now) (g.P.Plant.state c.format.new.plant) (g.P.Plant.state c.name_devices.new.plant) c.requires.home c.format.ensures.others c.name_devices.ensures.only c.name_devices.ensures.stay told
          (c.format.ensures.moments told);
      spent = λ is. absurd (cc is);
      formats = formats_new g.P.Plant.tells b.session b.level b.controls b.at (g.P.Plant.state c.args.plant.now) (g.P.Plant.state c.format.new.plant) (g.P.Plant.state c.name_devices.new.plant) c.requires.home c.format.ensures.others c.name_devices.ensures.only c.name_devices.ensures.stay told
          (c.format.ensures.moments told) c.in-Ok.site c.in-Ok.ensures.ok (c.in-Ok.ensures.stands told);
    }

pub returns-clause-works : goal.returns-clause-works
returns-clause-works g c =
    let b = c.args.beginning in
    work_goes_on g.P.Plant.tells b.session b.level b.controls b.at (g.P.Plant.state c.args.plant.now) (g.P.Plant.state c.format.new.plant) (g.P.Plant.state c.name_devices.new.plant) c.requires.home c.format.ensures.others c.name_devices.ensures.only c.name_devices.ensures.stay
    c.in-Ok.site (λ d. c.in-Ok.ensures.cause.others d (λ no. cc no))
