use Rattle.std.proofs.Common.{◌≡◌, Result, Err, rules, sym, subst}
use Rattle.site_means.specs.declared.means.Means.{Means}
use Rattle.site_means.specs.declared.reading.SiteReading.{SiteReading}
use Rattle.site_means.specs.Answers.{IsRead}
use Rattle.xrecover.specs.declared.recover_error.RecoverError.{RecoverError}
use Rattle.xrecover.specs.Answers.{IsGoodOrCalledFor, IsMeant}
use Rattle.xrecover.proofs.Meant.{called_as}
use Rattle.xrecover.proofs.meaning.examine_session.Goals as goal

pub returns-in_err-reading-clause-says : goal.returns-in_err-reading-clause-says
returns-in_err-reading-clause-says g c = λ told.
    let old = g.P.Plant.state c.args.plant.now in
    let e = c.in_err-reading.field-0.0 in
    let is : c.from_residual.result ≡ Err e = search rules in
    subst (λ (r : Result Means RecoverError). IsGoodOrCalledFor old c.args.session (λ means. IsMeant old c.args.session means) r) (sym is)
    (called_as {X = SiteReading} {Y = Means} old c.args.session (λ reading. IsMeant old c.args.session reading.means × IsRead old reading) (λ means. IsMeant old c.args.session means) e (c.in_err-reading.ensures.says told))
