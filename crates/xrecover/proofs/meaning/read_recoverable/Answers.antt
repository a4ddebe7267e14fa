use Rattle.std.proofs.Common.{◌≡◌, ◌∙◌, inr, refl, Result, Err, rules, ap, sym, subst}
use Rattle.site_means.specs.declared.reading.SiteReading.{SiteReading}
use Rattle.crash_plant.specs.declared.device.Device.TheVariants.{Volume}
use Rattle.site_means.specs.declared.site_error.SiteError.{SiteError}
use Rattle.site_means.specs.declared.site_error.SiteError.TheVariants.{TooSmall}
use Rattle.site_means.specs.Answers.{IsRead}
use Rattle.xrecover.specs.declared.recover_error.RecoverError.{RecoverError}
use Rattle.xrecover.specs.declared.recover_error.RecoverError.TheVariants.{Site}
use Rattle.xrecover.specs.Answers.{FailsSo, IsGoodOrCalledFor, IsMeant, IsRecoverable}
use Rattle.xrecover.specs.Sights.{TellsDurable}
use Rattle.xrecover.proofs.Fails.{so_good, so_none}
use Rattle.xrecover.proofs.Meant.{called_as, durable_as, first_examined, recoverable, too_small}
use Rattle.xrecover.proofs.meaning.read_recoverable.Goals as goal

pub returns-in_err-reading-clause-says : goal.returns-in_err-reading-clause-says
returns-in_err-reading-clause-says g c = λ told.
    let old = g.P.Plant.state c.args.plant.now in
    let e = c.in_err-reading.field-0.0 in
    let is : c.from_residual.result ≡ Err e = search rules in
    subst (λ (r : Result SiteReading RecoverError). IsGoodOrCalledFor old c.args.session (λ reading. IsRecoverable old c.args.session reading.means × IsRead old reading) r) (sym is)
    (called_as {X = SiteReading} {Y = SiteReading} old c.args.session (λ reading. IsMeant old c.args.session reading.means × IsRead old reading) (λ reading. IsRecoverable old c.args.session reading.means × IsRead old reading) e (c.in_err-reading.ensures.says told))

pub returns-in_err-reading-clause-durable : goal.returns-in_err-reading-clause-durable
returns-in_err-reading-clause-durable g c = λ told.
    let old = g.P.Plant.state c.args.plant.now in
    let one = g.P.Plant.state c.read_session.new.plant in
    let e = c.in_err-reading.field-0.0 in
    let is : c.from_residual.result ≡ Err e = search rules in
    subst (λ (r : Result SiteReading RecoverError). TellsDurable old one r) (sym is) (durable_as SiteReading SiteReading old one e (c.in_err-reading.ensures.durable told refl))

pub returns-in_err-check_volumes-clause-says : goal.returns-in_err-check_volumes-clause-says
returns-in_err-check_volumes-clause-says g c = λ told.
    let old = g.P.Plant.state c.args.plant.now in
    let one = g.P.Plant.state c.read_session.new.plant in
    let small = c.in_err-check_volumes.ensures.error c.in_err-check_volumes.field-0.0 (λ i. Err c.in_err-check_volumes.field-0.0) in
    let is : c.from_residual-in_err-check_volumes.result ≡ Err (Site c.in_err-check_volumes.field-0.0) = search rules in
    subst (λ (r : Result SiteReading RecoverError). IsGoodOrCalledFor old c.args.session (λ reading. IsRecoverable old c.args.session reading.means × IsRead old reading) r) (sym (is ∙ ap (λ (e : SiteError). Err (Site e)) small.2))
    (inr (too_small old one c.read_session.ensures.reads.only.site c.args.session c.in_ok-reading.reading.means (c.in_ok-reading.ensures.says told).0 small.0 small.1))

pub returns-in_err-check_volumes-clause-durable : goal.returns-in_err-check_volumes-clause-durable
returns-in_err-check_volumes-clause-durable g c = λ told.
    let old = g.P.Plant.state c.args.plant.now in
    let one = g.P.Plant.state c.read_session.new.plant in
    let small = c.in_err-check_volumes.ensures.error c.in_err-check_volumes.field-0.0 (λ i. Err c.in_err-check_volumes.field-0.0) in
    let is : c.from_residual-in_err-check_volumes.result ≡ Err (Site c.in_err-check_volumes.field-0.0) = search rules in
    subst (λ (r : Result SiteReading RecoverError). TellsDurable old one r) (sym (is ∙ ap (λ (e : SiteError). Err (Site e)) small.2)) tt

pub returns-in_err-reading-clause-small : goal.returns-in_err-reading-clause-small
returns-in_err-reading-clause-small g c = λ told v needed same.
    let e = c.in_err-reading.field-0.0 in
    let is : e ≡ Site (TooSmall (Volume v) needed) = search rules in
    absurd (first_examined (g.P.Plant.state c.args.plant.now) (Volume v) (c.in_err-reading.ensures.small (Volume v) needed (ap (λ (k : RecoverError). Err k) is)))

pub returns-in_err-check_volumes-clause-small : goal.returns-in_err-check_volumes-clause-small
returns-in_err-check_volumes-clause-small g c = λ told v needed same. c.in_ok-reading.ensures.durable told refl

pub returns-in_err-check_volumes-clause-fails : goal.returns-in_err-check_volumes-clause-fails
returns-in_err-check_volumes-clause-fails g c =
    let old = g.P.Plant.state c.args.plant.now in
    let one = g.P.Plant.state c.read_session.new.plant in
    let small = c.in_err-check_volumes.ensures.error c.in_err-check_volumes.field-0.0 (λ i. Err c.in_err-check_volumes.field-0.0) in
    let is : c.from_residual-in_err-check_volumes.result ≡ Err (Site c.in_err-check_volumes.field-0.0) = search rules in
    subst (λ (r : Result SiteReading RecoverError). FailsSo old.faults one.faults r) (sym (is ∙ ap (λ (e : SiteError). Err (Site e)) small.2))
    (so_none old.faults one.faults _ (so_good old.faults one.faults c.in_ok-reading.reading c.in_ok-reading.ensures.fails) (λ d e. cc))

pub returns-clause-says : goal.returns-clause-says
returns-clause-says g c = λ told.
    let old = g.P.Plant.state c.args.plant.now in
    let one = g.P.Plant.state c.read_session.new.plant in
    let meant = c.in_ok-reading.ensures.says told in
    (recoverable old one c.read_session.ensures.reads.only.site c.args.session c.in_ok-reading.reading.means meant.0 c.in_ok-check_volumes.ensures.ok, meant.1)
