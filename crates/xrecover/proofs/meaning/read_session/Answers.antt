use Rattle.std.proofs.Common.{◌≡◌, Result, Err, rules, ap, sym, subst}
use Rattle.control_set.specs.declared.value.Mark.{Mark}
use Rattle.site_means.specs.declared.reading.SiteReading.{SiteReading}
use Rattle.site_means.specs.declared.site_error.SiteError.TheVariants.{Fault, TooSmall}
use Rattle.crash_plant.specs.declared.device.Device.{Device}
use Rattle.site_means.specs.Answers.{IsStore}
use Rattle.site_means.specs.Answers.{IsChosen, IsRead}
use Rattle.site_means.proofs.ReadAll.{reads_then}
use Rattle.xrecover.specs.declared.recover_error.RecoverError.{RecoverError}
use Rattle.xrecover.specs.declared.recover_error.RecoverError.TheVariants.{Site}
use Rattle.xrecover.specs.Answers.{IsGoodOrCalledFor, IsMeant}
use Rattle.xrecover.specs.Sights.{TellsDurable}
use Rattle.xrecover.proofs.Meant.{called_as, chosen_later, mark_durable, means_says, means_session, session_durable, walk_durable}
use Rattle.xrecover.proofs.meaning.read_session.Goals as goal

pub returns-in_err-mark-clause-says : goal.returns-in_err-mark-clause-says
returns-in_err-mark-clause-says g c = λ told.
    let old = g.P.Plant.state c.args.plant.now in
    let e = c.in_err-mark.field-0.0 in
    let is : c.from_residual-in_err-mark.result ≡ Err e = search rules in
    subst (λ (r : Result SiteReading RecoverError). IsGoodOrCalledFor old c.args.session (λ reading. IsMeant old c.args.session reading.means × IsRead old reading) r) (sym is)
    (called_as {X = Mark} {Y = SiteReading} old c.args.session (λ mark. IsChosen old mark) (λ reading. IsMeant old c.args.session reading.means × IsRead old reading) e (c.in_err-mark.ensures.says told))

pub returns-in_err-mark-clause-durable : goal.returns-in_err-mark-clause-durable
returns-in_err-mark-clause-durable g c = λ told synced.
    let old = g.P.Plant.state c.args.plant.now in
    let new = g.P.Plant.state c.read_own_mark.new.plant in
    let e = c.in_err-mark.field-0.0 in
    let is : c.from_residual-in_err-mark.result ≡ Err e = search rules in
    subst (λ (r : Result SiteReading RecoverError). TellsDurable old new r) (sym is)
    (mark_durable old new Mark SiteReading c.args.session (λ mark. IsChosen old mark) e (λ k same. c.in_err-mark.ensures.wrong k (ap (λ (f : RecoverError). Err f) same)) (λ none. c.in_err-mark.ensures.durable told synced (λ fault. none cc)) (c.in_err-mark.ensures.says told))

pub returns-in_err-reading-clause-reads : goal.returns-in_err-reading-clause-reads
returns-in_err-reading-clause-reads g c = reads_then g.P.Plant.tells _ _ _ c.read_own_mark.ensures.reads c.read_from_mark.ensures.others

pub returns-clause-reads : goal.returns-clause-reads
returns-clause-reads g c = reads_then g.P.Plant.tells _ _ _ c.read_own_mark.ensures.reads c.read_from_mark.ensures.others

pub returns-in_err-reading-clause-says : goal.returns-in_err-reading-clause-says
returns-in_err-reading-clause-says g c = λ told.
    let old = g.P.Plant.state c.args.plant.now in
    let one = g.P.Plant.state c.read_own_mark.new.plant in
    let m = c.in_ok-mark.mark in
    let e = c.in_err-reading.field-0.0 in
    let chosen = c.in_ok-mark.ensures.says told in
    let later = chosen_later g.P.Plant.tells told old one c.read_own_mark.ensures.reads m c.args.session chosen c.in_ok-mark.ensures.same in
    let is : c.from_residual-in_err-reading.result ≡ Err (Site e) = search rules in
    subst (λ (r : Result SiteReading RecoverError). IsGoodOrCalledFor old c.args.session (λ reading. IsMeant old c.args.session reading.means × IsRead old reading) r) (sym is)
    (means_says g.P.Plant.tells told old one c.read_own_mark.ensures.reads m c.args.session chosen c.in_ok-mark.ensures.same {X = SiteReading} (λ reading. IsMeant old c.args.session reading.means × IsRead old reading) e
    (c.in_err-reading.ensures.says told later) (c.in_err-reading.ensures.reached told later) c.in_err-reading.ensures.short)

pub returns-in_err-reading-clause-durable : goal.returns-in_err-reading-clause-durable
returns-in_err-reading-clause-durable g c = λ told synced.
    let old = g.P.Plant.state c.args.plant.now in
    let one = g.P.Plant.state c.read_own_mark.new.plant in
    let new = g.P.Plant.state c.read_from_mark.new.plant in
    let m = c.in_ok-mark.mark in
    let e = c.in_err-reading.field-0.0 in
    let later = chosen_later g.P.Plant.tells told old one c.read_own_mark.ensures.reads m c.args.session (c.in_ok-mark.ensures.says told) c.in_ok-mark.ensures.same in
    let is : c.from_residual-in_err-reading.result ≡ Err (Site e) = search rules in
    subst (λ (r : Result SiteReading RecoverError). TellsDurable old new r) (sym is)
    (walk_durable g.P.Plant.tells told old one new c.read_own_mark.ensures.reads c.read_from_mark.ensures.others (c.in_ok-mark.ensures.durable told synced (λ fault. cc)) SiteReading SiteReading e (c.in_err-reading.ensures.durable told synced later))

pub returns-clause-says : goal.returns-clause-says
returns-clause-says g c = λ told.
    let old = g.P.Plant.state c.args.plant.now in
    let one = g.P.Plant.state c.read_own_mark.new.plant in
    let m = c.in_ok-mark.mark in
    let chosen = c.in_ok-mark.ensures.says told in
    let later = chosen_later g.P.Plant.tells told old one c.read_own_mark.ensures.reads m c.args.session chosen c.in_ok-mark.ensures.same in
    means_session g.P.Plant.tells told old one c.read_own_mark.ensures.reads m c.args.session chosen c.in_ok-mark.ensures.same c.in_ok-reading.reading (c.in_ok-reading.ensures.says told later)

pub returns-clause-durable : goal.returns-clause-durable
returns-clause-durable g c = λ told synced.
    let old = g.P.Plant.state c.args.plant.now in
    let one = g.P.Plant.state c.read_own_mark.new.plant in
    let new = g.P.Plant.state c.read_from_mark.new.plant in
    let m = c.in_ok-mark.mark in
    let later = chosen_later g.P.Plant.tells told old one c.read_own_mark.ensures.reads m c.args.session (c.in_ok-mark.ensures.says told) c.in_ok-mark.ensures.same in
    session_durable g.P.Plant.tells told old one new c.read_own_mark.ensures.reads c.read_from_mark.ensures.others (c.in_ok-mark.ensures.durable told synced (λ fault. cc)) (c.in_ok-reading.ensures.durable told synced later)

pub returns-in_err-mark-clause-small : goal.returns-in_err-mark-clause-small
returns-in_err-mark-clause-small g c = λ d needed is.
    let e = c.in_err-mark.field-0.0 in
    let same : e ≡ Site (TooSmall d needed) = search rules in
    absurd (c.in_err-mark.ensures.wrong (TooSmall d needed) (ap (λ (k : RecoverError). Err k) same))

pub returns-in_err-mark-clause-examined : goal.returns-in_err-mark-clause-examined
returns-in_err-mark-clause-examined g c = λ d is.
    let e = c.in_err-mark.field-0.0 in
    let same : e ≡ Site (Fault d) = search rules in
    subst (λ (k : Device). IsStore k) (sym (c.in_err-mark.ensures.wrong (Fault d) (ap (λ (k : RecoverError). Err k) same))) tt
