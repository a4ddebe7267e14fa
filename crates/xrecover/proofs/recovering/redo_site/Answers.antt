use Rattle.std.proofs.Common.{◌≡◌, ◌∙◌, ℕ, List, Result, Err, refl, sym, ap, subst, arith, rules}
use Rattle.std.proofs.lemmas.Result.{err_from_is_err_and}
use Rattle.std.specs.Prelude.{IsErrOf}
use Rattle.crash_plant.specs.declared.device.Device.{Device}
use Rattle.crash_plant.specs.declared.device.Device.TheVariants.{Journal, Volume}
use Rattle.site_means.specs.Sight.{walked}
use Rattle.site_means.proofs.Shorts.{are_long}
use Rattle.xrecover.specs.declared.outcome.Outcome.{Outcome}
use Rattle.site_means.specs.declared.site_error.SiteError.TheVariants.{Fault, NoMemory}
use Rattle.xrecover.specs.declared.recover_error.RecoverError.{RecoverError}
use Rattle.xrecover.specs.declared.recover_error.RecoverError.TheVariants.{Site}
use Rattle.site_means.specs.declared.reading.SiteReading.{SiteReading}
use Rattle.xrecover.specs.Answers.{CountsVolumes, EndsLate, IsRecoverable, IsGoodOrCalledFor, TellsFaults}
use Rattle.xrecover.specs.RedoneVolumes.{Recovers, meant_rows}
use Rattle.xrecover.proofs.Fails.{so_good, tells_again, tells_memory, tells_none, tells_so}
use Rattle.xrecover.proofs.Finish.{all_redone, all_treated, all_works, counts_read, counts_since, ends_late, err_error, lasting_late, lasting_read, late_says, no_writes, rows_are}
use Rattle.xrecover.proofs.Labels.{treats_read}
use Rattle.xrecover.proofs.Meant.{small_same}
use Rattle.xrecover.proofs.Works.{works_reads}
use Rattle.site_means.proofs.Meanings.{same_seen, seen_back, seen_read}
use Rattle.xrecover.specs.Sights.{TellsLasting}
use Rattle.xrecover.proofs.Seen.{end_means, reads_moments, sees_moments}
use Rattle.xrecover.proofs.recovering.redo_site.Goals as goal

pub returns-in_err-reading-clause-moments : goal.returns-in_err-reading-clause-moments
returns-in_err-reading-clause-moments g c = λ told. reads_moments g.P.Plant.tells told (g.P.Plant.state c.args.plant.now) (g.P.Plant.state c.read_recoverable.new.plant) c.read_recoverable.ensures.reads

pub returns-in_err-tools-clause-moments : goal.returns-in_err-tools-clause-moments
returns-in_err-tools-clause-moments g c = λ told. reads_moments g.P.Plant.tells told (g.P.Plant.state c.args.plant.now) (g.P.Plant.state c.read_recoverable.new.plant) c.read_recoverable.ensures.reads

pub redo-requires-clause-long : goal.redo-requires-clause-long
redo-requires-clause-long g c κs within = λ j lt.
    let long = are_long (g.P.Plant.state c.args.plant.now) c.in_ok-reading.ensures.lengths in
    let site = c.read_recoverable.ensures.reads.only.site in
    omega (arith, long.journals j (omega (arith, lt, site.journals)), site.lengths (Journal j))

pub redo-requires-clause-read : goal.redo-requires-clause-read
redo-requires-clause-read g c κs within = λ told.
    let old = g.P.Plant.state c.args.plant.now in
    let one = g.P.Plant.state c.read_recoverable.new.plant in
    seen_read one old (seen_back old one (same_seen g.P.Plant.tells old one c.read_recoverable.ensures.reads told)) c.in_ok-reading.reading (c.in_ok-reading.ensures.says told).1

pub returns-in_err-failed-clause-ok : goal.returns-in_err-failed-clause-ok
returns-in_err-failed-clause-ok g c = λ told.
    let old = g.P.Plant.state c.args.plant.now in
    let one = g.P.Plant.state c.read_recoverable.new.plant in
    let e = c.in_err-failed.field-0.0 in
    let p = err_from_is_err_and c.from_residual-in_err-failed.result c.from_residual-in_err-failed.ensures.1 in
    let is : c.from_residual-in_err-failed.result ≡ Err e = cc (p.1, p.2) in
    subst (λ (r : Result Outcome RecoverError). IsGoodOrCalledFor old c.args.session (λ o. IsRecoverable old c.args.session o.means) r) (sym is)
    (late_says g.P.Plant.tells old one c.read_recoverable.ensures.reads {X = Outcome} c.args.session (λ o. IsRecoverable old c.args.session o.means) told (c.in_ok-reading.ensures.says told).0.meant.of e (c.in_err-failed.ensures.late told e refl))

pub returns-in_err-failed-clause-works : goal.returns-in_err-failed-clause-works
returns-in_err-failed-clause-works g c =
    all_works g.P.Plant.tells (g.P.Plant.state c.args.plant.now) (g.P.Plant.state c.read_recoverable.new.plant) c.read_recoverable.ensures.reads c.args.session c.in_ok-reading.reading.means (λ told. (c.in_ok-reading.ensures.says told).0) (g.P.Plant.state c.redo.new.plant) c.redo.ensures.works

pub returns-in_err-failed-clause-moments : goal.returns-in_err-failed-clause-moments
returns-in_err-failed-clause-moments g c = λ told.
    let old = g.P.Plant.state c.args.plant.now in
    let one = g.P.Plant.state c.read_recoverable.new.plant in
    let new = g.P.Plant.state c.redo.new.plant in
    sees_moments g.P.Plant.tells told c.in_ok-reading.reading.means.table.rows (meant_rows old old.bytes) (walked one one.bytes) old one new c.read_recoverable.ensures.reads (c.in_ok-reading.ensures.durable told) c.redo.ensures.works
    (all_works g.P.Plant.tells old one c.read_recoverable.ensures.reads c.args.session c.in_ok-reading.reading.means (λ told. (c.in_ok-reading.ensures.says told).0) new c.redo.ensures.works)

pub returns-in_err-failed-clause-unwritten : goal.returns-in_err-failed-clause-unwritten
returns-in_err-failed-clause-unwritten g c = λ e is early.
    let old = g.P.Plant.state c.args.plant.now in
    let one = g.P.Plant.state c.read_recoverable.new.plant in
    let new = g.P.Plant.state c.redo.new.plant in
    let k = c.in_err-failed.field-0.0 in
    let same : e ≡ k = search rules in
    no_writes g.P.Plant.tells (Recovers (meant_rows old old.bytes) (walked old old.bytes)) old new
    (λ told. early (subst (λ (x : RecoverError). EndsLate x) (sym same) (ends_late one k (c.in_err-failed.ensures.late told k refl))))
    (all_works g.P.Plant.tells old one c.read_recoverable.ensures.reads c.args.session c.in_ok-reading.reading.means (λ told. (c.in_ok-reading.ensures.says told).0) new c.redo.ensures.works)

pub returns-clause-redone : goal.returns-clause-redone
returns-clause-redone g c = λ told.
    all_redone g.P.Plant.tells (g.P.Plant.state c.args.plant.now) (g.P.Plant.state c.read_recoverable.new.plant) c.read_recoverable.ensures.reads c.args.session c.in_ok-reading.reading.means (λ told. (c.in_ok-reading.ensures.says told).0) (g.P.Plant.state c.redo.new.plant) c.args.labelling told
    c.in_ok-failed.failed (c.in_ok-failed.ensures.redone told)

pub returns-clause-works : goal.returns-clause-works
returns-clause-works g c =
    all_works g.P.Plant.tells (g.P.Plant.state c.args.plant.now) (g.P.Plant.state c.read_recoverable.new.plant) c.read_recoverable.ensures.reads c.args.session c.in_ok-reading.reading.means (λ told. (c.in_ok-reading.ensures.says told).0) (g.P.Plant.state c.redo.new.plant) c.redo.ensures.works

pub returns-clause-moments : goal.returns-clause-moments
returns-clause-moments g c = λ told.
    let old = g.P.Plant.state c.args.plant.now in
    let one = g.P.Plant.state c.read_recoverable.new.plant in
    let new = g.P.Plant.state c.redo.new.plant in
    sees_moments g.P.Plant.tells told c.in_ok-reading.reading.means.table.rows (meant_rows old old.bytes) (walked one one.bytes) old one new c.read_recoverable.ensures.reads (c.in_ok-reading.ensures.durable told) c.redo.ensures.works
    (all_works g.P.Plant.tells old one c.read_recoverable.ensures.reads c.args.session c.in_ok-reading.reading.means (λ told. (c.in_ok-reading.ensures.says told).0) new c.redo.ensures.works)

pub returns-in_err-reading-clause-treats : goal.returns-in_err-reading-clause-treats
returns-in_err-reading-clause-treats g c = λ told.
    let old = g.P.Plant.state c.args.plant.now in
    treats_read g.P.Plant.tells told c.args.labelling (meant_rows old old.bytes) (walked old old.bytes) old (g.P.Plant.state c.read_recoverable.new.plant) c.read_recoverable.ensures.reads

pub returns-in_err-tools-clause-treats : goal.returns-in_err-tools-clause-treats
returns-in_err-tools-clause-treats g c = λ told.
    let old = g.P.Plant.state c.args.plant.now in
    treats_read g.P.Plant.tells told c.args.labelling (meant_rows old old.bytes) (walked old old.bytes) old (g.P.Plant.state c.read_recoverable.new.plant) c.read_recoverable.ensures.reads

pub returns-in_err-failed-clause-treats : goal.returns-in_err-failed-clause-treats
returns-in_err-failed-clause-treats g c = λ told.
    all_treated g.P.Plant.tells (g.P.Plant.state c.args.plant.now) (g.P.Plant.state c.read_recoverable.new.plant) c.read_recoverable.ensures.reads c.args.session c.in_ok-reading.reading.means (λ told. (c.in_ok-reading.ensures.says told).0) (g.P.Plant.state c.redo.new.plant)
    c.args.labelling _ told c.redo.ensures.works (c.redo.ensures.treats told)

pub returns-clause-treats : goal.returns-clause-treats
returns-clause-treats g c = λ told.
    all_treated g.P.Plant.tells (g.P.Plant.state c.args.plant.now) (g.P.Plant.state c.read_recoverable.new.plant) c.read_recoverable.ensures.reads c.args.session c.in_ok-reading.reading.means (λ told. (c.in_ok-reading.ensures.says told).0) (g.P.Plant.state c.redo.new.plant)
    c.args.labelling _ told c.redo.ensures.works (c.redo.ensures.treats told)

-- ---- faults

pub returns-in_err-reading-clause-cause : goal.returns-in_err-reading-clause-cause
returns-in_err-reading-clause-cause g c =
    let old = g.P.Plant.state c.args.plant.now in
    let one = g.P.Plant.state c.read_recoverable.new.plant in
    let e = c.in_err-reading.field-0.0 in
    let is : c.from_residual.result ≡ Err e = search rules in
    subst (λ (r : Result Outcome RecoverError). TellsFaults old.faults one.faults (λ d. IsErrOf r (Site (Fault d)))) (sym is) (tells_so {X = SiteReading} {Y = Outcome} old.faults one.faults e c.in_err-reading.ensures.fails)

pub returns-in_err-tools-clause-cause : goal.returns-in_err-tools-clause-cause
returns-in_err-tools-clause-cause g c =
    let old = g.P.Plant.state c.args.plant.now in
    let one = g.P.Plant.state c.read_recoverable.new.plant in
    let is : c.from_residual-in_err-tools.result ≡ Err (Site NoMemory) = search rules in
    subst (λ (r : Result Outcome RecoverError). TellsFaults old.faults one.faults (λ d. IsErrOf r (Site (Fault d)))) (sym is) (tells_memory {Y = Outcome} old.faults one.faults (so_good old.faults one.faults c.in_ok-reading.reading c.in_ok-reading.ensures.fails))

pub returns-in_err-failed-clause-cause : goal.returns-in_err-failed-clause-cause
returns-in_err-failed-clause-cause g c =
    let old = g.P.Plant.state c.args.plant.now in
    let one = g.P.Plant.state c.read_recoverable.new.plant in
    let new = g.P.Plant.state c.redo.new.plant in
    let e = c.in_err-failed.field-0.0 in
    let is : c.from_residual-in_err-failed.result ≡ Err e = search rules in
    subst (λ (r : Result Outcome RecoverError). TellsFaults old.faults new.faults (λ d. IsErrOf r (Site (Fault d)))) (sym is)
    (tells_again {X = List ℕ} {Y = Outcome} old.faults one.faults new.faults e (so_good old.faults one.faults c.in_ok-reading.reading c.in_ok-reading.ensures.fails) c.in_err-failed.ensures.fault)

pub returns-clause-cause : goal.returns-clause-cause
returns-clause-cause g c =
    let old = g.P.Plant.state c.args.plant.now in
    let one = g.P.Plant.state c.read_recoverable.new.plant in
    let new = g.P.Plant.state c.redo.new.plant in
    tells_none old.faults new.faults _ (λ (d : Device). Site (Fault d)) (λ d here. c.in_ok-failed.ensures.fault.others d here (λ is. cc) ∙ so_good old.faults one.faults c.in_ok-reading.reading c.in_ok-reading.ensures.fails d)

pub returns-in_err-reading-clause-volumes : goal.returns-in_err-reading-clause-volumes
returns-in_err-reading-clause-volumes g c =
    let old = g.P.Plant.state c.args.plant.now in
    let one = g.P.Plant.state c.read_recoverable.new.plant in
    counts_read g.P.Plant.tells (meant_rows old old.bytes) old.faults one.faults c.from_residual.result (λ v. c.read_recoverable.ensures.reads.only.others_faults (Volume v) (λ is. is))

pub returns-in_err-tools-clause-volumes : goal.returns-in_err-tools-clause-volumes
returns-in_err-tools-clause-volumes g c =
    let old = g.P.Plant.state c.args.plant.now in
    let one = g.P.Plant.state c.read_recoverable.new.plant in
    counts_read g.P.Plant.tells (meant_rows old old.bytes) old.faults one.faults c.from_residual-in_err-tools.result (λ v. c.read_recoverable.ensures.reads.only.others_faults (Volume v) (λ is. is))

pub returns-in_err-failed-clause-volumes : goal.returns-in_err-failed-clause-volumes
returns-in_err-failed-clause-volumes g c =
    let old = g.P.Plant.state c.args.plant.now in
    let one = g.P.Plant.state c.read_recoverable.new.plant in
    let new = g.P.Plant.state c.redo.new.plant in
    let rows = c.in_ok-reading.reading.means.table.rows in
    let k = c.in_err-failed.field-0.0 in
    let is : c.from_residual-in_err-failed.result ≡ Err k = search rules in
    subst (λ (r : Result Outcome RecoverError). CountsVolumes g.P.Plant.tells (meant_rows old old.bytes) old.faults new.faults r) (sym is)
    (counts_since old.faults one.faults new.faults (so_good old.faults one.faults c.in_ok-reading.reading c.in_ok-reading.ensures.fails) g.P.Plant.tells rows (meant_rows old old.bytes) (λ told. rows_are g.P.Plant.tells old one c.read_recoverable.ensures.reads c.args.session c.in_ok-reading.reading.means (λ told. (c.in_ok-reading.ensures.says told).0) new told)
    c.redo.ensures.once c.redo.ensures.spared (Err k) (λ told e same early. early (subst (λ (x : RecoverError). EndsLate x) (err_error k e same) (ends_late one k (c.in_err-failed.ensures.late told k refl)))))

pub returns-clause-volumes : goal.returns-clause-volumes
returns-clause-volumes g c =
    let old = g.P.Plant.state c.args.plant.now in
    let one = g.P.Plant.state c.read_recoverable.new.plant in
    let new = g.P.Plant.state c.redo.new.plant in
    let rows = c.in_ok-reading.reading.means.table.rows in
    counts_since old.faults one.faults new.faults (so_good old.faults one.faults c.in_ok-reading.reading c.in_ok-reading.ensures.fails) g.P.Plant.tells rows (meant_rows old old.bytes) (λ told. rows_are g.P.Plant.tells old one c.read_recoverable.ensures.reads c.args.session c.in_ok-reading.reading.means (λ told. (c.in_ok-reading.ensures.says told).0) new told)
    c.redo.ensures.once c.redo.ensures.spared _ (λ told e same early. cc)

-- ---- what lasts

pub returns-in_err-reading-clause-lasts : goal.returns-in_err-reading-clause-lasts
returns-in_err-reading-clause-lasts g c = λ told.
    let old = g.P.Plant.state c.args.plant.now in
    let one = g.P.Plant.state c.read_recoverable.new.plant in
    let e = c.in_err-reading.field-0.0 in
    let is : c.from_residual.result ≡ Err e = search rules in
    subst (λ (r : Result Outcome RecoverError). TellsLasting g.P.Plant.tells old one r) (sym is) (lasting_read SiteReading Outcome g.P.Plant.tells told old one c.read_recoverable.ensures.reads e (c.in_err-reading.ensures.durable told) (λ v needed same. c.in_err-reading.ensures.small told v needed (ap (λ (k : RecoverError). let r : Result SiteReading RecoverError = Err k in r) same)))

pub returns-in_err-tools-clause-lasts : goal.returns-in_err-tools-clause-lasts
returns-in_err-tools-clause-lasts g c = λ told.
    let is : c.from_residual-in_err-tools.result ≡ Err (Site NoMemory) = search rules in
    subst (λ (r : Result Outcome RecoverError). TellsLasting g.P.Plant.tells (g.P.Plant.state c.args.plant.now) (g.P.Plant.state c.read_recoverable.new.plant) r) (sym is) tt

pub returns-in_err-failed-clause-lasts : goal.returns-in_err-failed-clause-lasts
returns-in_err-failed-clause-lasts g c = λ told.
    let old = g.P.Plant.state c.args.plant.now in
    let one = g.P.Plant.state c.read_recoverable.new.plant in
    let new = g.P.Plant.state c.redo.new.plant in
    let e = c.in_err-failed.field-0.0 in
    let p = err_from_is_err_and c.from_residual-in_err-failed.result c.from_residual-in_err-failed.ensures.1 in
    let is : c.from_residual-in_err-failed.result ≡ Err e = cc (p.1, p.2) in
    subst (λ (r : Result Outcome RecoverError). TellsLasting g.P.Plant.tells old new r) (sym is)
    (lasting_late Outcome g.P.Plant.tells old one new e (c.in_err-failed.ensures.late told e refl) (end_means g.P.Plant.tells told c.in_ok-reading.reading.means.table.rows (walked one one.bytes) old one new c.read_recoverable.ensures.reads (c.in_ok-reading.ensures.durable told) c.redo.ensures.works))

pub returns-clause-lasts : goal.returns-clause-lasts
returns-clause-lasts g c = λ told.
    let old = g.P.Plant.state c.args.plant.now in
    let one = g.P.Plant.state c.read_recoverable.new.plant in
    let new = g.P.Plant.state c.redo.new.plant in
    end_means g.P.Plant.tells told c.in_ok-reading.reading.means.table.rows (walked one one.bytes) old one new c.read_recoverable.ensures.reads (c.in_ok-reading.ensures.durable told) c.redo.ensures.works

pub redo-requires-clause-home : goal.redo-requires-clause-home
redo-requires-clause-home g c κs within = (works_reads g.P.Plant.tells (g.P.Plant.state c.args.plant.now) (g.P.Plant.state c.read_recoverable.new.plant) c.read_recoverable.ensures.reads).home c.requires.home

pub redo-requires-clause-big : goal.redo-requires-clause-big
redo-requires-clause-big g c κs within = small_same (g.P.Plant.state c.args.plant.now) (g.P.Plant.state c.read_recoverable.new.plant) c.in_ok-reading.reading.means.table.rows c.read_recoverable.ensures.reads.only.site ∙ c.in_ok-reading.ensures.long
