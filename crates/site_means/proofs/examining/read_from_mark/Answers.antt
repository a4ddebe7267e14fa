use Rattle.std.proofs.Common.{ℕ, ◌≡◌, ◌∙◌, Result, Err, ap, sym, subst, arith, rules}
use Rattle.crash_plant.specs.declared.device.Device.TheVariants.{Journal}
use Rattle.pair_table.specs.declared.level.Level.{Level}
use Rattle.pair_table.specs.Tables.{Table, are_below}
use Rattle.site_means.specs.declared.reading.SiteReading.{SiteReading}
use Rattle.site_means.specs.declared.site_error.SiteError.{SiteError}
use Rattle.site_means.specs.Images.{shape_of}
use Rattle.site_means.specs.Meaning.{meaning_in}
use Rattle.crash_plant.specs.declared.device.Device.{Device}
use Rattle.site_means.specs.declared.site_error.SiteError.TheVariants.{Fault, TooSmall}
use Rattle.site_means.specs.Answers.{AnswersMeaning, IsStore, IsInTurn, IsOfState, IsRead, IsStored, RestDurable, WhereTold}
use Rattle.site_means.proofs.ReadAll.{reads_then}
use Rattle.site_means.proofs.Shorts.{are_long}
use Rattle.site_means.proofs.Meanings.{rest_told, same_seen, says_as, seen_chosen, seen_reached, seen_read, seen_stored, seen_told, spot_later, state_told}
use Rattle.site_means.proofs.examining.read_from_mark.Goals as goal

pub returns-in_err-level-clause-says : goal.returns-in_err-level-clause-says
returns-in_err-level-clause-says g c = λ told chosen.
    let old = g.P.Plant.state c.args.plant.now in
    let is : c.from_residual.result ≡ Err c.in_err-level.field-0.0 = search rules in
    subst (λ (r : Result SiteReading SiteError). AnswersMeaning (λ reading. IsRead old reading) (meaning_in (shape_of old) old.bytes) r) (sym is)
    (says_as {X = Level × Table} {Y = SiteReading} (λ found. IsStored old c.args.mark.now found.0 found.1.rows) (λ reading. IsRead old reading) (meaning_in (shape_of old) old.bytes) c.in_err-level.field-0.0 (c.in_err-level.ensures.says told chosen))

pub returns-in_err-level-clause-durable : goal.returns-in_err-level-clause-durable
returns-in_err-level-clause-durable g c = λ told synced chosen.
    let old = g.P.Plant.state c.args.plant.now in
    let one = g.P.Plant.state c.read_state.new.plant in
    let e = c.in_err-level.field-0.0 in
    let is : c.from_residual.result ≡ Err e = search rules in
    subst (λ (r : Result SiteReading SiteError). WhereTold r (RestDurable old one)) (sym is)
    (state_told SiteReading old one e (c.in_err-level.ensures.wrong e (λ i. Err e)) (λ other. c.in_err-level.ensures.durable told synced (λ fault. other cc))
    (says_as {X = Level × Table} {Y = SiteReading} (λ found. IsStored old c.args.mark.now found.0 found.1.rows) (λ reading. Unit {0}) (meaning_in (shape_of old) old.bytes) e (c.in_err-level.ensures.says told chosen)))

pub read_journals-requires-clause-long : goal.read_journals-requires-clause-long
read_journals-requires-clause-long g c κs within = λ j lt.
    let long = are_long (g.P.Plant.state c.args.plant.now) c.requires.short in
    let site = c.read_state.ensures.others.only.site in
    omega (arith, long.journals j (omega (arith, lt, site.journals)), site.lengths (Journal j))

pub read_journals-requires-clause-spot : goal.read_journals-requires-clause-spot
read_journals-requires-clause-spot g c _ _ = spot_later (g.P.Plant.state c.args.plant.now) (g.P.Plant.state c.read_state.new.plant) c.args.mark.now.at c.read_state.ensures.others.only.site c.requires.spot

pub read_journals-requires-clause-below : goal.read_journals-requires-clause-below
read_journals-requires-clause-below g c _ _ = ap (λ (n : ℕ). are_below n c.in_ok-level.table.rows) c.read_state.ensures.others.only.site.volumes ∙ c.in_ok-level.ensures.below

pub returns-clause-says : goal.returns-clause-says
returns-clause-says g c = λ told chosen.
    let old = g.P.Plant.state c.args.plant.now in
    let one = g.P.Plant.state c.read_state.new.plant in
    let seen = same_seen g.P.Plant.tells old one c.read_state.ensures.others told in
    let stored = c.in_ok-level.ensures.says told chosen in
    seen_told old one seen (λ (r : SiteReading). IsRead one r) (λ (r : SiteReading). IsRead old r) (seen_read old one seen) c.read_journals.result
    (c.read_journals.ensures.says told (seen_chosen old one seen c.args.mark.now chosen) (seen_stored old one seen c.args.mark.now _ stored))

pub returns-clause-reached : goal.returns-clause-reached
returns-clause-reached g c = λ told chosen d is.
    let old = g.P.Plant.state c.args.plant.now in
    let one = g.P.Plant.state c.read_state.new.plant in
    let seen = same_seen g.P.Plant.tells old one c.read_state.ensures.others told in
    let stored = c.in_ok-level.ensures.says told chosen in
    seen_reached old one seen d (c.read_journals.ensures.reached told (seen_chosen old one seen c.args.mark.now chosen) (seen_stored old one seen c.args.mark.now _ stored) d is)

pub returns-clause-durable : goal.returns-clause-durable
returns-clause-durable g c = λ told synced chosen.
    let old = g.P.Plant.state c.args.plant.now in
    let one = g.P.Plant.state c.read_state.new.plant in
    let new = g.P.Plant.state c.read_journals.new.plant in
    let seen = same_seen g.P.Plant.tells old one c.read_state.ensures.others told in
    let stored = c.in_ok-level.ensures.says told chosen in
    rest_told g.P.Plant.tells told old one new c.read_state.ensures.others c.read_journals.ensures.others (c.in_ok-level.ensures.durable told synced (λ fault. cc)) c.read_journals.result
    (c.read_journals.ensures.durable told synced (seen_chosen old one seen c.args.mark.now chosen) (seen_stored old one seen c.args.mark.now _ stored))

pub returns-clause-others : goal.returns-clause-others
returns-clause-others g c = reads_then g.P.Plant.tells _ _ _ c.read_state.ensures.others c.read_journals.ensures.others

pub returns-in_err-level-clause-reached : goal.returns-in_err-level-clause-reached
returns-in_err-level-clause-reached g c = λ told chosen d is.
    let old = g.P.Plant.state c.args.plant.now in
    let e = c.in_err-level.field-0.0 in
    let same : e ≡ Fault d = search rules in
    subst (λ (k : Device). IsInTurn old k) (sym (subst (λ (k : SiteError). IsOfState k) same (c.in_err-level.ensures.wrong e (λ i. Err e)))) (c.args.mark.now, chosen)

pub returns-in_err-level-clause-examined : goal.returns-in_err-level-clause-examined
returns-in_err-level-clause-examined g c = λ d is.
    let e = c.in_err-level.field-0.0 in
    let same : e ≡ Fault d = search rules in
    subst (λ (k : Device). IsStore k) (sym (subst (λ (k : SiteError). IsOfState k) same (c.in_err-level.ensures.wrong e (λ i. Err e)))) tt

pub returns-in_err-level-clause-short : goal.returns-in_err-level-clause-short
returns-in_err-level-clause-short g c = λ d needed is.
    let e = c.in_err-level.field-0.0 in
    let same : e ≡ TooSmall d needed = search rules in
    subst (λ (k : SiteError). IsOfState k) same (c.in_err-level.ensures.wrong e (λ i. Err e))
