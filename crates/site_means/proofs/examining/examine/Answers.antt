use Rattle.std.proofs.Common.{rules, ◌≡◌, ◌∙◌, Result, Err, sym, subst}
use Rattle.site_means.specs.declared.means.Means.{Means}
use Rattle.site_means.specs.declared.reading.SiteReading.{SiteReading}
use Rattle.site_means.specs.declared.site_error.SiteError.{SiteError}
use Rattle.site_means.specs.Images.{shape_of}
use Rattle.site_means.specs.Meaning.{meaning_in}
use Rattle.crash_plant.specs.declared.device.Device.{Device}
use Rattle.site_means.specs.declared.site_error.SiteError.TheVariants.{Fault, TooSmall}
use Rattle.site_means.specs.Answers.{IsStore, IsInTurn, IsOfControl, IsRead, Mean, AnswersMeaning}
use Rattle.site_means.proofs.ReadAll.{reads_then}
use Rattle.site_means.proofs.Meanings.{same_seen, seen_chosen, seen_error, seen_meaning, seen_reached}
use Rattle.site_means.proofs.examining.examine.Goals as goal

pub returns-in_err-reading-clause-says : goal.returns-in_err-reading-clause-says
returns-in_err-reading-clause-says g c = λ told.
    let old = g.P.Plant.state c.args.plant.now in
    let one = g.P.Plant.state c.read_mark.new.plant in
    let seen = same_seen g.P.Plant.tells old one c.read_mark.ensures.others told in
    let chosen = seen_chosen old one seen c.in_ok-mark.mark (c.in_ok-mark.ensures.says told) in
    let is : c.from_residual-in_err-reading.result ≡ Err c.in_err-reading.field-0.0 = search rules in
    subst (λ (r : Result Means SiteError). AnswersMeaning (λ means. Mean (meaning_in (shape_of old) old.bytes) means) (meaning_in (shape_of old) old.bytes) r) (sym is)
    (seen_error old one seen {X = SiteReading} {Y = Means} (λ r. IsRead one r) (λ means. Mean (meaning_in (shape_of old) old.bytes) means) c.in_err-reading.field-0.0 (c.in_err-reading.ensures.says told chosen))

pub returns-in_err-reading-clause-others : goal.returns-in_err-reading-clause-others
returns-in_err-reading-clause-others g c = reads_then g.P.Plant.tells _ _ _ c.read_mark.ensures.others c.read_from_mark.ensures.others

pub returns-in_err-reading-clause-reached : goal.returns-in_err-reading-clause-reached
returns-in_err-reading-clause-reached g c = λ told d is.
    let old = g.P.Plant.state c.args.plant.now in
    let one = g.P.Plant.state c.read_mark.new.plant in
    let seen = same_seen g.P.Plant.tells old one c.read_mark.ensures.others told in
    let chosen = seen_chosen old one seen c.in_ok-mark.mark (c.in_ok-mark.ensures.says told) in
    seen_reached old one seen d (c.in_err-reading.ensures.reached told chosen d (search rules))

pub returns-clause-others : goal.returns-clause-others
returns-clause-others g c = reads_then g.P.Plant.tells _ _ _ c.read_mark.ensures.others c.read_from_mark.ensures.others

pub returns-clause-says : goal.returns-clause-says
returns-clause-says g c = λ told.
    let old = g.P.Plant.state c.args.plant.now in
    let one = g.P.Plant.state c.read_mark.new.plant in
    let seen = same_seen g.P.Plant.tells old one c.read_mark.ensures.others told in
    let chosen = seen_chosen old one seen c.in_ok-mark.mark (c.in_ok-mark.ensures.says told) in
    let read = c.in_ok-reading.ensures.says told chosen in
    (read.walk, sym (seen_meaning old one seen) ∙ read.meant)

pub returns-in_err-mark-clause-too_small : goal.returns-in_err-mark-clause-too_small
returns-in_err-mark-clause-too_small g c = λ d needed is.
    let e = c.in_err-mark.field-0.0 in
    let same : e ≡ TooSmall d needed = search rules in
    absurd (subst (λ (k : SiteError). IsOfControl k) same (c.in_err-mark.ensures.wrong e (λ i. Err e)))

pub returns-in_err-mark-clause-examined : goal.returns-in_err-mark-clause-examined
returns-in_err-mark-clause-examined g c = λ d is.
    let e = c.in_err-mark.field-0.0 in
    let same : e ≡ Fault d = search rules in
    subst (λ (k : Device). IsStore k) (sym (subst (λ (k : SiteError). IsOfControl k) same (c.in_err-mark.ensures.wrong e (λ i. Err e)))) tt

pub returns-in_err-mark-clause-reached : goal.returns-in_err-mark-clause-reached
returns-in_err-mark-clause-reached g c = λ told d is.
    let old = g.P.Plant.state c.args.plant.now in
    let e = c.in_err-mark.field-0.0 in
    let same : e ≡ Fault d = search rules in
    subst (λ (k : Device). IsInTurn old k) (sym (subst (λ (k : SiteError). IsOfControl k) same (c.in_err-mark.ensures.wrong e (λ i. Err e)))) tt
