use Rattle.std.proofs.Common.{◌<◌, ◌^◌, rules, ℕ, Ok, Some, refl, sym, ap, subst, ◌∙◌, Err}
use Rattle.state_set.specs.Slots.{Stored}
use Rattle.site_means.specs.declared.means.Means.{Means}
use Rattle.crash_plant.specs.declared.device.Device.TheVariants.{Journal}
use Rattle.crash_plant.specs.Moments.{IsDurable, on}
use Rattle.control_set.specs.declared.value.Mark.{Mark}
use Rattle.site_means.specs.declared.reading.SiteReading.{SiteReading}
use Rattle.site_means.specs.declared.site_error.SiteError.{SiteError}
use Rattle.site_means.specs.declared.site_error.SiteError.TheVariants.{Fault}
use Rattle.site_means.specs.Images.{shape_of}
use Rattle.site_means.specs.Meaning.Meaning.{Meant}
use Rattle.site_means.specs.Answers.{IsInTurn, IsRead}
use Rattle.site_means.specs.Steps.{AnswersWalk, AreDurable, walk_of}
use Rattle.site_means.proofs.ReadAll.{error_is}
use Rattle.site_means.proofs.Meanings.{begins_one, finish_means, reports_reach, reports_say, stands_first, walk_enters, where_as}
use Rattle.site_means.proofs.examining.read_journals.Goals as goal

pub returns-in-Ok-clause-says : goal.returns-in-Ok-clause-says
returns-in-Ok-clause-says g c = λ told chosen stored.
    let old = g.P.Plant.state c.args.plant.now in
    let m = c.args.mark.now in
    let s : Stored = record { level = c.args.level; rows = c.args.table.rows } in
    let first = c.in_ok-walking.walking in
    let means = finish_means (shape_of old) old.bytes m s chosen stored c.args.table first refl c.in_ok-walking.ensures c.finish.new.self c.requires.started (c.in-Ok.ensures.reports told) in
    record {
      chosen = chosen ∙ ap (λ (k : Mark). Ok (Some k)) (sym c.reading.ensures.mark);
      walk = means.0;
      meant = means.1 ∙ ap (λ (k : Means). Meant k means.0) (sym c.reading.ensures.means);
      end = c.reading.ensures.end ∙ means.2;
    }

pub returns-in-Ok-clause-durable : goal.returns-in-Ok-clause-durable
returns-in-Ok-clause-durable g c = λ told synced chosen stored j turn.
    let old = g.P.Plant.state c.args.plant.now in
    let m = c.args.mark.now in
    let s : Stored = record { level = c.args.level; rows = c.args.table.rows } in
    let first = c.in_ok-walking.walking in
    c.in-Ok.ensures.durable told synced (begins_one m c.args.table first c.in_ok-walking.ensures) j
    (walk_enters (shape_of old) old.bytes m s chosen stored c.args.table first refl c.in_ok-walking.ensures j turn)

pub returns-clause-durable : goal.returns-clause-durable
returns-clause-durable g c = λ told synced chosen stored.
    let old = g.P.Plant.state c.args.plant.now in
    let new = g.P.Plant.state c.finish.new.plant in
    let m = c.args.mark.now in
    let s : Stored = record { level = c.args.level; rows = c.args.table.rows } in
    let first = c.in_ok-walking.walking in
    where_as (Unit {0}) SiteReading (AreDurable new (walk_of (shape_of old) old.bytes first).entered) ((j : ℕ) → IsInTurn old (Journal j) → IsDurable (on new (Journal j)))
    (λ are j turn. are j (walk_enters (shape_of old) old.bytes m s chosen stored c.args.table first refl c.in_ok-walking.ensures j turn)) c.in-Err.error
    (c.in-Err.ensures.durable told synced (begins_one m c.args.table first c.in_ok-walking.ensures))

pub returns-clause-says : goal.returns-clause-says
returns-clause-says g c = λ told chosen stored.
    let old = g.P.Plant.state c.args.plant.now in
    let m = c.args.mark.now in
    let s : Stored = record { level = c.args.level; rows = c.args.table.rows } in
    let first = c.in_ok-walking.walking in
    reports_say (shape_of old) old.bytes m s chosen stored c.args.table first refl c.in_ok-walking.ensures {X = SiteReading} (λ reading. IsRead old reading) c.finish.new.self c.in-Err.error (c.in-Err.ensures.reports told)

pub returns-clause-reached : goal.returns-clause-reached
returns-clause-reached g c = λ told chosen stored d is.
    let old = g.P.Plant.state c.args.plant.now in
    let m = c.args.mark.now in
    let s : Stored = record { level = c.args.level; rows = c.args.table.rows } in
    let first = c.in_ok-walking.walking in
    reports_reach (shape_of old) old.bytes m s chosen stored c.args.table first refl c.in_ok-walking.ensures c.finish.new.self d
    (subst (λ (e : SiteError). AnswersWalk (walk_of (shape_of old) old.bytes first) first c.finish.new.self (Err e)) (error_is {Y = SiteReading} c.in-Err.error (Fault d) is) (c.in-Err.ensures.reports told))

pub finish-requires-clause-stands : goal.finish-requires-clause-stands
finish-requires-clause-stands g c _ _ =
    let number : c.in_ok-walking.walking.at.number < 2 ^ 64 = search rules in
    stands_first (g.P.Plant.state c.args.plant.now) c.args.mark.now c.args.table c.in_ok-walking.walking c.requires.long c.requires.spot number c.requires.below c.in_ok-walking.ensures
