use Rattle.std.proofs.Common.{◌≡◌, ◌∙◌, List, ℕ, Err, Ok, subst}
use Rattle.xrc_edge.specs.declared.outcome.Failed.{Failed}
use Rattle.xrc_status.specs.declared.stop.Stop.{Stop}
use Rattle.xrc_status.specs.declared.stop.Stop.TheVariants.{ConsoleFault}
use Rattle.xrc_status.specs.Saying.{SaysText}
use Rattle.xrc_recovery.specs.Queries.{meaning_report}
use Rattle.xrc_recovery.proofs.Querying.{failed_as, said_as}
use Rattle.xrc_recovery.proofs.query.say_meaning.Goals as goal

pub returns-in-Ok-clause-said : goal.returns-in-Ok-clause-said
returns-in-Ok-clause-said g c = λ some.
    let a = g.P.Plant.state c.args.plant.now in
    let b = g.P.Plant.state c.say_text.new.plant in
    let text : c.as_slice.result.now ≡ meaning_report c.args.means.now = c.as_slice.ensures ∙ c.in_ok-text.ensures in
    said_as {E = Failed} {F = Stop} g.P.Plant.tells (meaning_report c.args.means.now) a b tt (subst (λ (l : List ℕ). SaysText {T = Unit {0}} {E = Failed} g.P.Plant.tells l a b (Ok tt)) text c.in-Ok.ensures)

pub returns-clause-said : goal.returns-clause-said
returns-clause-said g c = λ some.
    let a = g.P.Plant.state c.args.plant.now in
    let b = g.P.Plant.state c.say_text.new.plant in
    let text : c.as_slice.result.now ≡ meaning_report c.args.means.now = c.as_slice.ensures ∙ c.in_ok-text.ensures in
    failed_as {E = Failed} {F = Stop} g.P.Plant.tells (meaning_report c.args.means.now) a b c.in-Err.field-0 ConsoleFault (subst (λ (l : List ℕ). SaysText {T = Unit {0}} {E = Failed} g.P.Plant.tells l a b (Err c.in-Err.field-0)) text c.in-Err.ensures)
