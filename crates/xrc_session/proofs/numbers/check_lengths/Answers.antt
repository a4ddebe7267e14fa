use Rattle.std.proofs.Common.{◌≤◌, ◌∙◌, refl, arith, subst}
use Rattle.crash_plant.specs.declared.device.Device.TheVariants.{Journal}
use Rattle.xrc_session.proofs.Numbered.{given_on, next_long, stops_by_journal}
use Rattle.xrc_session.proofs.numbers.check_lengths.Goals as goal

pub returns-in_err-check_length-3-clause-short : goal.returns-in_err-check_length-3-clause-short
returns-in_err-check_length-3-clause-short g c =
    let e = c.in_err-check_length-3.field-0.0 in
    let result = c.from_residual-in_err-check_length-3.result in
    stops_by_journal c.args.controls (g.P.Plant.state c.args.plant.now) result c.loop-number.number c.journal_length.result e (omega (arith, c.loop-number-test.true, c.journals-number-end.ensures)) c.loop-number.invariant c.journal_length.ensures
    (c.in_err-check_length-3.ensures.short e refl) (given_on result e c.from_residual-in_err-check_length-3.ensures)

pub loop-number-preserved : goal.loop-number-preserved
loop-number-preserved g c =
    let plant = g.P.Plant.state c.args.plant.now in
    let long = subst (λ n. n ≤ plant.lengths (Journal c.loop-number.number)) c.journal_length.ensures c.in_ok-check_length-3.ensures.ok in
    c.loop-number.invariant ∙ next_long c.args.controls plant c.loop-number.number (omega (arith, c.loop-number-test.true, c.journals-number-end.ensures)) long
