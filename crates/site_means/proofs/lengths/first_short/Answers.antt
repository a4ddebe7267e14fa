use Rattle.std.proofs.Common.{sym, ◌∙◌, arith}
use Rattle.site_means.proofs.Shorts.{next_long}
use Rattle.site_means.proofs.lengths.first_short.Goals as goal

pub loop-number-preserved : goal.loop-number-preserved
loop-number-preserved g c =
    c.loop-number.invariant
    ∙ next_long (g.P.Plant.state c.args.plant.now) c.loop-number.number (omega (arith, c.loop-number-test.true, c.journals-number-end.ensures)) (sym c.is_short-in-loop-number.ensures ∙ c.if-is_short-3.false)
