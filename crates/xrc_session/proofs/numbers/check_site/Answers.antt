use Rattle.xrc_session.proofs.Numbered.{has_lengths_on_ok, stop_by_lengths}
use Rattle.xrc_session.proofs.numbers.check_site.Goals as goal

pub returns-clause-stops : goal.returns-clause-stops
returns-clause-stops g c = λ stop. let e = stop_by_lengths c.args.controls c.args.traces (g.P.Plant.state c.args.plant.now) c.if-not-has_numbers.ensures in rw e (c.check_lengths.ensures.short stop)

pub returns-clause-lengths : goal.returns-clause-lengths
returns-clause-lengths g c = has_lengths_on_ok c.check_lengths.result c.args.controls c.args.traces (g.P.Plant.state c.args.plant.now) c.if-not-has_numbers.ensures c.check_lengths.ensures.ok
