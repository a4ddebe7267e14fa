use Rattle.std.proofs.Common.{Bool, cond, subst, sym}
use Rattle.site_store.specs.Marking.{AllPutMark}
use Rattle.site_store.proofs.marking.put_told_rows.Goals as goal

pub returns-then-ahead-clause-moments : goal.returns-then-ahead-clause-moments
returns-then-ahead-clause-moments g c =
    λ told. subst (λ (b : Bool). AllPutMark c.args.mark.now (record { level = c.args.levels.0; rows = cond b c.put_rows.new.table.rows c.args.table.now.rows }) (g.P.Plant.state c.args.plant.now) (g.P.Plant.state c.put_rows.new.plant)) (sym c.if-ahead.true) (c.put_rows.ensures.moments told)

pub returns-else-ahead-clause-moments : goal.returns-else-ahead-clause-moments
returns-else-ahead-clause-moments g c =
    λ told. subst (λ (b : Bool). AllPutMark c.args.mark.now (record { level = c.args.levels.0; rows = cond b c.args.told.now.rows c.put_rows-else-ahead.new.table.rows }) (g.P.Plant.state c.args.plant.now) (g.P.Plant.state c.put_rows-else-ahead.new.plant)) (sym c.if-ahead.false) (c.put_rows-else-ahead.ensures.moments told)
