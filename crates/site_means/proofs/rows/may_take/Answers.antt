use Rattle.std.proofs.Common.{sym, ◌∙◌}
use Rattle.std.proofs.lemmas.Bool.{le-ltb}
use Rattle.site_means.proofs.RowRules.{put_beyond, put_within}
use Rattle.site_means.proofs.rows.may_take.Goals as goal

pub returns-then-row-volumes-clause-keep : goal.returns-then-row-volumes-clause-keep
returns-then-row-volumes-clause-keep c = λ rules below. put_within c.args.volumes c.args.table.now.rows c.args.row.now rules below c.if-row-volumes.true c.may_put.result c.may_put.ensures

pub returns-else-row-volumes-clause-keep : goal.returns-else-row-volumes-clause-keep
returns-else-row-volumes-clause-keep c = λ rules below.
    le-ltb c.args.row.now.device c.args.volumes c.if-row-volumes.false ∙ sym (put_beyond c.args.volumes c.args.table.now.rows c.args.row.now rules below c.if-row-volumes.false)
