use Rattle.std.proofs.Common.{sym, arith}
use Rattle.xrc_journal.proofs.ItemSteps.{gone_cut, gone_whole}
use Rattle.xrc_journal.proofs.item.gone_length.Goals as goal

pub returns-then-fields-lt2 : goal.returns-then-fields-lt2
returns-then-fields-lt2 c = λ place. sym (gone_cut place c.args.fields.now (omega (arith, c.if-fields-lt2.true)))

pub returns-else-fields-lt2 : goal.returns-else-fields-lt2
returns-else-fields-lt2 c = λ place. sym (gone_whole place c.args.fields.now (omega (arith, c.if-fields-lt2.false)))
