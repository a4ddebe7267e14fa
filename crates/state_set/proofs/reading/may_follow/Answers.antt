use Rattle.std.proofs.Common.{not, sym, ap, ◌∙◌, true≢false}
use Rattle.std.proofs.lemmas.Bool.{le-ltb}
use Rattle.state_set.proofs.After.{beyond, has_one, has_none}
use Rattle.state_set.proofs.reading.may_follow.Goals as goal
use Rattle.state_set.proofs.reading.may_follow.Goals.{then-row-volumes, else-row-volumes}

pub returns-then-is_none : goal.returns-then-is_none
returns-then-is_none c = elim c.if-row-volumes.branch [
  | then-row-volumes w ↦
      has_none c.args.volumes c.args.table.now.rows c.args.row.now c.requires.row c.requires.rows w.row_of.result w.row_of.ensures.found
      (w.is_none.ensures ∙ ap not (sym w.value-is ∙ c.if-is_none.true)) w.if-row-volumes.true c.may_put.result c.may_put.ensures
  | else-row-volumes w ↦ absurd (true≢false (sym c.if-is_none.true ∙ w.value-is ∙ le-ltb c.args.row.now.device c.args.volumes w.if-row-volumes.false))
]

pub returns-else-is_none : goal.returns-else-is_none
returns-else-is_none c = c.if-is_none.false ∙ elim c.if-row-volumes.branch [
  | then-row-volumes w ↦
      sym (has_one c.args.volumes c.args.table.now.rows c.args.row.now c.requires.row c.requires.rows w.row_of.result w.row_of.ensures.found
      (w.is_none.ensures ∙ ap not (sym w.value-is ∙ c.if-is_none.false)))
  | else-row-volumes w ↦ sym (beyond c.args.volumes c.args.table.now.rows c.args.row.now c.requires.row c.requires.rows w.if-row-volumes.false)
]
