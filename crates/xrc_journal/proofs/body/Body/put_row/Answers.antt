use Rattle.std.proofs.Common.{◌∷◌, List, ℕ, ap}
use Rattle.xrc_journal.specs.Items.Item.{Pair}
use Rattle.xrc_journal.proofs.body.Body.put_row.Goals as goal

pub put-requires-clause-next : goal.put-requires-clause-next
put-requires-clause-next c = record { item = Pair 2 c.args.row.now; keeps = c.encode_row.ensures.row; spelled = ap (λ (l : List ℕ). 5 ∷ l) c.encode_row.ensures.spelled }
