use Rattle.record_rows.proofs.Composing.{changes_in_a_row, comes_in_a_row}
use Rattle.record_rows.proofs.Counting.{counts_append}
use Rattle.record_rows.proofs.laws.changes_go_on.Goals as goal

pub returns : goal.returns
returns c = record {
  rows = changes_in_a_row;
  may_come = λ level breaks first may_be_due due from mid to rows xs ys le up. comes_in_a_row level breaks first may_be_due due from mid to rows xs ys up le;
  hits = counts_append;
}
