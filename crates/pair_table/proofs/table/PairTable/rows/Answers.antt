use Rattle.std.proofs.Common.{sym, ap, ◌∙◌}
use Rattle.std.specs.List.{list_all}
use Rattle.pair_table.specs.Rows.{is_row}
use Rattle.pair_table.specs.Tables.{Table}
use Rattle.pair_table.proofs.RowRules.{all_keep}
use Rattle.pair_table.proofs.table.PairTable.rows.Goals as goal

pub returns-clause-rules : goal.returns-clause-rules
returns-clause-rules c = all_keep c.args.self.now.rows (ap (λ (table : Table). list_all is_row table.rows) (sym c.self.view_is) ∙ c.self.invariant.rows.each)
