use Rattle.std.proofs.Common.{◌≡◌, ◌≤◌, ◌*◌, ◌-◌, length, true}
use Rattle.pair_table.specs.Rows.{row_length}
use Rattle.state_set.specs.Slots.{are_rows, rows_in, started_table}
use Rattle.state_set.proofs.RowsAt.{left_at}
use Rattle.state_set.proofs.reading.read_rows.Given as goal

-- the rows so far
abbrev pub invariant-loop : goal.invariant-loop
invariant-loop l = record {
  table : l.table ≡ started_table l.fn.session l.table.rows;
  rules : are_rows l.volumes l.table.rows ≡ true;
  left : rows_in l.version l.volumes l.count l.fn.bytes ≡ left_at l.version l.volumes (l.count - l.counter) l.table.rows l.rest;
  fits : row_length l.version * (l.count - l.counter) ≤ length l.rest;
}
