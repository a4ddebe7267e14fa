use Rattle.std.proofs.Common.{◌≡◌, ◌++◌, take, drop, length}
use Rattle.std.specs.List.{flat_map}
use Rattle.xquery_report.specs.Reports.{row_line}
use Rattle.xquery_report.proofs.reports.append_rows.Given as goal

-- The lines so far and those of the rows that are left are the lines of all.
abbrev pub invariant-loop-row : goal.invariant-loop-row
invariant-loop-row l = (l.out ++ flat_map row_line (drop l.row-index l.table.rows) ≡ l.fn.out ++ flat_map row_line l.table.rows) × (take (length l.fn.out) l.out ≡ l.fn.out)
