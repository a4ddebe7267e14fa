use Rattle.std.proofs.Common.{◌≡◌, ◌++◌, take, drop, length}
use Rattle.xquery_report.specs.Reports.{control_lines}
use Rattle.xquery_report.proofs.reports.append_controls.Given as goal

-- The lines so far and those of the controllers that are left are the lines of all.
abbrev pub invariant-loop-number : goal.invariant-loop-number
invariant-loop-number l = (l.out ++ control_lines l.number (drop l.number l.controls) ≡ l.fn.out ++ control_lines 0 l.controls) × (take (length l.fn.out) l.out ≡ l.fn.out)
