use Rattle.std.proofs.Common.{◌≡◌, ◌-◌, None, Some, sym, ap, ◌∙◌, arith, rules}
use Rattle.std.proofs.lemmas.Map.Keys.{le_from_is_le}
use Rattle.consistency.specs.Courses.{later_line}
use Rattle.script_lines.proofs.NextLaws.{counts, falls_in_time, later_from_not_le, one_too_many}
use Rattle.script_lines.proofs.next.later_line.Goals as goal
use Rattle.script_lines.proofs.next.later_line.Goals.{else-number-le-MOST_LINES-via-then-number-le-MOST_LINES+else-le, else-number-le-MOST_LINES-via-else-number-le-MOST_LINES}

pub returns-in_err-line : goal.returns-in_err-line
returns-in_err-line c =
    let is : c.from_residual.result ≡ None = search rules in
    is ∙ ap (later_line (c.args.number - 1) c.args.before.0) (sym c.in_err-line.was ∙ c.asked_line.ensures.spelled)

pub returns-then-le : goal.returns-then-le
returns-then-le c =
    sym (counts c.args.number c.args.before.0 c.in_ok-line.line (omega (arith, c.if-number-le-MOST_LINES.true)) c.requires (le_from_is_le c.args.before.0 c.in_ok-line.line.time.0 (sym c.le.ensures ∙ c.if-le.true)))
    ∙ ap (later_line (c.args.number - 1) c.args.before.0) (sym c.in_ok-line.was ∙ c.asked_line.ensures.spelled)

pub returns-else-number-le-MOST_LINES : goal.returns-else-number-le-MOST_LINES
returns-else-number-le-MOST_LINES c =
    let line = c.in_ok-line.line in
    let none : later_line (c.args.number - 1) c.args.before.0 (Some line) ≡ None = elim c.else-number-le-MOST_LINES.branch [
      | else-number-le-MOST_LINES-via-then-number-le-MOST_LINES+else-le w ↦ falls_in_time c.args.number c.args.before.0 line (later_from_not_le c.args.before.0 line.time.0 (sym w.le.ensures ∙ w.if-le.false))
      | else-number-le-MOST_LINES-via-else-number-le-MOST_LINES w ↦ one_too_many c.args.number c.args.before.0 line (omega (arith, w.if-number-le-MOST_LINES.false))
    ] in
    sym none ∙ ap (later_line (c.args.number - 1) c.args.before.0) (sym c.in_ok-line.was ∙ c.asked_line.ensures.spelled)
