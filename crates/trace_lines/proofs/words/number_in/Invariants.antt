use Rattle.std.proofs.Common.{◌≡◌, ◌≤◌, drop}
use Rattle.trace_lines.specs.Lines.{number_from}
use Rattle.trace_lines.proofs.words.number_in.Given as goal

-- The digits so far are worth the value, from which the others go on.
abbrev pub invariant-loop-digit : goal.invariant-loop-digit
invariant-loop-digit l = (number_from l.most 0 l.digits ≡ number_from l.most l.value (drop l.digit-index l.digits)) × (l.value ≤ l.most)
