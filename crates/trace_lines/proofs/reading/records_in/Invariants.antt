use Rattle.std.proofs.Common.{◌≡◌, [], length}
use Rattle.trace_lines.specs.Lines.{words_of, records_from}
use Rattle.trace_lines.proofs.reading.records_in.Given as goal

-- The records so far stand before those of the rest.
abbrev pub invariant-loop-rest : goal.invariant-loop-rest
invariant-loop-rest l = records_from [] (words_of l.text) ≡ records_from l.recs (words_of l.rest)

abbrev pub decreases-loop-rest : goal.decreases-loop-rest
decreases-loop-rest l = length l.rest
