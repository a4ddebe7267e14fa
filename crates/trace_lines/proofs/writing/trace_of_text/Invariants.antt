use Rattle.std.proofs.Common.{◌≡◌, ◌≤◌, ◌+◌, length}
use Rattle.trace_lines.specs.Pieces.{pieces_of}
use Rattle.trace_lines.specs.Traces.{said_from, nothing_said, said_by}
use Rattle.trace_lines.proofs.writing.trace_of_text.Given as goal

-- The draft so far stands before the lines of the rest. Each line that was taken has a byte at least.
abbrev pub invariant-loop-rest : goal.invariant-loop-rest
invariant-loop-rest l = (said_from 0 nothing_said (pieces_of 10 l.text) ≡ said_from l.number (said_by l.draft) (pieces_of 10 l.rest)) × (l.number + length l.rest ≤ length l.text)

abbrev pub decreases-loop-rest : goal.decreases-loop-rest
decreases-loop-rest l = length l.rest
