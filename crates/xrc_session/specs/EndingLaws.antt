-- The law of a line that ends the session. It is the contract of a public function.
use Rattle.std.specs.Prelude.{◌≡◌, ◌++◌, ℕ, List, false}
use Rattle.row_changes.specs.Changes.{Timed}
use Rattle.row_changes.specs.Spans.{AreCounted}
use Rattle.consistency.specs.Answering.{answered_by}
use Rattle.consistency.specs.Stages.{ScriptRun, Stage}
use Rattle.consistency.specs.Courses.{IsAnswered}
use Rattle.consistency.specs.Leads.{Point}
use Rattle.consistency.specs.Replying.{HasNames, IsExact}
use Rattle.consistency.specs.Ways.{IsCommanding, IsEnding, IsLegOf, Leg, PassedPoint}

-- A line whose command ends the session is answered exactly: its step, with the hits after the command and those in the mark of the end, and with
-- the one reply that is due.
abbrev pub EndingsAreAnsweredExactly : Type 0
EndingsAreAnsweredExactly = (run : ScriptRun) (s : Stage) (l : Leg) (q r : Point) (hits more : List Timed) (text reply : List ℕ) (first : Point) (points : List PassedPoint) (number : ℕ) → s.table.is_ended ≡ false → IsLegOf run s l
    → (c : IsCommanding run s.next l q hits) → IsEnding run s.next q r more → AreCounted run.rises (s.past ++ l.changes ++ (hits ++ more)) → HasNames s.table
    → (let a = answered_by run s text reply c.line l.changes (hits ++ more) in IsExact run s first points number a → IsAnswered run s a)
