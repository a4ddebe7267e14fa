-- Points that tell of other points.
use Rattle.passages.specs.Points.{Passed}

-- the point that tells of one that was passed, with a way of its own
abbrev pub told_by : {P W Q V : Type 0} → (told : P → Q) → (way : Passed P W → V) → Passed P W → Passed Q V
told_by told way n = record { moment = n.moment; point = told n.point; way = way n }
