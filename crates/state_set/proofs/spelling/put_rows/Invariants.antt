use Rattle.std.proofs.Common.{◌≡◌, ◌*◌, take}
use Rattle.state_set.specs.Slots.{rows_spelling}
use Rattle.state_set.proofs.spelling.put_rows.Given as goal

-- the rows so far
abbrev pub invariant-loop-place : goal.invariant-loop-place
invariant-loop-place l = take (38 * l.place) l.out ≡ rows_spelling 2 (take l.place l.row-items)
