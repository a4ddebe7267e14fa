use Rattle.std.specs.Prelude.{take}
use Rattle.mover.specs.Dropping.{Drops}
use Rattle.mover.specs.Moves.{IsStillAt}
use Rattle.mover.proofs.settling.drop_suspended.Given as goal

-- the volumes of the rows before were dropped
abbrev pub invariant-loop-place : goal.invariant-loop-place
invariant-loop-place g l = record { drops : Drops l.was (take l.place l.table.rows) l.initial.seat l.seat; still : IsStillAt l.initial.seat l.seat }
