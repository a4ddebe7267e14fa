use Rattle.std.proofs.Common.{◌≡◌, take, false}
use Rattle.std.specs.List.{list_any}
use Rattle.image_former.specs.Steps.{is_beside}
use Rattle.image_former.proofs.places.has_any_before.Given as goal

-- no entry before is on the track
abbrev pub invariant-loop-earlier : goal.invariant-loop-earlier
invariant-loop-earlier l = list_any (is_beside l.head) (take l.earlier l.formed.entries) ≡ false
