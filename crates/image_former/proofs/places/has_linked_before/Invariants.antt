use Rattle.std.proofs.Common.{◌≡◌, ◌≤◌}
use Rattle.pending_queue.specs.Groups.{heads}
use Rattle.image_former.specs.Links.{bucket_at}
use Rattle.image_former.proofs.Besides.{NoneBeside}
use Rattle.image_former.proofs.places.has_linked_before.Given as goal

-- no entry after this one is on the track, and this one is in its bucket
abbrev pub invariant-loop-earlier : goal.invariant-loop-earlier
invariant-loop-earlier l = (l.at ≤ l.place) × (bucket_at (heads l.formed) l.at ≡ bucket_at (heads l.formed) l.place) × NoneBeside l.head l.formed.entries l.at l.place

abbrev pub decreases-loop-earlier : goal.decreases-loop-earlier
decreases-loop-earlier l = l.at
