use Rattle.std.proofs.Common.{◌≡◌, ◌<◌, ◌≤◌, ◌-◌, length}
use Rattle.pending_queue.specs.Groups.{heads}
use Rattle.image_former.specs.Links.{bucket_of, bucket_at, linked_count}
use Rattle.image_former.proofs.Changing.{Applying}
use Rattle.image_former.proofs.tracks.apply_entries.Given as goal

-- what is left to do from here on, and that a linked entry here is in the bucket
abbrev pub invariant-loop-at : goal.invariant-loop-at
invariant-loop-at l = Applying l.head l.place l.at l.formed.entries l.fn.slot l.slot × (l.at ≤ length l.formed.entries) × (l.at < linked_count (heads l.formed) → bucket_at (heads l.formed) l.at ≡ bucket_of l.head)

abbrev pub decreases-loop-at : goal.decreases-loop-at
decreases-loop-at l = length l.formed.entries - l.at
