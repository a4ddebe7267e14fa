use Rattle.std.proofs.Common.{◌-◌}
use Rattle.pending_queue.specs.Groups.{heads}
use Rattle.image_former.proofs.Linking.{LinkedForth}
use Rattle.image_former.proofs.links.link_forth.Given as goal

-- the last entries are linked
abbrev pub invariant-loop-after : goal.invariant-loop-after
invariant-loop-after l = LinkedForth (heads l.formed) (l.count - l.after) l.forth l.next
