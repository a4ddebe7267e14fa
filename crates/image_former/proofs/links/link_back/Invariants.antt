use Rattle.pending_queue.specs.Groups.{heads}
use Rattle.image_former.proofs.Linking.{LinkedBack}
use Rattle.image_former.proofs.links.link_back.Given as goal

-- the entries before are linked
abbrev pub invariant-loop-place : goal.invariant-loop-place
invariant-loop-place l = LinkedBack (heads l.formed) l.place l.back l.last
