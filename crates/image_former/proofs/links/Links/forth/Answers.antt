use Rattle.std.proofs.Common.{arith}
use Rattle.std.proofs.lemmas.List.{length-map}
use Rattle.pending_queue.specs.Groups.{heads}
use Rattle.image_former.proofs.Linking.{goes_by_link, goes_on}
use Rattle.image_former.proofs.Entries.{head_in}
use Rattle.image_former.proofs.links.Links.forth.Goals as goal

pub returns-then-place : goal.returns-then-place
returns-then-place c = goes_by_link (heads c.args.formed.now) c.args.self.now.forth c.args.place c.from.result c.from.ensures c.requires.linked.forth c.if-place.true (omega (arith, c.requires.within, length-map c.args.formed.now.entries head_in))

pub returns-else-place : goal.returns-else-place
returns-else-place c =
    goes_on (heads c.args.formed.now) c.args.place c.min.result (omega (arith, c.min.ensures, c.count.ensures, c.count.type_inv, c.saturating_add.ensures, c.requires.within)) c.if-place.false (omega (arith, c.requires.within, length-map c.args.formed.now.entries head_in))
