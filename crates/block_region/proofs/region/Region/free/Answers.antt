use Rattle.std.proofs.Common.{arith}
use Rattle.block_region.proofs.Views.{room_is}
use Rattle.block_region.proofs.region.Region.free.Goals as goal

pub returns-clause-whole : goal.returns-clause-whole
returns-clause-whole c = let r = c.self.inside in room_is r.bytes.items r.next.items r.lens.items r.first_free r.free c.self.invariant c.args.self.now c.self.view_is

pub returns-clause-free : goal.returns-clause-free
returns-clause-free c =
    let r = c.self.inside in
    omega (arith, room_is r.bytes.items r.next.items r.lens.items r.first_free r.free c.self.invariant c.args.self.now c.self.view_is)
