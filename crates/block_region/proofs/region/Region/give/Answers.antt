use Rattle.std.proofs.Common.{◌∙◌, ap, arith}
use Rattle.block_region.specs.Regions.{RegionState, free_blocks}
use Rattle.block_region.proofs.Views.{run_of, count_fits, len_is}
use Rattle.block_region.proofs.Gives.{gave}
use Rattle.block_region.proofs.region.Region.give.Goals as goal

pub blocks_of-count-requires : goal.blocks_of-count-requires
blocks_of-count-requires c =
    let r = c.self.inside in
    let chain = c.chain.inside in
    let len = len_is r.bytes.items r.next.items r.lens.items r.first_free r.free c.self.invariant c.args.self.now c.self.view_is c.args.chain chain.first chain.len c.chain.view_is c.requires (omega arith) in
    omega (arith, len, count_fits r.bytes.items r.next.items r.lens.items r.first_free r.free c.self.invariant chain.first, c.self.invariant.few)

pub block_after-last-requires : goal.block_after-last-requires
block_after-last-requires c = λ k lt.
    let r = c.self.inside in
    let chain = c.chain.inside in
    let len = len_is r.bytes.items r.next.items r.lens.items r.first_free r.free c.self.invariant c.args.self.now c.self.view_is c.args.chain chain.first chain.len c.chain.view_is c.requires (omega arith) in
    rw c.as_slice.ensures.value ((run_of r.bytes.items r.next.items r.lens.items r.first_free r.free c.self.invariant chain.first).within k (omega (arith, len, c.blocks_of-count.ensures)))

pub index_mut-requires : goal.index_mut-requires
index_mut-requires c =
    let given = gave c.self.inside c.chain.inside c.args.self.now c.args.chain c.as_slice.result.now c.blocks_of-count.result c.block_after-last.result c.self.invariant c.self.view_is c.chain.view_is c.requires (omega arith) c.blocks_of-count.ensures c.as_slice.ensures.value c.block_after-last.ensures in
    omega (arith, given.last_inside, c.self.inside.next.ok.0)

pub overflow_add-self : goal.overflow_add-self
overflow_add-self c =
    let given = gave c.self.inside c.chain.inside c.args.self.now c.args.chain c.as_slice.result.now c.blocks_of-count.result c.block_after-last.result c.self.invariant c.self.view_is c.chain.view_is c.requires (omega arith) c.blocks_of-count.ensures c.as_slice.ensures.value c.block_after-last.ensures in
    omega (arith, given.fits)

pub index_mut-requires-2 : goal.index_mut-requires-2
index_mut-requires-2 c =
    let given = gave c.self.inside c.chain.inside c.args.self.now c.args.chain c.as_slice.result.now c.blocks_of-count.result c.block_after-last.result c.self.invariant c.self.view_is c.chain.view_is c.requires (omega arith) c.blocks_of-count.ensures c.as_slice.ensures.value c.block_after-last.ensures in
    omega (arith, given.first_inside, c.self.inside.lens.ok.0)

pub invariant_of-self : goal.invariant_of-self
invariant_of-self c =
    (gave c.self.inside c.chain.inside c.args.self.now c.args.chain c.as_slice.result.now c.blocks_of-count.result c.block_after-last.result c.self.invariant c.self.view_is c.chain.view_is c.requires (omega arith) c.blocks_of-count.ensures c.as_slice.ensures.value c.block_after-last.ensures).keeps

pub returns-clause-given : goal.returns-clause-given
returns-clause-given c =
    (gave c.self.inside c.chain.inside c.args.self.now c.args.chain c.as_slice.result.now c.blocks_of-count.result c.block_after-last.result c.self.invariant c.self.view_is c.chain.view_is c.requires (omega arith) c.blocks_of-count.ensures c.as_slice.ensures.value c.block_after-last.ensures).given

pub returns-clause-room : goal.returns-clause-room
returns-clause-room c =
    let given = gave c.self.inside c.chain.inside c.args.self.now c.args.chain c.as_slice.result.now c.blocks_of-count.result c.block_after-last.result c.self.invariant c.self.view_is c.chain.view_is c.requires (omega arith) c.blocks_of-count.ensures c.as_slice.ensures.value c.block_after-last.ensures in
    ap (λ (r : RegionState). free_blocks r) given.given ∙ given.room
