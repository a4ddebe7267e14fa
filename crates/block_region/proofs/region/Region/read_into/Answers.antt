use Rattle.std.proofs.Common.{◌≡◌, List, ℕ, length, get_or, sym, ap, ◌∙◌, arith}
use Rattle.block_region.specs.Regions.{ChainState}
use Rattle.block_region.specs.Runs.{run_bytes}
use Rattle.block_region.proofs.Views.{run_of, len_is, read_is}
use Rattle.block_region.proofs.region.Region.read_into.Goals as goal

pub gather-requires-clause-run : goal.gather-requires-clause-run
gather-requires-clause-run c =
    let r = c.self.inside in
    let chain = c.chain.inside in
    let len = len_is r.bytes.items r.next.items r.lens.items r.first_free r.free c.self.invariant c.args.self.now c.self.view_is c.args.chain.now chain.first chain.len c.chain.view_is c.requires.held (omega arith) in
    let size : length c.args.out.now ≡ get_or r.lens.items chain.first 0 = c.requires.length ∙ sym (ap (λ (k : ChainState). k.len) c.chain.view_is) ∙ sym len in
    rw (c.as_slice-2.ensures.value, size) (run_of r.bytes.items r.next.items r.lens.items r.first_free r.free c.self.invariant chain.first)

pub returns : goal.returns
returns c =
    let r = c.self.inside in
    let chain = c.chain.inside in
    let size = length c.args.out.now in
    c.gather.ensures
    ∙ ap (λ (b : List ℕ). run_bytes b c.as_slice-2.result.now chain.first size) c.as_slice.ensures.value
    ∙ ap (λ (n : List ℕ). run_bytes r.bytes.items n chain.first size) c.as_slice-2.ensures.value
    ∙ read_is r.bytes.items r.next.items r.lens.items r.first_free r.free c.self.invariant c.args.self.now c.self.view_is c.args.chain.now chain.first chain.len c.chain.view_is c.requires.held (omega arith) size c.requires.length
