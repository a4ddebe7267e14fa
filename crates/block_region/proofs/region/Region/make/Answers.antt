use Rattle.std.proofs.Common.{List, ℕ, ap, arith}
use Rattle.block_region.proofs.Making.{made_keeps, made_chains}
use Rattle.block_region.proofs.region.Region.make.Goals as goal

pub invariant_of-result : goal.invariant_of-result
invariant_of-result c =
    let bytes = c.in_ok-vec.field-0 in
    let next = c.in_ok-linked.field-0 in
    let lens = c.in_ok-vec-2.field-0 in
    made_keeps bytes.items next.items lens.items c.args.blocks (omega (arith, c.ranges.blocks.fits)) (omega (arith, c.in_ok-vec.ensures.len, bytes.ok.0)) c.in_ok-linked.ensures (c.in_ok-vec-2.ensures.items_if_clones_equal (λ y same. same))

pub returns : goal.returns
returns c =
    let bytes = c.in_ok-vec.field-0 in
    let next = c.in_ok-linked.field-0 in
    let lens = c.in_ok-vec-2.field-0 in
    ap (λ (chains : List (List ℕ)). record { chains = chains })
    (made_chains bytes.items next.items lens.items c.args.blocks (omega (arith, c.ranges.blocks.fits)) (omega (arith, c.in_ok-vec.ensures.len, bytes.ok.0)) c.in_ok-linked.ensures (c.in_ok-vec-2.ensures.items_if_clones_equal (λ y same. same)))
