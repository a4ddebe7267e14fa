use Rattle.std.proofs.Common.{◌≡◌, ◌+◌, length, take, ◌∙◌, ap, arith, refl}
use Rattle.std.proofs.lemmas.List.{take_all}
use Rattle.block_region.specs.Blocks.{blocks_of}
use Rattle.block_region.specs.Regions.{RegionState, chain_bytes_at, free_blocks}
use Rattle.block_region.proofs.Views.{free_run, room_is}
use Rattle.block_region.proofs.Takes.{took, takes_none}
use Rattle.block_region.proofs.region.Region.take.Goals as goal

pub returns-then-needed-self-clause-full : goal.returns-then-needed-self-clause-full
returns-then-needed-self-clause-full c =
    let r = c.self.inside in
    let room = room_is r.bytes.items r.next.items r.lens.items r.first_free r.free c.self.invariant c.args.self.now c.self.view_is in
    (λ same. omega (arith, room, c.blocks_of-needed.ensures), λ less. refl)

pub returns-then-needed-self-clause-says : goal.returns-then-needed-self-clause-says
returns-then-needed-self-clause-says c =
    let r = c.self.inside in
    let room = room_is r.bytes.items r.next.items r.lens.items r.first_free r.free c.self.invariant c.args.self.now c.self.view_is in
    let free : r.free ≡ free_blocks c.args.self.now = omega (arith, room) in
    ap (λ n. record { needed = n; free = r.free }) c.blocks_of-needed.ensures ∙ ap (λ n. record { needed = blocks_of (length c.args.bytes.now); free = n }) free

pub returns-then-len-eq0-clause-fresh : goal.returns-then-len-eq0-clause-fresh
returns-then-len-eq0-clause-fresh c =
    let r = c.self.inside in
    (takes_none r.bytes.items r.next.items r.lens.items r.first_free r.free 4294967295 c.args.self.now c.args.bytes.now c.self.invariant c.self.view_is refl).0

pub returns-then-len-eq0-clause-taken : goal.returns-then-len-eq0-clause-taken
returns-then-len-eq0-clause-taken c =
    let r = c.self.inside in
    (takes_none r.bytes.items r.next.items r.lens.items r.first_free r.free 4294967295 c.args.self.now c.args.bytes.now c.self.invariant c.self.view_is refl).1

pub fill-self-inside-requires-clause-run : goal.fill-self-inside-requires-clause-run
fill-self-inside-requires-clause-run c =
    let r = c.self.inside in
    rw c.as_slice.ensures.value (free_run r.bytes.items r.next.items r.lens.items r.first_free r.free c.self.invariant (blocks_of (length c.args.bytes.now)) (omega (arith, c.blocks_of-needed.ensures)))

pub index_mut-requires : goal.index_mut-requires
index_mut-requires c =
    let taken = took c.self.inside c.args.self.now c.args.bytes.now c.as_mut_slice.result.now c.as_slice.result.now c.fill-self-inside.new.blocks c.blocks_of-needed.result c.fill-self-inside.result c.self.invariant c.self.view_is c.as_mut_slice.ensures.value c.as_slice.ensures.value c.fill-self-inside.ensures.len c.fill-self-inside.ensures.filled c.fill-self-inside.ensures.others c.fill-self-inside.ensures.after c.blocks_of-needed.ensures (omega arith) (omega arith) in
    omega (arith, taken.first_inside, c.self.inside.lens.ok.0)

pub invariant_of-self : goal.invariant_of-self
invariant_of-self c =
    (took c.self.inside c.args.self.now c.args.bytes.now c.as_mut_slice.result.now c.as_slice.result.now c.fill-self-inside.new.blocks c.blocks_of-needed.result c.fill-self-inside.result c.self.invariant c.self.view_is c.as_mut_slice.ensures.value c.as_slice.ensures.value c.fill-self-inside.ensures.len c.fill-self-inside.ensures.filled c.fill-self-inside.ensures.others c.fill-self-inside.ensures.after c.blocks_of-needed.ensures (omega arith) (omega arith)).keeps

pub returns-clause-fresh : goal.returns-clause-fresh
returns-clause-fresh c =
    (took c.self.inside c.args.self.now c.args.bytes.now c.as_mut_slice.result.now c.as_slice.result.now c.fill-self-inside.new.blocks c.blocks_of-needed.result c.fill-self-inside.result c.self.invariant c.self.view_is c.as_mut_slice.ensures.value c.as_slice.ensures.value c.fill-self-inside.ensures.len c.fill-self-inside.ensures.filled c.fill-self-inside.ensures.others c.fill-self-inside.ensures.after c.blocks_of-needed.ensures (omega arith) (omega arith)).fresh

pub returns-clause-taken : goal.returns-clause-taken
returns-clause-taken c =
    (took c.self.inside c.args.self.now c.args.bytes.now c.as_mut_slice.result.now c.as_slice.result.now c.fill-self-inside.new.blocks c.blocks_of-needed.result c.fill-self-inside.result c.self.invariant c.self.view_is c.as_mut_slice.ensures.value c.as_slice.ensures.value c.fill-self-inside.ensures.len c.fill-self-inside.ensures.filled c.fill-self-inside.ensures.others c.fill-self-inside.ensures.after c.blocks_of-needed.ensures (omega arith) (omega arith)).taken

pub returns-clause-held : goal.returns-clause-held
returns-clause-held c =
    let taken = took c.self.inside c.args.self.now c.args.bytes.now c.as_mut_slice.result.now c.as_slice.result.now c.fill-self-inside.new.blocks c.blocks_of-needed.result c.fill-self-inside.result c.self.invariant c.self.view_is c.as_mut_slice.ensures.value c.as_slice.ensures.value c.fill-self-inside.ensures.len c.fill-self-inside.ensures.filled c.fill-self-inside.ensures.others c.fill-self-inside.ensures.after c.blocks_of-needed.ensures (omega arith) (omega arith) in
    λ some. ap (λ (r : RegionState). length (chain_bytes_at r c.self.inside.first_free)) taken.taken ∙ ap length taken.begins

pub returns-clause-bytes : goal.returns-clause-bytes
returns-clause-bytes c =
    let taken = took c.self.inside c.args.self.now c.args.bytes.now c.as_mut_slice.result.now c.as_slice.result.now c.fill-self-inside.new.blocks c.blocks_of-needed.result c.fill-self-inside.result c.self.invariant c.self.view_is c.as_mut_slice.ensures.value c.as_slice.ensures.value c.fill-self-inside.ensures.len c.fill-self-inside.ensures.filled c.fill-self-inside.ensures.others c.fill-self-inside.ensures.after c.blocks_of-needed.ensures (omega arith) (omega arith) in
    let given = c.args.bytes.now in
    ap (λ (r : RegionState). take (length given) (chain_bytes_at r c.self.inside.first_free)) taken.taken ∙ ap (take (length given)) taken.begins ∙ take_all (length given) given (omega arith)

pub returns-clause-room : goal.returns-clause-room
returns-clause-room c =
    let taken = took c.self.inside c.args.self.now c.args.bytes.now c.as_mut_slice.result.now c.as_slice.result.now c.fill-self-inside.new.blocks c.blocks_of-needed.result c.fill-self-inside.result c.self.invariant c.self.view_is c.as_mut_slice.ensures.value c.as_slice.ensures.value c.fill-self-inside.ensures.len c.fill-self-inside.ensures.filled c.fill-self-inside.ensures.others c.fill-self-inside.ensures.after c.blocks_of-needed.ensures (omega arith) (omega arith) in
    ap (λ (r : RegionState). free_blocks r + blocks_of (length c.args.bytes.now)) taken.taken ∙ taken.room

pub returns-clause-full : goal.returns-clause-full
returns-clause-full c =
    let r = c.self.inside in
    let room = room_is r.bytes.items r.next.items r.lens.items r.first_free r.free c.self.invariant c.args.self.now c.self.view_is in
    (λ same. absurd (cc), λ less. absurd (omega (arith, room, c.blocks_of-needed.ensures)))
