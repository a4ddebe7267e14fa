use Rattle.std.proofs.Common.{◌+◌, ◌≤◌, length, ap, arith, subst}
use Rattle.crash_plant.specs.declared.entry.Done.{Done}
use Rattle.crash_plant.specs.Pasts.{Fits}
use Rattle.crash_plant.proofs.Lefts.{length-repeated}
use Rattle.crash_plant.proofs.left.fill.Goals as goal

pub patch-requires : goal.patch-requires
patch-requires c =
    let fits : c.in-Write.place + c.in-Write.count ≤ length c.args.bytes.now.items = subst (λ (d : Done). Fits (length c.args.bytes.now.items) d) c.in-Write.is c.requires in
    omega (arith, fits, ap length c.deref.ensures.value, ap length c.deref_mut.ensures.value, ap length c.in_ok-piece-in-Write.ensures, length-repeated c.args.choice.now c.in-Write.count)
