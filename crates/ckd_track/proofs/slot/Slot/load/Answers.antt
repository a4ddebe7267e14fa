use Rattle.std.proofs.Common.{◌∙◌, ap, sym, arith, Ok, length, drop, List, length-take}
use Rattle.ckd_track.specs.declared.rec.Rec.{Rec}
use Rattle.ckd_track.specs.Images.{image}
use Rattle.ckd_track.proofs.Parts.{begins_image}
use Rattle.ckd_track.proofs.slot.Slot.load.Goals as goal

pub slice_bounds-put-end : goal.slice_bounds-put-end
slice_bounds-put-end c =
    let is = begins_image c.args.bytes.now c.in-Ok.length (λ i. omega (arith, c.type_inv.bytes i)) c.in-Ok.ensures.ok c.in-Ok.ensures.length in
    omega (arith, is.within, length-take c.in-Ok.length c.args.bytes.now)

pub put-requires : goal.put-requires
put-requires c = (begins_image c.args.bytes.now c.in-Ok.length (λ i. omega (arith, c.type_inv.bytes i)) c.in-Ok.ensures.ok c.in-Ok.ensures.length).is_image

pub returns-in-Ok-clause-ok : goal.returns-in-Ok-clause-ok
returns-in-Ok-clause-ok c =
    let is = begins_image c.args.bytes.now c.in-Ok.length (λ i. omega (arith, c.type_inv.bytes i)) c.in-Ok.ensures.ok c.in-Ok.ensures.length in
    c.in-Ok.ensures.ok ∙ ap (λ (t : List Rec). Ok (t, drop c.in-Ok.length c.args.bytes.now)) (sym (c.put.ensures ∙ is.same))

pub returns-in-Ok-clause-length : goal.returns-in-Ok-clause-length
returns-in-Ok-clause-length c =
    let is = begins_image c.args.bytes.now c.in-Ok.length (λ i. omega (arith, c.type_inv.bytes i)) c.in-Ok.ensures.ok c.in-Ok.ensures.length in
    c.in-Ok.ensures.length ∙ ap (λ (t : List Rec). length (image t)) (sym (c.put.ensures ∙ is.same))
