use Rattle.std.proofs.Common.{◌≡◌, ◌∙◌, ap, sym, subst, arith, ℕ, ◌+◌, List, length, take}
use Rattle.std.proofs.lemmas.List.{with_items_is}
use Rattle.ckd_track.specs.declared.rec.Rec.{Rec}
use Rattle.ckd_track.specs.Images.{image}
use Rattle.ckd_track.specs.Slots.{HoldsImage, track_of_image}
use Rattle.ckd_track.proofs.Parts.{length-image, set_track}
use Rattle.ckd_track.proofs.Puts.{at_front}
use Rattle.ckd_track.proofs.slot.Slot.set.Goals as goal

zero_on : (n : ℕ) → 0 + n ≡ n
zero_on n = omega arith

pub put_image-self-inside-requires-clause-room : goal.put_image-self-inside-requires-clause-room
put_image-self-inside-requires-clause-room c =
    let short = length-image c.args.track.now c.recs.ensures.track in
    omega (arith, short, ap (λ (t : List Rec). length (image t)) c.recs.ensures.recs, ap length c.as_mut_slice.ensures.value, c.self.invariant.sized)

pub invariant_of-self : goal.invariant_of-self
invariant_of-self c =
    let done = set_track c.recs.result.now c.args.track.now c.put_image-self-inside.result c.as_mut_slice.result.now c.self.inside.buffer.items.items c.put_image-self-inside.new.buffer c.recs.ensures.recs c.as_mut_slice.ensures.value c.self.invariant.sized c.recs.ensures.track (c.put_image-self-inside.ensures.bytes ∙ at_front (image c.recs.result.now) c.as_mut_slice.result.now) (c.put_image-self-inside.ensures.end ∙ zero_on (length (image c.recs.result.now))) in
    let len : length c.put_image-self-inside.new.buffer ≡ c.self.inside.buffer.items.len = omega (arith, c.as_mut_slice.ensures.len, ap length c.as_mut_slice.ensures.value, done.holds.sized, c.self.invariant.sized) in
    subst (λ (t : List ℕ). HoldsImage c.put_image-self-inside.result t) (sym (with_items_is c.self.inside.buffer.items c.put_image-self-inside.new.buffer len)) done.holds

pub returns : goal.returns
returns c =
    let done = set_track c.recs.result.now c.args.track.now c.put_image-self-inside.result c.as_mut_slice.result.now c.self.inside.buffer.items.items c.put_image-self-inside.new.buffer c.recs.ensures.recs c.as_mut_slice.ensures.value c.self.invariant.sized c.recs.ensures.track (c.put_image-self-inside.ensures.bytes ∙ at_front (image c.recs.result.now) c.as_mut_slice.result.now) (c.put_image-self-inside.ensures.end ∙ zero_on (length (image c.recs.result.now))) in
    let len : length c.put_image-self-inside.new.buffer ≡ c.self.inside.buffer.items.len = omega (arith, c.as_mut_slice.ensures.len, ap length c.as_mut_slice.ensures.value, done.holds.sized, c.self.invariant.sized) in
    ap (λ (t : List ℕ). track_of_image (take c.put_image-self-inside.result t)) (with_items_is c.self.inside.buffer.items c.put_image-self-inside.new.buffer len) ∙ done.seen
