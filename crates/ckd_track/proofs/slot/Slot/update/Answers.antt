use Rattle.std.proofs.Common.{◌≡◌, ◌∙◌, ap, sym, subst, arith, ℕ, List, length, take}
use Rattle.std.proofs.lemmas.List.{with_items_is}
use Rattle.ckd_track.specs.declared.rec.Rec.{Rec}
use Rattle.ckd_track.specs.Effects.{updated}
use Rattle.ckd_track.specs.Slots.{HoldsImage, track_of_image}
use Rattle.ckd_track.proofs.slot.Slot.update.Goals as goal

pub update_image-requires : goal.update_image-requires
update_image-requires c = record { holds = subst (λ (t : List ℕ). HoldsImage c.self.inside.used t) (sym c.as_mut_slice.ensures.value) c.self.invariant }

pub invariant_of-self : goal.invariant_of-self
invariant_of-self c =
    let len : length c.update_image.new.buffer ≡ c.self.inside.buffer.items.len = omega (arith, c.as_mut_slice.ensures.len, ap length c.as_mut_slice.ensures.value, c.update_image.ensures.holds.sized, c.self.invariant.sized) in
    subst (λ (t : List ℕ). HoldsImage c.self.inside.used t) (sym (with_items_is c.self.inside.buffer.items c.update_image.new.buffer len)) c.update_image.ensures.holds

pub returns : goal.returns
returns c =
    let len : length c.update_image.new.buffer ≡ c.self.inside.buffer.items.len = omega (arith, c.as_mut_slice.ensures.len, ap length c.as_mut_slice.ensures.value, c.update_image.ensures.holds.sized, c.self.invariant.sized) in
    ap (λ (t : List ℕ). track_of_image (take c.self.inside.used t)) (with_items_is c.self.inside.buffer.items c.update_image.new.buffer len) ∙ c.update_image.ensures.seen
    ∙ ap (λ (t : List ℕ). updated c.args.number c.args.bytes.now (track_of_image (take c.self.inside.used t))) c.as_mut_slice.ensures.value ∙ ap (λ (t : List Rec). updated c.args.number c.args.bytes.now t) c.self.view_is
