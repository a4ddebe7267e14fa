use Rattle.std.proofs.Common.{◌≡◌, ◌∙◌, ap, sym, subst, arith, ℕ, List, length, take}
use Rattle.std.proofs.lemmas.List.{with_items_is}
use Rattle.ckd_track.specs.declared.rec.Rec.{Rec}
use Rattle.ckd_track.specs.Effects.{formatted}
use Rattle.ckd_track.specs.Slots.{HoldsImage, track_of_image, spelled_records}
use Rattle.ckd_track.proofs.slot.Slot.format_spelled.Goals as goal

pub format_image_spelled-self-inside-requires-clause-holds : goal.format_image_spelled-self-inside-requires-clause-holds
format_image_spelled-self-inside-requires-clause-holds c = subst (λ (t : List ℕ). HoldsImage c.self.inside.used t) (sym c.as_mut_slice.ensures.value) c.self.invariant

pub invariant_of-self : goal.invariant_of-self
invariant_of-self c =
    let done = c.format_image_spelled-self-inside in
    let len : length done.new.buffer ≡ c.self.inside.buffer.items.len = omega (arith, c.as_mut_slice.ensures.len, ap length c.as_mut_slice.ensures.value, done.ensures.holds.sized, c.self.invariant.sized) in
    subst (λ (t : List ℕ). HoldsImage done.result t) (sym (with_items_is c.self.inside.buffer.items done.new.buffer len)) done.ensures.holds

pub returns : goal.returns
returns c =
    let done = c.format_image_spelled-self-inside in
    let len : length done.new.buffer ≡ c.self.inside.buffer.items.len = omega (arith, c.as_mut_slice.ensures.len, ap length c.as_mut_slice.ensures.value, done.ensures.holds.sized, c.self.invariant.sized) in
    ap (λ (t : List ℕ). track_of_image (take done.result t)) (with_items_is c.self.inside.buffer.items done.new.buffer len) ∙ done.ensures.seen
    ∙ ap (λ (t : List ℕ). formatted c.args.after (spelled_records c.args.count c.args.given.now) (track_of_image (take c.self.inside.used t))) c.as_mut_slice.ensures.value ∙ ap (λ (t : List Rec). formatted c.args.after (spelled_records c.args.count c.args.given.now) t) c.self.view_is
