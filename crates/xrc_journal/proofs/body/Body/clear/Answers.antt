use Rattle.std.proofs.Common.{◌≡◌, ◌≤◌, ◌∙◌, sym, ap, subst, arith, ℕ, List, [], ◌∷◌, length}
use Rattle.std.proofs.lemmas.List.{with_items_is}
use Rattle.crash_plant.specs.Bytes.{patched}
use Rattle.xrc_journal.specs.Bodies.{HoldsItems, held_in, without_items}
use Rattle.xrc_journal.proofs.Bodies.{put_size, holds_none}
use Rattle.xrc_journal.proofs.body.Body.clear.Goals as goal

pub invariant_of-self : goal.invariant_of-self
invariant_of-self c =
    let old = c.self.inside.buffer.items.items in
    let new = c.put_parts.new.buffer in
    let some : 1 ≤ length old = omega (arith, c.self.invariant.within) in
    let put = c.put_parts.ensures ∙ ap (λ (l : List ℕ). patched 0 (0 ∷ []) l) c.as_mut_slice.ensures.value in
    let len : length new ≡ c.self.inside.buffer.items.len = omega (arith, c.as_mut_slice.ensures.len, ap length c.as_mut_slice.ensures.value, put_size 0 [] old new some put) in
    subst (λ (t : List ℕ). HoldsItems 0 t) (sym (with_items_is c.self.inside.buffer.items new len)) (holds_none old new some put).holds

pub returns : goal.returns
returns c =
    let old = c.self.inside.buffer.items.items in
    let new = c.put_parts.new.buffer in
    let some : 1 ≤ length old = omega (arith, c.self.invariant.within) in
    let put = c.put_parts.ensures ∙ ap (λ (l : List ℕ). patched 0 (0 ∷ []) l) c.as_mut_slice.ensures.value in
    let len : length new ≡ c.self.inside.buffer.items.len = omega (arith, c.as_mut_slice.ensures.len, ap length c.as_mut_slice.ensures.value, put_size 0 [] old new some put) in
    ap (λ (t : List ℕ). held_in 0 t) (with_items_is c.self.inside.buffer.items new len) ∙ (holds_none old new some put).seen ∙ ap without_items c.self.view_is
