use Rattle.std.proofs.Common.{◌≡◌, ◌+◌, ◌∙◌, sym, ap, subst, arith, ℕ, List, [], ◌∷◌, ◌++◌, length}
use Rattle.std.proofs.lemmas.List.{with_items_is}
use Rattle.crash_plant.specs.Bytes.{patched}
use Rattle.xrc_journal.specs.Bodies.{HoldsItems, held_in}
use Rattle.xrc_journal.proofs.Bodies.{put_in}
use Rattle.xrc_journal.proofs.body.Body.put.Goals as goal

pub invariant_of-self : goal.invariant_of-self
invariant_of-self c =
    let old = c.self.inside.buffer.items.items in
    let new = c.put_parts.new.buffer in
    let next = c.requires.next in
    let put = c.put_parts.ensures ∙ ap (λ (l : List ℕ). patched c.self.inside.used (c.args.front.now ++ c.args.back.now ++ 0 ∷ []) l) c.as_mut_slice.ensures.value in
    let done = put_in next.item c.args.self.now c.self.inside.used c.args.front.now c.args.back.now old new (sym c.self.view_is) c.self.invariant next.keeps next.spelled c.requires.fits put in
    let len : length new ≡ c.self.inside.buffer.items.len = omega (arith, c.as_mut_slice.ensures.len, ap length c.as_mut_slice.ensures.value, done.size) in
    subst (λ (t : List ℕ). HoldsItems (c.self.inside.used + (length c.args.front.now + length c.args.back.now)) t) (sym (with_items_is c.self.inside.buffer.items new len)) done.holds

pub returns-clause-put : goal.returns-clause-put
returns-clause-put c = λ item keeps spelled.
    let old = c.self.inside.buffer.items.items in
    let new = c.put_parts.new.buffer in
    let put = c.put_parts.ensures ∙ ap (λ (l : List ℕ). patched c.self.inside.used (c.args.front.now ++ c.args.back.now ++ 0 ∷ []) l) c.as_mut_slice.ensures.value in
    let done = put_in item c.args.self.now c.self.inside.used c.args.front.now c.args.back.now old new (sym c.self.view_is) c.self.invariant keeps spelled c.requires.fits put in
    let len : length new ≡ c.self.inside.buffer.items.len = omega (arith, c.as_mut_slice.ensures.len, ap length c.as_mut_slice.ensures.value, done.size) in
    ap (λ (t : List ℕ). held_in (c.self.inside.used + (length c.args.front.now + length c.args.back.now)) t) (with_items_is c.self.inside.buffer.items new len) ∙ done.seen

pub returns-clause-keep : goal.returns-clause-keep
returns-clause-keep c =
    let old = c.self.inside.buffer.items.items in
    let new = c.put_parts.new.buffer in
    let next = c.requires.next in
    let put = c.put_parts.ensures ∙ ap (λ (l : List ℕ). patched c.self.inside.used (c.args.front.now ++ c.args.back.now ++ 0 ∷ []) l) c.as_mut_slice.ensures.value in
    let done = put_in next.item c.args.self.now c.self.inside.used c.args.front.now c.args.back.now old new (sym c.self.view_is) c.self.invariant next.keeps next.spelled c.requires.fits put in
    let len : length new ≡ c.self.inside.buffer.items.len = omega (arith, c.as_mut_slice.ensures.len, ap length c.as_mut_slice.ensures.value, done.size) in
    let holds = subst (λ (t : List ℕ). HoldsItems (c.self.inside.used + (length c.args.front.now + length c.args.back.now)) t) (sym (with_items_is c.self.inside.buffer.items new len)) done.holds in
    holds.keep
