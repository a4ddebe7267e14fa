use Rattle.std.proofs.Common.{◌≡◌, ◌-◌, ◌∙◌, ap, arith, ℕ, List, [], length}
use Rattle.std.proofs.lemmas.List.{with_items_is}
use Rattle.xrc_journal.specs.Items.{form_of}
use Rattle.xrc_journal.specs.Bodies.{BodyState, held_in, without_items}
use Rattle.xrc_journal.proofs.Fills.{none_held, none_keeps}
use Rattle.xrc_journal.proofs.body.Body.fill.Goals as goal

pub returns-in-Err-clause-err : goal.returns-in-Err-clause-err
returns-in-Err-clause-err g c =
    let new = c.fill.new.buffer in
    let size : length new ≡ length c.self.inside.buffer.items.items = c.fill.ensures.size ∙ ap length c.as_mut_slice.ensures.value in
    let len : length new ≡ c.self.inside.buffer.items.len = omega (arith, c.as_mut_slice.ensures.len, ap length c.as_mut_slice.ensures.value, size) in
    ap (λ (t : List ℕ). held_in 0 t) (with_items_is c.self.inside.buffer.items new len) ∙ none_held new
    ∙ (λ i. let h : BodyState = record { items = []; room = size i - 1 } in h) ∙ ap without_items c.self.view_is

pub returns-in-Err-clause-keep : goal.returns-in-Err-clause-keep
returns-in-Err-clause-keep g c = none_keeps (form_of (g.P.Plant.state c.args.plant.now))
