use Rattle.std.proofs.Common.{rules, slice_set, subst, ◌≡◌, ◌≤◌, ◌+◌, ◌++◌, ℕ, length, take, drop, ◌-◌, length-take, refl, sym, ap, ◌∙◌, arith, length-append, length-drop}
use Rattle.xrc_journal.specs.Items.{AreItems, Form, form_of}
use Rattle.xrc_journal.specs.Bodies.{items_of}
use Rattle.xrc_journal.specs.Reading.{items_at}
use Rattle.xrc_journal.proofs.Appends.{same_form}
use Rattle.xrc_journal.proofs.Fills.{fill_holds, fill_items, fill_keeps, shut_first}
use Rattle.xrc_journal.proofs.filling.fill.Goals as goal

pub returns-in-Ok-clause-holds : goal.returns-in-Ok-clause-holds
returns-in-Ok-clause-holds g c =
    let rest = drop c.args.count c.args.buffer.now in
    let size : length c.read.new.into ≡ c.args.count = search rules in
    let some : 1 ≤ length rest = omega (arith, c.requires.room, length-drop c.args.count c.args.buffer.now) in
    fill_holds (form_of (g.P.Plant.state c.read.new.self)) refl c.read.new.into rest _ c.good_length-good.result c.args.count size some refl c.good_length-good.ensures

pub returns-in-Ok-clause-items : goal.returns-in-Ok-clause-items
returns-in-Ok-clause-items g c told =
    let old = g.P.Plant.state c.args.plant.now in
    let new = g.P.Plant.state c.read.new.self in
    let rest = drop c.args.count c.args.buffer.now in
    let size : length c.read.new.into ≡ c.args.count = search rules in
    let some : 1 ≤ length rest = omega (arith, c.requires.room, length-drop c.args.count c.args.buffer.now) in
    let read = fill_items (form_of new) refl c.read.new.into rest _ c.good_length-good.result c.args.count size some refl c.good_length-good.ensures c.args.place in
    let form = sym (same_form old new c.read.ensures.only.site) in
    let count : c.args.place + length (take c.args.count c.args.buffer.now) - c.args.place ≡ c.args.count = omega (arith, c.requires.room, length-take c.args.count c.args.buffer.now) in
    let bytes = c.in-Ok.ensures.bytes told ∙ ap (λ (k : ℕ). take k (drop c.args.place (old.bytes c.args.device))) count in
    (λ i. items_at (form i) c.args.place (sym bytes i)) ∙ read

pub returns-in-Err-clause-err : goal.returns-in-Err-clause-err
returns-in-Err-clause-err g c =
    shut_first (c.read.new.into ++ drop c.args.count c.args.buffer.now) (omega (arith, c.requires.room, length-append c.read.new.into (drop c.args.count c.args.buffer.now), length-drop c.args.count c.args.buffer.now))

pub returns-in-Ok-clause-keep : goal.returns-in-Ok-clause-keep
returns-in-Ok-clause-keep g c =
    let old = g.P.Plant.state c.args.plant.now in
    let new = g.P.Plant.state c.read.new.self in
    let rest = drop c.args.count c.args.buffer.now in
    let size : length c.read.new.into ≡ c.args.count = search rules in
    let some : 1 ≤ length rest = omega (arith, c.requires.room, length-drop c.args.count c.args.buffer.now) in
    subst (λ (form : Form). AreItems form (items_of (take c.good_length-good.result (slice_set (c.read.new.into ++ rest) c.good_length-good.result 0)))) (same_form old new c.read.ensures.only.site)
    (fill_keeps (form_of new) refl c.read.new.into rest _ c.good_length-good.result c.args.count size some refl c.good_length-good.ensures)
