use Rattle.std.proofs.Common.{rules, ◌+◌, ◌≢◌, List, ℕ, refl, slice_index, sym, ap, ◌∙◌, arith}
use Rattle.xrc_journal.specs.Items.{form_of}
use Rattle.xrc_journal.specs.Reading.{item_at}
use Rattle.xrc_journal.specs.Bodies.{earlier_of}
use Rattle.xrc_journal.specs.Answers.{length_of}
use Rattle.xrc_journal.proofs.ItemSteps.{split_tag, tag_late, tag_image, tag_narrow, tag_pair, tag_gone, tag_none}
use Rattle.xrc_journal.proofs.DrawnSets.{after_image, after_other, then_there, there}
use Rattle.xrc_journal.proofs.item.item_length.Goals as goal

pub returns-in-1-clause-length : goal.returns-in-1-clause-length
returns-in-1-clause-length g c = λ place.
    let form = form_of (g.P.Plant.state c.args.plant.now) in
    let earlier = earlier_of c.args.body.now in
    let fields = c.split_at.result.1.now in
    let whole = split_tag c.args.bytes.now c.split_at.result.0.now fields 1 c.requires.some c.split_at.ensures.front c.split_at.ensures.back c.in-1.is in
    sym (tag_late form earlier refl place fields (sym c.requires.late ∙ c.if-late.true))
    ∙ ap (λ (l : List ℕ). length_of (item_at form earlier (record { place = place; bytes = l }))) (sym whole)

pub returns-in-1-2-clause-length : goal.returns-in-1-2-clause-length
returns-in-1-2-clause-length g c = λ place.
    let form = form_of (g.P.Plant.state c.args.plant.now) in
    let earlier = earlier_of c.args.body.now in
    let fields = c.split_at.result.1.now in
    let whole = split_tag c.args.bytes.now c.split_at.result.0.now fields 1 c.requires.some c.split_at.ensures.front c.split_at.ensures.back c.in-1.is in
    c.image_length.ensures.length (place + 1) ∙ sym (tag_image form earlier refl place fields (sym c.requires.late ∙ c.if-late.false))
    ∙ ap (λ (l : List ℕ). length_of (item_at form earlier (record { place = place; bytes = l }))) (sym whole)

pub returns-in-3-clause-length : goal.returns-in-3-clause-length
returns-in-3-clause-length g c = λ place.
    let form = form_of (g.P.Plant.state c.args.plant.now) in
    let earlier = earlier_of c.args.body.now in
    let fields = c.split_at.result.1.now in
    let whole = split_tag c.args.bytes.now c.split_at.result.0.now fields 3 c.requires.some c.split_at.ensures.front c.split_at.ensures.back c.in-3.is in
    c.pair_length.ensures (place + 1) ∙ sym (tag_narrow form earlier refl place fields)
    ∙ ap (λ (l : List ℕ). length_of (item_at form earlier (record { place = place; bytes = l }))) (sym whole)

pub returns-in-4-clause-length : goal.returns-in-4-clause-length
returns-in-4-clause-length g c = λ place.
    let form = form_of (g.P.Plant.state c.args.plant.now) in
    let earlier = earlier_of c.args.body.now in
    let fields = c.split_at.result.1.now in
    let whole = split_tag c.args.bytes.now c.split_at.result.0.now fields 4 c.requires.some c.split_at.ensures.front c.split_at.ensures.back c.in-4.is in
    c.gone_length.ensures (place + 1) ∙ sym (tag_gone form earlier refl place fields)
    ∙ ap (λ (l : List ℕ). length_of (item_at form earlier (record { place = place; bytes = l }))) (sym whole)

pub returns-in-5-clause-length : goal.returns-in-5-clause-length
returns-in-5-clause-length g c = λ place.
    let form = form_of (g.P.Plant.state c.args.plant.now) in
    let earlier = earlier_of c.args.body.now in
    let fields = c.split_at.result.1.now in
    let whole = split_tag c.args.bytes.now c.split_at.result.0.now fields 5 c.requires.some c.split_at.ensures.front c.split_at.ensures.back c.in-5.is in
    c.pair_length-in-5.ensures (place + 1) ∙ sym (tag_pair form earlier refl place fields)
    ∙ ap (λ (l : List ℕ). length_of (item_at form earlier (record { place = place; bytes = l }))) (sym whole)

pub returns-in_default-clause-length : goal.returns-in_default-clause-length
returns-in_default-clause-length g c = λ place.
    let form = form_of (g.P.Plant.state c.args.plant.now) in
    let earlier = earlier_of c.args.body.now in
    let fields = c.split_at.result.1.now in
    let tag = slice_index c.split_at.result.0.now 0 in
    let one : tag ≢ 1 = search rules in
    let three : tag ≢ 3 = search rules in
    let four : tag ≢ 4 = search rules in
    let five : tag ≢ 5 = search rules in
    let whole = split_tag c.args.bytes.now c.split_at.result.0.now fields tag c.requires.some c.split_at.ensures.front c.split_at.ensures.back refl in
    sym (tag_none form earlier refl place fields tag one three four five) ∙ ap (λ (l : List ℕ). length_of (item_at form earlier (record { place = place; bytes = l }))) (sym whole)

pub returns-in-1-2-clause-known : goal.returns-in-1-2-clause-known
returns-in-1-2-clause-known g c =
    let fields = c.split_at.result.1.now in
    let whole = split_tag c.args.bytes.now c.split_at.result.0.now fields 1 c.requires.some c.split_at.ensures.front c.split_at.ensures.back c.in-1.is in
    then_there c.image_length.result c.image_length.ensures.known (λ known item begins. after_image c.args.bytes.now fields (earlier_of c.args.body.now) c.image_length.new.drawn item whole begins known)

pub returns-in-3-clause-known : goal.returns-in-3-clause-known
returns-in-3-clause-known g c =
    let fields = c.split_at.result.1.now in
    let whole = split_tag c.args.bytes.now c.split_at.result.0.now fields 3 c.requires.some c.split_at.ensures.front c.split_at.ensures.back c.in-3.is in
    there c.pair_length.result (λ item begins. after_other c.args.bytes.now fields 3 (earlier_of c.args.body.now) c.args.drawn.now item (λ e. absurd (omega (arith, e))) whole begins c.requires.known)

pub returns-in-4-clause-known : goal.returns-in-4-clause-known
returns-in-4-clause-known g c =
    let fields = c.split_at.result.1.now in
    let whole = split_tag c.args.bytes.now c.split_at.result.0.now fields 4 c.requires.some c.split_at.ensures.front c.split_at.ensures.back c.in-4.is in
    there c.gone_length.result (λ item begins. after_other c.args.bytes.now fields 4 (earlier_of c.args.body.now) c.args.drawn.now item (λ e. absurd (omega (arith, e))) whole begins c.requires.known)

pub returns-in-5-clause-known : goal.returns-in-5-clause-known
returns-in-5-clause-known g c =
    let fields = c.split_at.result.1.now in
    let whole = split_tag c.args.bytes.now c.split_at.result.0.now fields 5 c.requires.some c.split_at.ensures.front c.split_at.ensures.back c.in-5.is in
    there c.pair_length-in-5.result (λ item begins. after_other c.args.bytes.now fields 5 (earlier_of c.args.body.now) c.args.drawn.now item (λ e. absurd (omega (arith, e))) whole begins c.requires.known)
