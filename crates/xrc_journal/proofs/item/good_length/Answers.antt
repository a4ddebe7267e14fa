use Rattle.std.proofs.Common.{rules, ◌≡◌, ◌+◌, ◌≤◌, not, nat_eq, None, refl, List, ℕ, length, slice_index, sym, subst, ◌∙◌, arith}
use Rattle.xrc_journal.specs.Items.{Earlier, earlier_after, form_of}
use Rattle.xrc_journal.specs.Reading.{item_at, items_from}
use Rattle.xrc_journal.specs.Bodies.{BeginsWith, IsBody, earlier_of}
use Rattle.xrc_journal.specs.Drawn.{AreDrawn}
use Rattle.xrc_journal.specs.Answers.{length_of}
use Rattle.xrc_journal.proofs.Fronts.{ReadsTo, reads_none, reads_body, reads_all, reads_bad, reads_more}
use Rattle.xrc_journal.proofs.item.good_length.Goals as goal

pub loop-good-init : goal.loop-good-init
unfolding items_from
loop-good-init g c = record {
  reads = reads_none (form_of (g.P.Plant.state c.args.plant.now)) c.args.bytes.now;
  known = c.make-drawn.ensures;
}

pub item_length-requires-clause-body : goal.item_length-requires-clause-body
item_length-requires-clause-body g c = λ κs told.
    subst (λ (l : List ℕ). IsBody l) (sym c.split_at.ensures.front) (reads_body (form_of (g.P.Plant.state c.args.plant.now)) refl c.args.bytes.now c.loop-good.good c.loop-good.late c.loop-good.invariant.reads)

pub returns-in_default : goal.returns-in_default
returns-in_default g c =
    let form = form_of (g.P.Plant.state c.args.plant.now) in
    let none : c.item_length.result ≡ None = c.in_default.is in
    reads_bad form refl c.args.bytes.now c.loop-good.good c.loop-good.late c.loop-good.invariant.reads c.loop-good-test.true
    (λ place. (λ i. length_of (item_at form (earlier_of (sym c.split_at.ensures.front i)) (record { place = place; bytes = sym c.split_at.ensures.back i }))) ∙ sym (c.item_length.ensures.length place) ∙ none)

pub overflow_add-good : goal.overflow_add-good
overflow_add-good g c =
    let form = form_of (g.P.Plant.state c.args.plant.now) in
    let more = reads_more form refl c.args.bytes.now c.loop-good.good c.loop-good.late c.loop-good.invariant.reads c.in-Some.length (λ i. omega (arith, c.type_inv.bytes i))
    ((λ i. length_of (item_at form (earlier_of (sym c.split_at.ensures.front i)) (record { place = 0; bytes = sym c.split_at.ensures.back i }))) ∙ sym (c.item_length.ensures.length 0) ∙ c.in-Some.is) in
    let le : c.loop-good.good + c.in-Some.length ≤ length c.args.bytes.now = more.within in
    search rules

pub loop-good-smaller : goal.loop-good-smaller
loop-good-smaller g c =
    let form = form_of (g.P.Plant.state c.args.plant.now) in
    let more = reads_more form refl c.args.bytes.now c.loop-good.good c.loop-good.late c.loop-good.invariant.reads c.in-Some.length (λ i. omega (arith, c.type_inv.bytes i))
    ((λ i. length_of (item_at form (earlier_of (sym c.split_at.ensures.front i)) (record { place = 0; bytes = sym c.split_at.ensures.back i }))) ∙ sym (c.item_length.ensures.length 0) ∙ c.in-Some.is) in
    omega (arith, more.some, more.within)

pub loop-good-preserved : goal.loop-good-preserved
loop-good-preserved g c =
    let form = form_of (g.P.Plant.state c.args.plant.now) in
    let more = reads_more form refl c.args.bytes.now c.loop-good.good c.loop-good.late c.loop-good.invariant.reads c.in-Some.length (λ i. omega (arith, c.type_inv.bytes i))
    ((λ i. length_of (item_at form (earlier_of (sym c.split_at.ensures.front i)) (record { place = 0; bytes = sym c.split_at.ensures.back i }))) ∙ sym (c.item_length.ensures.length 0) ∙ c.in-Some.is) in
    record {
      reads = subst (λ (l : List ℕ). ReadsTo form c.args.bytes.now (c.loop-good.good + c.in-Some.length) (not (nat_eq (slice_index l 0) 1))) (sym c.split_at.ensures.back) more.reads;
      known = subst (λ (e : Earlier). AreDrawn c.item_length.new.drawn e.drawn) (sym more.earlier_is)
          (subst (λ (l : List ℕ). AreDrawn c.item_length.new.drawn (earlier_after more.item (earlier_of l)).drawn) c.split_at.ensures.front
          (c.in-Some.ensures.known more.item (subst (λ (l : List ℕ). BeginsWith l more.item) (sym c.split_at.ensures.back) more.begins)));
    }

pub returns : goal.returns
returns g c = reads_all (form_of (g.P.Plant.state c.args.plant.now)) refl c.args.bytes.now c.loop-good.good c.loop-good.late c.loop-good.invariant.reads (omega (arith, c.loop-good-test.false))

pub item_length-requires-clause-known : goal.item_length-requires-clause-known
item_length-requires-clause-known g c = λ κs told. subst (λ (l : List ℕ). AreDrawn c.loop-good.drawn (earlier_of l).drawn) (sym c.split_at.ensures.front) c.loop-good.invariant.known
