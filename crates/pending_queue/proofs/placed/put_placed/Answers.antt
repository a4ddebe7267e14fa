use Rattle.std.proofs.Common.{List, length, get_or, ◌∙◌, sym, ap, arith}
use Rattle.std.specs.Prelude.{is_ok}
use Rattle.std.proofs.lemmas.Bool.{cond-true}
use Rattle.pending_queue.specs.declared.placed.Placed.{Placed}
use Rattle.pending_queue.specs.PlacedEntries.{placed_before}
use Rattle.xrc_edge.proofs.Merges.{order_put_at}
use Rattle.pending_queue.proofs.Places.{placed_order}
use Rattle.pending_queue.proofs.placed.put_placed.Goals as goal

pub returns-clause-put : goal.returns-clause-put
returns-clause-put c =
    let p = c.args.placed in
    let items = c.args.entries.now.items in
    let place = c.place_of-place.result in
    let value = c.as_slice.ensures.value in
    let found = c.place_of-place.ensures in
    let put = order_put_at placed_before placed_order p items place c.requires.ordered (omega (arith, found.within, ap length value))
    (λ k lt. ap (λ (t : List Placed). placed_before p (get_or t k p)) (sym value) ∙ found.before k p lt)
    (λ lt. ap (λ (t : List Placed). placed_before p (get_or t place p)) (sym value) ∙ found.after p (omega (arith, lt, ap length value))) in
    c.insert.ensures.items ∙ cond-true _ _ _ (ap is_ok c.unwrap.ensures) ∙ sym put
