use Rattle.std.proofs.Common.{◌≡◌, ◌+◌, ℕ, suc, List, ◌++◌, length, Some, None, get_or, take, sym, ap, subst, ◌∙◌, arith}
use Rattle.std.specs.Prelude.{slice_get}
use Rattle.image_former.proofs.Lists.{item_there}
use Rattle.std.proofs.lemmas.List.{take_all}
use Rattle.pair_table.specs.declared.row.PairRow.{PairRow}
use Rattle.mover.specs.Dropping.{Drops, MakesDrops, VolumeDrop, drop_of, drops_from, owes_since}
use Rattle.mover.proofs.DropMade.{drops_more, drops_none, drops_then, stays_self, stays_then}
use Rattle.mover.proofs.SamePairs.{contains_at}
use Rattle.mover.proofs.settling.drop_suspended.Goals as goal

pub loop-place-init : goal.loop-place-init
loop-place-init g c = record { drops = drops_none c.args.seat.now; still = stays_self c.args.seat.now }

pub drop_row-requires-clause-table : goal.drop_row-requires-clause-table
drop_row-requires-clause-table g c = c.loop-place.invariant.still.here ∙ c.requires.table

pub drop_row-requires-clause-control : goal.drop_row-requires-clause-control
drop_row-requires-clause-control g c =
    let rows = c.args.table.now.rows in
    let row = c.row-item.result in
    let there : slice_get rows c.loop-place.place ≡ Some row = item_there c.rows-row-items.result.now rows c.loop-place.place row c.rows-row-items.ensures.rows c.loop-place-test.true c.row-item.is in
    omega (arith, c.requires.controls row (contains_at rows c.loop-place.place row there), c.loop-place.invariant.still.controls)

pub loop-place-preserved : goal.loop-place-preserved
loop-place-preserved g c =
    let rows = c.args.table.now.rows in
    let row = c.row-item.result in
    let i = c.loop-place.place in
    let was = c.args.was.now in
    let there : slice_get rows i ≡ Some row = item_there c.rows-row-items.result.now rows i row c.rows-row-items.ensures.rows c.loop-place-test.true c.row-item.is in
    let next : i + 1 ≡ suc i = omega arith in
    let here : i + 0 ≡ i = omega arith in
    let more : drops_from 0 was (take (i + 1) rows) ≡ drops_from 0 was (take i rows) ++ drop_of row (owes_since (get_or was i None) row.state) =
    ap (λ (n : ℕ). drops_from 0 was (take n rows)) next ∙ drops_more was 0 rows i row there ∙ ap (λ (n : ℕ). drops_from 0 was (take i rows) ++ drop_of row (owes_since (get_or was n None) row.state)) here in
    record {
      drops = subst (λ (l : List VolumeDrop). MakesDrops l c.args.seat.now c.drop_row.new.seat) (sym more) (drops_then (drops_from 0 was (take i rows)) (drop_of row (owes_since (get_or was i None) row.state)) c.args.seat.now c.loop-place.seat c.drop_row.new.seat c.loop-place.invariant.drops c.drop_row.ensures.drops);
      still = stays_then c.args.seat.now c.loop-place.seat c.drop_row.new.seat c.loop-place.invariant.still c.drop_row.ensures.seat;
    }

pub returns-clause-drops : goal.returns-clause-drops
returns-clause-drops g c =
    let rows = c.args.table.now.rows in
    let all : take c.loop-place.place rows ≡ rows = take_all c.loop-place.place rows (omega (arith, c.loop-place-test.false, ap length c.rows-row-items.ensures.rows)) in
    subst (λ (l : List PairRow). Drops c.args.was.now l c.args.seat.now c.loop-place.seat) all c.loop-place.invariant.drops
