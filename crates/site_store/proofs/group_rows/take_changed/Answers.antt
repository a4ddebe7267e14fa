use Rattle.std.proofs.Common.{rules, ◌≡◌, List, Some, None, sym, ap, ◌∙◌, ◌<◌, length, arith}
use Rattle.std.specs.Prelude.{slice_get}
use Rattle.std.specs.List.{list_any}
use Rattle.image_former.proofs.Lists.{item_there}
use Rattle.pair_table.specs.declared.row.PairRow.{PairRow}
use Rattle.pair_table.specs.Tables.{Table, is_of, with_rows, with_state}
use Rattle.site_store.specs.Hits.{with_group_and_hits}
use Rattle.site_store.proofs.HitRows.{row_below}
use Rattle.site_store.proofs.RowPuts.{taken, taken_at, taken_has, taken_long, taken_none, taken_some}
use Rattle.site_store.proofs.group_rows.take_changed.Goals as goal
use Rattle.site_store.proofs.group_rows.take_changed.Goals.{in-Some, in_default}

pub set_state-requires : goal.set_state-requires
set_state-requires c =
    let next_of = with_group_and_hits c.args.formed.now c.args.hits.now in
    let rows = c.args.table.now.rows in
    let i = c.loop-place.place in
    let are : c.loop-place.table.rows ≡ taken next_of rows i = ap (λ (t : Table). t.rows) c.loop-place.invariant in
    let long : length c.loop-place.table.rows ≡ length rows = ap length are ∙ taken_long next_of rows i in
    let from : c.from.result ≡ i = search (rules, c.from.ensures) in
    let lt : c.from.result < length c.rows-rows.result.now = omega (arith, c.loop-place-test.true, from, c.len-place-end.ensures.count, long, ap length c.rows-rows.ensures.rows) in
    let there : slice_get c.loop-place.table.rows i ≡ Some c.index-rows-from.result = ap (slice_get c.loop-place.table.rows) (sym from) ∙ item_there c.rows-rows.result.now c.loop-place.table.rows c.from.result c.index-rows-from.result c.rows-rows.ensures.rows lt c.index-rows-from.is in
    let at : slice_get rows i ≡ Some c.index-rows-from.result = sym (taken_at next_of rows i) ∙ ap (λ (l : List PairRow). slice_get l i) (sym are) ∙ there in
    ap (list_any (is_of c.index-rows-from.result.device)) are ∙ taken_has next_of rows i c.index-rows-from.result at

pub bounds-rows-from : goal.bounds-rows-from
bounds-rows-from c =
    let next_of = with_group_and_hits c.args.formed.now c.args.hits.now in
    let rows = c.args.table.now.rows in
    let i = c.loop-place.place in
    let long : length c.loop-place.table.rows ≡ length rows = ap (λ (t : Table). length t.rows) c.loop-place.invariant ∙ taken_long next_of rows i in
    let from : c.from.result ≡ i = search (rules, c.from.ensures) in
    omega (arith, c.loop-place-test.true, from, c.len-place-end.ensures.count, long, ap length c.rows-rows.ensures.rows)

pub loop-place-preserved : goal.loop-place-preserved
loop-place-preserved c =
    let next_of = with_group_and_hits c.args.formed.now c.args.hits.now in
    let rows = c.args.table.now.rows in
    let i = c.loop-place.place in
    let row = c.index-rows-from.result in
    let are : c.loop-place.table.rows ≡ taken next_of rows i = ap (λ (t : Table). t.rows) c.loop-place.invariant in
    let long : length c.loop-place.table.rows ≡ length rows = ap length are ∙ taken_long next_of rows i in
    let from : c.from.result ≡ i = search (rules, c.from.ensures) in
    let lt : c.from.result < length c.rows-rows.result.now = omega (arith, c.loop-place-test.true, from, c.len-place-end.ensures.count, long, ap length c.rows-rows.ensures.rows) in
    let there : slice_get c.loop-place.table.rows i ≡ Some row = ap (slice_get c.loop-place.table.rows) (sym from) ∙ item_there c.rows-rows.result.now c.loop-place.table.rows c.from.result row c.rows-rows.ensures.rows lt c.index-rows-from.is in
    let at : slice_get rows i ≡ Some row = sym (taken_at next_of rows i) ∙ ap (λ (l : List PairRow). slice_get l i) (sym are) ∙ there in
    elim c.match-record_state.branch [
      | in-Some w ↦
          let state = w.in-Some.state in
          let next : next_of row ≡ Some state = sym c.record_state.ensures.state ∙ w.in-Some.is in
          w.table-is ∙ w.set_state.ensures ∙ (λ k. with_rows (c.loop-place.invariant k) (with_state row.device state (are k))) ∙ ap (with_rows c.args.table.now) (taken_some next_of rows i row state c.len-place-end.ensures.rules.apart at next)
      | in_default w ↦
          let none : next_of row ≡ None = sym c.record_state.ensures.state ∙ w.in_default.is in
          w.table-is ∙ c.loop-place.invariant ∙ ap (with_rows c.args.table.now) (taken_none next_of rows i row at none)
    ]

pub record_state-requires : goal.record_state-requires
record_state-requires c =
    let next_of = with_group_and_hits c.args.formed.now c.args.hits.now in
    let rows = c.args.table.now.rows in
    let i = c.loop-place.place in
    let are : c.loop-place.table.rows ≡ taken next_of rows i = ap (λ (t : Table). t.rows) c.loop-place.invariant in
    let long : length c.loop-place.table.rows ≡ length rows = ap length are ∙ taken_long next_of rows i in
    let from : c.from.result ≡ i = search (rules, c.from.ensures) in
    let lt : c.from.result < length c.rows-rows.result.now = omega (arith, c.loop-place-test.true, from, c.len-place-end.ensures.count, long, ap length c.rows-rows.ensures.rows) in
    let there : slice_get c.loop-place.table.rows i ≡ Some c.index-rows-from.result = ap (slice_get c.loop-place.table.rows) (sym from) ∙ item_there c.rows-rows.result.now c.loop-place.table.rows c.from.result c.index-rows-from.result c.rows-rows.ensures.rows lt c.index-rows-from.is in
    let at : slice_get rows i ≡ Some c.index-rows-from.result = sym (taken_at next_of rows i) ∙ ap (λ (l : List PairRow). slice_get l i) (sym are) ∙ there in
    row_below 64 rows i c.index-rows-from.result c.requires at
