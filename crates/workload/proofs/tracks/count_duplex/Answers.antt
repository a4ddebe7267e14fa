use Rattle.std.proofs.Common.{◌≡◌, ◌+◌, ◌∙◌, true, false, sym, arith}
use Rattle.workload.proofs.Counting.{duplex_more, row_at}
use Rattle.workload.proofs.tracks.count_duplex.Goals as goal
use Rattle.workload.proofs.tracks.count_duplex.Goals.{then-is_duplex_at, else-is_duplex_at}

pub loop-place-preserved : goal.loop-place-preserved
loop-place-preserved c =
    let rows = c.args.table.now.rows in
    let i = c.loop-place.place in
    let row = row_at rows i (omega (arith, c.len-place-end.ensures.count, c.loop-place-test.true)) in
    let is = c.is_duplex_at.ensures row.0 row.1 in
    elim c.if-is_duplex_at.branch [
      | then-is_duplex_at w ↦ duplex_more rows i c.loop-place.count c.if-is_duplex_at.count row.0 true row.2 (sym w.if-is_duplex_at.true ∙ is) c.loop-place.invariant w.count-is
      | else-is_duplex_at w ↦
          let none : c.loop-place.count ≡ c.loop-place.count + 0 = omega arith in
          duplex_more rows i c.loop-place.count c.if-is_duplex_at.count row.0 false row.2 (sym w.if-is_duplex_at.false ∙ is) c.loop-place.invariant (w.count-is ∙ none)
    ]
