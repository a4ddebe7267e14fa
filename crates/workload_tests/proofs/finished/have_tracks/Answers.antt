use Rattle.std.proofs.Common.{◌≡◌, rules, true, arith}
use Rattle.crash_plant.specs.PlainPlant.{plain_state}
use Rattle.workload.proofs.Counting.{row_at}
use Rattle.workload_tests.proofs.Rows.{has_one_more}
use Rattle.workload_tests.proofs.finished.have_tracks.Goals as goal

pub loop-place-preserved : goal.loop-place-preserved
loop-place-preserved c =
    let rows = c.args.table.now.rows in
    let i = c.loop-place.place in
    let row = row_at rows i (omega (arith, c.len-place-end.ensures.count, c.loop-place-test.true)) in
    let yes : c.has_tracks-fits.result ≡ true = search rules in
    has_one_more (plain_state c.args.plant.now) rows i row.0 c.loop-place.invariant row.1 (c.has_tracks-fits.ensures row.0 row.1 yes)
