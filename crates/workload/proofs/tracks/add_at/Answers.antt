use Rattle.std.proofs.Common.{◌≡◌, Some, IsTrue, sym, ◌∙◌}
use Rattle.std.specs.Prelude.{slice_get}
use Rattle.crash_plant.specs.PlainPlant.{plain_state}
use Rattle.pair_table.specs.declared.row.PairRow.{PairRow}
use Rattle.workload.specs.Summaries.{HasTracks, is_duplex_pair}
use Rattle.workload.proofs.Holding.{below_at, holds_at}
use Rattle.workload.proofs.tracks.add_at.Goals as goal

pub add_row-requires-clause-there : goal.add_row-requires-clause-there
add_row-requires-clause-there c =
    let rows = c.args.table.now.rows in
    let row = c.in-Some.row.now in
    let is : slice_get rows c.args.place ≡ Some row = sym c.in-Some.ensures.row in
    let below = below_at (plain_state c.args.plant.now).volumes rows c.args.place row c.requires.site.below is in
    (below, c.requires.site.home row.device below)

pub add_row-requires-clause-long : goal.add_row-requires-clause-long
add_row-requires-clause-long c =
    let rows = c.args.table.now.rows in
    let row = c.in-Some.row.now in
    let is : slice_get rows c.args.place ≡ Some row = sym c.in-Some.ensures.row in
    holds_at (λ (r : PairRow). IsTrue (is_duplex_pair r) → HasTracks (plain_state c.args.plant.now) r) rows c.args.place row c.requires.site.each is (sym c.is_duplex.ensures ∙ c.if-is_duplex.true)
