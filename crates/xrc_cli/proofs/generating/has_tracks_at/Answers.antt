use Rattle.std.proofs.Common.{◌≡◌, Some, sym}
use Rattle.std.specs.Prelude.{slice_get}
use Rattle.crash_plant.specs.PlainPlant.{plain_state}
use Rattle.workload.proofs.Holding.{below_at}
use Rattle.xrc_cli.proofs.generating.has_tracks_at.Goals as goal

pub length-requires : goal.length-requires
length-requires c =
    let rows = c.args.table.now.rows in
    let row = c.in-Some.row.now in
    let is : slice_get rows c.args.place ≡ Some row = sym c.in-Some.ensures.row in
    let below = below_at (plain_state c.args.plant.now).volumes rows c.args.place row c.requires.below is in
    (below, c.requires.home row.device below)
