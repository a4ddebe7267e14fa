use Rattle.std.proofs.Common.{rules, ◌≡◌, ◌+◌, ◌*◌, ◌≤◌, ◌<◌, Ok, arith}
use Rattle.crash_plant.specs.declared.device.Device.TheVariants.{Volume}
use Rattle.site_store.specs.Commands.{after_put}
use Rattle.site_store.proofs.Between.{put_may}
use Rattle.store_tests.proofs.Between.{then_ok}
use Rattle.store_tests.proofs.calls.put.Goals as goal

pub returns : goal.returns
returns g c =
    let site = c.args.site.now in
    let plant = g.P.Plant.state c.args.plant.now in
    let row = c.args.row in
    let put : c.put_row.new.self ≡ after_put row site = search rules in
    let ok : c.put_row.result ≡ Ok tt = search rules in
    let below : row.device < plant.volumes = search rules in
    let long : 512 + row.cylinders * 860160 ≤ plant.lengths (Volume row.device) = omega (arith, c.length-size.ensures) in
    let late : site.time ≤ c.args.cut.0 = search rules in
    put_may g.P.Plant.tells site plant row c.requires below long c.args.cut.0 c.put_row.new.self put late (then_ok c.put_row.result ok c.put_row.ensures.to_log)
