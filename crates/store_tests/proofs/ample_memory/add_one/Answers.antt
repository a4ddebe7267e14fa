use Rattle.std.proofs.Common.{rules, ◌≡◌}
use Rattle.pair_table.specs.declared.level.Level.TheVariants.{Session}
use Rattle.site_store.specs.Sites.{new_site}
use Rattle.store_tests.proofs.Between.{new_may}
use Rattle.store_tests.proofs.ample_memory.add_one.Goals as goal

pub command-answer-requires : goal.command-answer-requires
command-answer-requires g c =
    let volumes = (g.P.Plant.state c.args.plant.now).volumes in
    let is : c.expect-site.result ≡ new_site 1 volumes c.session.result Session (record { 0 = 80 }) = search rules in
    let two : volumes ≡ 2 = search rules in
    record { may = new_may c.session.result Session (record { 0 = 80 }) volumes c.names-names.result c.expect-site.result is two c.names-names.ensures }
