use Rattle.std.proofs.Common.{◌≡◌, rules, true}
use Rattle.crash_plant.specs.PlainPlant.{plain_state}
use Rattle.workload_tests.proofs.Sites.{may_be}
use Rattle.workload_tests.proofs.finished.may_be_summed_up.Goals as goal

pub returns-else-not-are_long : goal.returns-else-not-are_long
returns-else-not-are_long c = λ fit.
    let long : c.are_long.result ≡ true = search rules in
    may_be (plain_state c.args.plant.now) (plain_state c.examine.new.plant) c.in-Ok.means c.requires c.examine.ensures.others (c.in-Ok.ensures.says tt) (c.are_long.ensures long) (c.have_tracks.ensures fit)
