use Rattle.std.proofs.Common.{refl, Ok}
use Rattle.crash_plant.specs.PlainPlant.{plain_state}
use Rattle.workload.proofs.Leaving.{leaves_read}
use Rattle.xrc_cli.proofs.Generated.{all_summed, may_be_summed_up, meant_still, none_short}
use Rattle.xrc_cli.proofs.generating.sum_up.Goals as goal

pub summary-requires : goal.summary-requires
summary-requires c =
    let a = plain_state c.args.ran.now in
    let b = plain_state c.examine.new.plant in
    let leaves = leaves_read c.args.ran.now c.examine.new.plant c.examine.ensures.others in
    may_be_summed_up a b leaves c.in-Ok.means c.requires (none_short a c.in-Ok.means (Ok c.in-Ok.means) refl c.in-Ok.ensures.short) (c.in-Ok.ensures.says tt) (c.have_tracks.ensures.0 c.if-have_tracks.true)

pub returns-in-Ok : goal.returns-in-Ok
returns-in-Ok c =
    let a = plain_state c.args.ran.now in
    let b = plain_state c.examine.new.plant in
    let leaves = leaves_read c.args.ran.now c.examine.new.plant c.examine.ensures.others in
    let mean = c.in-Ok.ensures.says tt in
    all_summed a b leaves c.args.number c.in-Ok.means c.summary.result mean (c.summary.ensures.line c.in-Ok.means (meant_still a b leaves c.in-Ok.means mean))
