use Rattle.std.proofs.Common.{rules, ◌∙◌, sym}
use Rattle.third_copy.proofs.Labels.{target_is}
use Rattle.third_copy.proofs.targets.find_target.Goals as goal

pub returns-clause-told : goal.returns-clause-told
returns-clause-told g c told read =
    let plant = g.P.Plant.state c.args.plant.now in
    c.read_target.ensures.told told read ∙ sym (target_is plant c.args.table.now.rows c.args.shift c.args.row.now (search rules) (search rules))
